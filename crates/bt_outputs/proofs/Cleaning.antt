-- What an output that rejects nothing asks reaches no reject.
use Rattle.std.proofs.Common.{◌≡◌, ℕ, zero, suc, ◌+◌, ◌*◌, ◌<◌, Bool, true, false, ◌&&◌, not, eqb, nat_lt, if◌then◌else◌, List, [], ◌∷◌, map, Some, option_and_then, subst, arith}
use Rattle.std.proofs.lemmas.Bool.{and_parts, ltb-true}
use Rattle.bt_demand.specs.Asked.{IsClean, AreClean}
use Rattle.bt_demand.specs.Tree.{Tree, Trees, first, none, more}
use Rattle.bt_outputs.specs.declared.output.Output.{Output, fold-roll-Output, ind-Output, roll-Output, map-Output}
use Rattle.bt_outputs.specs.declared.output.Output.TheOpen.{Output-F}
use Rattle.bt_outputs.specs.declared.output.OutputCase.{OutputCase}
use Rattle.bt_outputs.specs.declared.output.Shift.{Shift}
use Rattle.bt_outputs.specs.Asked as spec
use Rattle.bt_outputs.specs.Asked.{Given, Route, each, chosen, passes, copies_of, behind, route, route_of}
use Rattle.bt_outputs.specs.Clean.{all_of, rejects_nothing, rejects_nothing_of}
use Rattle.bt_outputs.specs.Numbers.{Next, Numbering, if_so, in_turn, in_turn_some, held, retried, numbers, numbers_of}
use Rattle.bt_outputs.proofs.Standing.{opened, allowed}

-- an output that stands well and rejects nothing
abbrev Keeps : Numbering → Route → Bool → Type 0
Keeps f r b = (p q : Next) → f p ≡ Some q → b ≡ true → (s : Shift) (x : Given) → IsClean (r s x)

abbrev Shown : ℕ → Type 0
Shown n = (o : Output) × Keeps (numbers n o) (route o) (rejects_nothing o)

abbrev outputs : (n : ℕ) → List (Shown n) → List Output
outputs n os = map (λ (e : Shown n). e.0) os

items : (n : ℕ) (os : List (Shown n)) (p q : Next) → in_turn (map (numbers n) (outputs n os)) p ≡ Some q → all_of (map rejects_nothing (outputs n os)) ≡ true → (s : Shift) (x : Given) →
    AreClean (each (map route (outputs n os)) s x)
items n [] p q h b s x = tt
items n (o ∷ os) p q h b s x =
    let next = opened (numbers n o.0 p) (in_turn (map (numbers n) (outputs n os))) q h in
    let both = and_parts (rejects_nothing o.0) (all_of (map rejects_nothing (outputs n os))) b in
    (o.1 p next.0 next.1 both.0 s x, items n os next.0 q next.2 both.1 s x)

some_items : (n : ℕ) (os : List (Shown n)) (p q : Next) → in_turn_some (map (numbers n) (outputs n os)) p ≡ Some q → all_of (map rejects_nothing (outputs n os)) ≡ true → (s : Shift) (x : Given) →
    IsClean (first (each (map route (outputs n os)) s x))
some_items n [] p q h b s x = absurd (cc)
some_items n (o ∷ os) p q h b s x = (items n (o ∷ os) p q h b s x).0

abbrev case_with : {A B : Type 0} → (A → B) → OutputCase A → OutputCase B
case_with f k = record { check = k.check; goes_on = k.goes_on; output = f k.output }

abbrev cases : (n : ℕ) → List (OutputCase (Shown n)) → List (OutputCase Output)
cases n ks = map (case_with (λ (e : Shown n). e.0)) ks

further : (b : Bool) (fs : List Route) (s : Shift) (x : Given) → AreClean (each fs s x) → AreClean (each (if b then fs else []) s x)
further true fs s x h = h
further false fs s x h = tt

chosen_case : (b : Bool) (f : Route) (gs fs : List Route) (s : Shift) (x : Given) → IsClean (f s x) → AreClean (each gs s x) → AreClean (each fs s x) → AreClean (each (if b then f ∷ gs else fs) s x)
chosen_case true f gs fs s x here after others = (here, after)
chosen_case false f gs fs s x here after others = others

chosen_clean : (n : ℕ) (ks : List (OutputCase (Shown n))) (p q : Next) → in_turn (map (λ (k : OutputCase Numbering). k.output) (map (case_with (numbers n)) (cases n ks))) p ≡ Some q →
    all_of (map (λ (k : OutputCase Bool). k.output) (map (case_with rejects_nothing) (cases n ks))) ≡ true → (s : Shift) (x : Given) → AreClean (each (chosen (map (case_with route) (cases n ks)) x) s x)
chosen_clean n [] p q h b s x = tt
chosen_clean n (k ∷ ks) p q h b s x =
    let next = opened (numbers n k.output.0 p) (in_turn (map (λ (j : OutputCase Numbering). j.output) (map (case_with (numbers n)) (cases n ks)))) q h in
    let both = and_parts (rejects_nothing k.output.0) (all_of (map (λ (j : OutputCase Bool). j.output) (map (case_with rejects_nothing) (cases n ks)))) b in
    let rest = chosen_clean n ks next.0 q next.2 both.1 s x in
    chosen_case (passes k.check x) (route k.output.0) (if k.goes_on then chosen (map (case_with route) (cases n ks)) x else []) (chosen (map (case_with route) (cases n ks)) x) s x
    (k.output.1 p next.0 next.1 both.0 s x) (further k.goes_on (chosen (map (case_with route) (cases n ks)) x) s x rest) rest

matched_clean : (strict : Bool) (ts : Trees) → not strict ≡ true → AreClean ts → IsClean (spec.matched strict ts)
matched_clean true none b h = absurd (cc)
matched_clean false none b h = tt
matched_clean strict (more t ts) b h = h

copies_clean : (m leaves holds : ℕ) (r : Route) (s : Shift) (x : Given) → 0 < m → IsClean (r s x) → IsClean (first (copies_of m leaves holds r s x))
copies_clean zero leaves holds r s x few h = absurd (omega (arith, few))
copies_clean (suc m) leaves holds r s x few h = h

retry_clean : (f : Numbering) (r : Route) (b : Bool) → Keeps f r b → (p q : Next) (m leaves holds : ℕ) → option_and_then (retried m leaves holds p) (f p) ≡ Some q → b ≡ true → (s : Shift) (x : Given) →
    IsClean (first (copies_of m leaves holds r s x))
retry_clean f r b keeps p q m leaves holds h is s x =
    let one = opened (f p) (retried m leaves holds p) q h in
    let end : Next = record { leaf = p.leaf + m * leaves; hold = p.hold + m * holds } in
    let ok = allowed (nat_lt 0 m && eqb one.0.leaf (p.leaf + leaves) && eqb one.0.hold (p.hold + holds)) end q one.2 in
    let parts = and_parts (nat_lt 0 m && eqb one.0.leaf (p.leaf + leaves)) (eqb one.0.hold (p.hold + holds)) ok.0 in
    let more_parts = and_parts (nat_lt 0 m) (eqb one.0.leaf (p.leaf + leaves)) parts.0 in
    copies_clean m leaves holds r s x (ltb-true 0 m more_parts.0) (keeps p one.0 one.1 is s x)

hold_clean : (number : ℕ) (f : Numbering) (p q : Next) (t : Tree) → option_and_then (λ (here : Next). option_and_then (held p) (f here)) (if_so (eqb number p.hold) (record p { hold = suc p.hold })) ≡ Some q →
    ((here r : Next) → f here ≡ Some r → IsClean t) → IsClean t
hold_clean number f p q t h keeps =
    let first = opened (if_so (eqb number p.hold) (record p { hold = suc p.hold })) (λ (here : Next). option_and_then (held p) (f here)) q h in
    let second = opened (f first.0) (held p) q first.2 in keeps first.0 second.0 second.1

or_dropped_clean : (error : Bool) (t : Tree) → IsClean t → IsClean (spec.or_dropped error t)
or_dropped_clean true t h = h
or_dropped_clean false t h = h

abbrev under : (n : ℕ) → Output-F (Shown n) → Output-F Output
under n y = map-Output (Shown n) Output (λ e. e.0) y

level : (n : ℕ) (y : Output-F (Shown n)) →
    Keeps (numbers_of n (map-Output Output Numbering (numbers n) (under n y))) (route_of (map-Output Output Route route (under n y))) (rejects_nothing_of (map-Output Output Bool rejects_nothing (under n y)))
level n (Output-F.Leaf number sink) p q h b s x = tt
level n Output-F.Drop p q h b s x = tt
level n (Output-F.Reject text) p q h b s x = absurd (cc)
level n (Output-F.RejectErrored e) p q h b s x = absurd (cc)
level n (Output-F.Broker os) p q h b s x = items n os p q h b s x
level n (Output-F.Hold number check e) p q h b s x = hold_clean number (numbers n e.0) p q (route e.0 s x) h (λ here r is. e.1 here r is b s x)
level n (Output-F.Switch ks strict) p q h b s x =
    let both = and_parts (not strict) (all_of (map (λ (k : OutputCase Bool). k.output) (map (case_with rejects_nothing) (cases n ks)))) b in
    matched_clean strict _ both.0 (chosen_clean n ks p q h both.1 s x)
level n (Output-F.Fallback os) p q h b s x = some_items n os p q h b s x
level n (Output-F.Retry m leaves holds e) p q h b s x = retry_clean (numbers n e.0) (route e.0) (rejects_nothing e.0) e.1 p q m leaves holds h b s x
level n (Output-F.DropOn error e) p q h b s x = or_dropped_clean error _ (e.1 p q h b s x)

pub clean : (n : ℕ) (o : Output) → Keeps (numbers n o) (route o) (rejects_nothing o)
clean n = ind-Output (λ o. Keeps (numbers n o) (route o) (rejects_nothing o))
    (λ x y is. subst (λ z. Keeps (numbers n (roll-Output z)) (route (roll-Output z)) (rejects_nothing (roll-Output z))) is
    (rw (fold-roll-Output Numbering (numbers_of n) (under n y), fold-roll-Output Route route_of (under n y), fold-roll-Output Bool rejects_nothing_of (under n y)) (level n y)))

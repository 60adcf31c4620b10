-- What an output that stands well asks is well formed.
use Rattle.std.proofs.Common.{◌≡◌, ℕ, zero, suc, ◌+◌, ◌*◌, ◌≤◌, ◌<◌, Bool, true, false, ◌&&◌, eqb, nat_lt, if◌then◌else◌, List, [], ◌∷◌, map, Option, Some, None, option_and_then, refl, sym, ap, subst, arith, zero-add}
use Rattle.std.proofs.lemmas.Bool.{and_parts, eqb-true, ltb-true}
use Rattle.bt_demand.specs.Tree.{Tree, Trees, leaf, drop, first, hold, none, more}
use Rattle.bt_demand.specs.WellFormed.{leaves, leaves_in, nodes, nodes_in}
use Rattle.bt_demand.specs.declared.demand.State.TheVariants.{Untried as Fresh}
use Rattle.bt_demand.specs.declared.demand.Stage.TheVariants.{Untried as Idle}
use Rattle.bt_outputs.specs.declared.output.Output.{Output, fold-roll-Output, ind-Output, roll-Output, map-Output}
use Rattle.bt_outputs.specs.declared.output.Output.TheOpen.{Output-F}
use Rattle.bt_outputs.specs.declared.output.OutputCase.{OutputCase}
use Rattle.bt_outputs.specs.declared.output.Shift.{Shift}
use Rattle.bt_outputs.specs.Asked as spec
use Rattle.bt_outputs.specs.Asked.{Given, Route, each, chosen, passes, copies_of, behind, route, route_of}
use Rattle.bt_outputs.specs.Numbers.{Next, Numbering, if_so, in_turn, in_turn_some, held, retried, numbers, numbers_of}
use Rattle.bt_outputs.proofs.Climbing.{Climbs, bounds, nothing}
use Rattle.bt_outputs.proofs.Fitting.{Fits, AllFit, no_trees, one_more, skipped, of_all, of_first, dropped, rejected}

-- the demand that a route gives where its numbers run from p to q
abbrev Goes : ℕ → Shift → Next → Next → Tree → Type 0
Goes n s p q t = Fits n (s.leaves + p.leaf) (s.leaves + q.leaf) (s.holds + p.hold) (s.holds + q.hold) t

abbrev AllGo : ℕ → Shift → Next → Next → Trees → Type 0
AllGo n s p q ts = AllFit n (s.leaves + p.leaf) (s.leaves + q.leaf) (s.holds + p.hold) (s.holds + q.hold) ts

abbrev Keeps : ℕ → Numbering → Route → Type 0
Keeps n f r = (p q : Next) → f p ≡ Some q → (s : Shift) (x : Given) → Goes n s p q (r s x)

-- numbers that are there behind two outputs are there behind the first
pub opened : (o : Option Next) (f : Numbering) (q : Next) → option_and_then f o ≡ Some q → (r : Next) × (o ≡ Some r) × (f r ≡ Some q)
opened None f q h = absurd (cc)
opened (Some r) f q h = (r, refl, h)

pub allowed : (b : Bool) (p q : Next) → if_so b p ≡ Some q → (b ≡ true) × (p ≡ q)
allowed true p q h = (refl, cc)
allowed false p q h = absurd (cc)

leaf_up : (n : ℕ) (s : Shift) (p q : Next) (t : Tree) → Goes n s p q t → (s.leaves + p.leaf) ≤ (s.leaves + q.leaf)
leaf_up n s p q t h = bounds (s.leaves + p.leaf) (leaves t) (s.leaves + q.leaf) h.leaves_climb

hold_up : (n : ℕ) (s : Shift) (p q : Next) (t : Tree) → Goes n s p q t → (s.holds + p.hold) ≤ (s.holds + q.hold)
hold_up n s p q t h = bounds (s.holds + p.hold) (nodes t) (s.holds + q.hold) h.nodes_climb

leaves_up : (n : ℕ) (s : Shift) (p q : Next) (ts : Trees) → AllGo n s p q ts → (s.leaves + p.leaf) ≤ (s.leaves + q.leaf)
leaves_up n s p q ts h = bounds (s.leaves + p.leaf) (leaves_in ts) (s.leaves + q.leaf) h.leaves_climb

holds_up : (n : ℕ) (s : Shift) (p q : Next) (ts : Trees) → AllGo n s p q ts → (s.holds + p.hold) ≤ (s.holds + q.hold)
holds_up n s p q ts h = bounds (s.holds + p.hold) (nodes_in ts) (s.holds + q.hold) h.nodes_climb

leaf_goes : (n : ℕ) (number sink : ℕ) (b : List ℕ) (p q : Next) (s : Shift) → if_so (eqb number p.leaf && nat_lt sink n) (record p { leaf = suc p.leaf }) ≡ Some q →
    Goes n s p q (leaf (s.leaves + number) sink b Fresh)
leaf_goes n number sink b p q s h =
    let ok = allowed (eqb number p.leaf && nat_lt sink n) (record p { leaf = suc p.leaf }) q h in
    let both = and_parts (eqb number p.leaf) (nat_lt sink n) ok.0 in
    let same = eqb-true number p.leaf both.0 in
    let known = ltb-true sink n both.1 in
    let up : q.leaf ≡ suc p.leaf = sym (ap (λ (v : Next). v.leaf) ok.1) in
    let stays : q.hold ≡ p.hold = sym (ap (λ (v : Next). v.hold) ok.1) in
    record {
      leaves_climb = (omega (arith, same), omega (arith, same, up));
      nodes_climb = omega (arith, stays);
      sinks_known = (known, tt);
      flat = tt;
      firsts = tt;
      untried = refl;
    }

stays_goes : (n : ℕ) (p q : Next) (s : Shift) → Some p ≡ Some q → (s.leaves + p.leaf ≤ s.leaves + q.leaf) × (s.holds + p.hold ≤ s.holds + q.hold)
stays_goes n p q s h =
    let same : p ≡ q = cc in
    (subst (λ (v : Next). s.leaves + p.leaf ≤ s.leaves + v.leaf) same (omega arith), subst (λ (v : Next). s.holds + p.hold ≤ s.holds + v.hold) same (omega arith))

flagged_goes : (n : ℕ) (flag : Option (List ℕ)) (p q : Next) (s : Shift) (t : Tree) → Goes n s p q t → Goes n s p q (spec.unless_flagged flag t)
flagged_goes n None p q s t h = h
flagged_goes n (Some w) p q s t h = rejected n _ _ _ _ w (leaf_up n s p q t h) (hold_up n s p q t h)

hold_goes : (n : ℕ) (number : ℕ) (e : Bool) (z : ℕ) (f : Numbering) (p q : Next) (s : Shift) (t : Tree) →
    option_and_then (λ (here : Next). option_and_then (held p) (f here)) (if_so (eqb number p.hold) (record p { hold = suc p.hold })) ≡ Some q →
    ((here r : Next) → f here ≡ Some r → Goes n s here r t) → Goes n s p q (hold (s.holds + number) e z t Idle)
hold_goes n number e z f p q s t h keeps =
    let first = opened (if_so (eqb number p.hold) (record p { hold = suc p.hold })) (λ (here : Next). option_and_then (held p) (f here)) q h in
    let ok = allowed (eqb number p.hold) (record p { hold = suc p.hold }) first.0 first.1 in
    let second = opened (f first.0) (held p) q first.2 in
    let known = allowed (eqb second.0.hold (suc p.hold)) second.0 q second.2 in
    let same = eqb-true number p.hold ok.0 in
    let ends = eqb-true second.0.hold (suc p.hold) known.0 in
    let child = keeps first.0 second.0 second.1 in
    let at_leaf : p.leaf ≡ first.0.leaf = ap (λ (v : Next). v.leaf) ok.1 in
    let at_hold : suc p.hold ≡ first.0.hold = ap (λ (v : Next). v.hold) ok.1 in
    let to_leaf : second.0.leaf ≡ q.leaf = ap (λ (v : Next). v.leaf) known.1 in
    let to_hold : second.0.hold ≡ q.hold = ap (λ (v : Next). v.hold) known.1 in
    let none_below : nodes t ≡ [] = nothing (s.holds + suc p.hold) (nodes t)
    (subst (λ k. Climbs (s.holds + suc p.hold) (nodes t) (s.holds + k)) ends (subst (λ k. Climbs (s.holds + k) (nodes t) (s.holds + second.0.hold)) (sym at_hold) child.nodes_climb)) in
    record {
      leaves_climb = subst (λ k. Climbs (s.leaves + p.leaf) (leaves t) (s.leaves + k)) to_leaf (subst (λ k. Climbs (s.leaves + k) (leaves t) (s.leaves + second.0.leaf)) (sym at_leaf) child.leaves_climb);
      nodes_climb = (omega (arith, same), rw none_below (omega (arith, same, ends, to_hold)));
      sinks_known = child.sinks_known;
      flat = none_below;
      firsts = child.firsts;
      untried = child.untried;
    }

abbrev Shown : ℕ → Type 0
Shown n = (o : Output) × Keeps n (numbers n o) (route o)

abbrev outputs : (n : ℕ) → List (Shown n) → List Output
outputs n os = map (λ (e : Shown n). e.0) os

items : (n : ℕ) (os : List (Shown n)) (p q : Next) → in_turn (map (numbers n) (outputs n os)) p ≡ Some q → (s : Shift) (x : Given) → AllGo n s p q (each (map route (outputs n os)) s x)
items n [] p q h s x = let at = stays_goes n p q s h in no_trees n _ _ _ _ at.0 at.1
items n (o ∷ os) p q h s x =
    let next = opened (numbers n o.0 p) (in_turn (map (numbers n) (outputs n os))) q h in
    one_more n _ _ _ _ _ _ _ _ (o.1 p next.0 next.1 s x) (items n os next.0 q next.2 s x)

some_items : (n : ℕ) (os : List (Shown n)) (p q : Next) → in_turn_some (map (numbers n) (outputs n os)) p ≡ Some q → (s : Shift) (x : Given) → Goes n s p q (first (each (map route (outputs n os)) s x))
some_items n [] p q h s x = absurd (cc)
some_items n (o ∷ os) p q h s x = of_first n _ _ _ _ _ _ (items n (o ∷ os) p q h s x)

abbrev case_with : {A B : Type 0} → (A → B) → OutputCase A → OutputCase B
case_with f k = record { check = k.check; goes_on = k.goes_on; output = f k.output }

abbrev cases : (n : ℕ) → List (OutputCase (Shown n)) → List (OutputCase Output)
cases n ks = map (case_with (λ (e : Shown n). e.0)) ks

further : (n : ℕ) (b : Bool) (fs : List Route) (p q : Next) (s : Shift) (x : Given) → AllGo n s p q (each fs s x) → AllGo n s p q (each (if b then fs else []) s x)
further n true fs p q s x h = h
further n false fs p q s x h = no_trees n _ _ _ _ (leaves_up n s p q (each fs s x) h) (holds_up n s p q (each fs s x) h)

chosen_case : (n : ℕ) (b : Bool) (f : Route) (gs fs : List Route) (p r q : Next) (s : Shift) (x : Given) → Goes n s p r (f s x) → AllGo n s r q (each gs s x) → AllGo n s r q (each fs s x) →
    AllGo n s p q (each (if b then f ∷ gs else fs) s x)
chosen_case n true f gs fs p r q s x here after others = one_more n _ _ _ _ _ _ _ _ here after
chosen_case n false f gs fs p r q s x here after others = skipped n _ _ _ _ _ _ _ (leaf_up n s p r (f s x) here) (hold_up n s p r (f s x) here) others

chosen_go : (n : ℕ) (ks : List (OutputCase (Shown n))) (p q : Next) → in_turn (map (λ (k : OutputCase Numbering). k.output) (map (case_with (numbers n)) (cases n ks))) p ≡ Some q →
    (s : Shift) (x : Given) → AllGo n s p q (each (chosen (map (case_with route) (cases n ks)) x) s x)
chosen_go n [] p q h s x = let at = stays_goes n p q s h in no_trees n _ _ _ _ at.0 at.1
chosen_go n (k ∷ ks) p q h s x =
    let next = opened (numbers n k.output.0 p) (in_turn (map (λ (j : OutputCase Numbering). j.output) (map (case_with (numbers n)) (cases n ks)))) q h in
    let rest = chosen_go n ks next.0 q next.2 s x in
    chosen_case n (passes k.check x) (route k.output.0) (if k.goes_on then chosen (map (case_with route) (cases n ks)) x else []) (chosen (map (case_with route) (cases n ks)) x)
    p next.0 q s x (k.output.1 p next.0 next.1 s x) (further n k.goes_on (chosen (map (case_with route) (cases n ks)) x) next.0 q s x rest) rest

matched_goes : (n : ℕ) (strict : Bool) (ts : Trees) (p q : Next) (s : Shift) → AllGo n s p q ts → Goes n s p q (spec.matched strict ts)
matched_goes n true none p q s h = rejected n _ _ _ _ _ (leaves_up n s p q none h) (holds_up n s p q none h)
matched_goes n false none p q s h = dropped n _ _ _ _ (leaves_up n s p q none h) (holds_up n s p q none h)
matched_goes n strict (more t ts) p q s h = of_all n _ _ _ _ _ h

-- behind a copy its numbers begin again, so much later
AllFit_at : (n a b c d a' b' c' d' : ℕ) (ts : Trees) → a ≡ a' → b ≡ b' → c ≡ c' → d ≡ d' → AllFit n a b c d ts → AllFit n a' b' c' d' ts
AllFit_at n a b c d a' b' c' d' ts e f g h k = subst (λ v. AllFit n v b' c' d' ts) e (subst (λ v. AllFit n a v c' d' ts) f (subst (λ v. AllFit n a b v d' ts) g (subst (λ v. AllFit n a b c v ts) h k)))

copies_go : (n : ℕ) (f : Numbering) (r : Route) → Keeps n f r → (p q : Next) → f p ≡ Some q → (leaves holds : ℕ) → q.leaf ≡ p.leaf + leaves → q.hold ≡ p.hold + holds →
    (m : ℕ) (s : Shift) (x : Given) → AllFit n (s.leaves + p.leaf) (s.leaves + (p.leaf + m * leaves)) (s.holds + p.hold) (s.holds + (p.hold + m * holds)) (copies_of m leaves holds r s x)
copies_go n f r keeps p q h leaves holds e g zero s x = no_trees n _ _ _ _ (omega arith) (omega arith)
copies_go n f r keeps p q h leaves holds e g (suc m) s x =
    let here = keeps p q h s x in
    let rest = copies_go n f r keeps p q h leaves holds e g m (behind leaves holds s) x in
    one_more n _ _ _ _ _ _ _ _ here (AllFit_at n _ _ _ _ _ _ _ _ _ (omega (arith, e)) (omega (arith, e)) (omega (arith, g)) (omega (arith, g)) rest)

first_copies : (n m a b c d leaves holds : ℕ) (r : Route) (s : Shift) (x : Given) → 0 < m → AllFit n a b c d (copies_of m leaves holds r s x) → Fits n a b c d (first (copies_of m leaves holds r s x))
first_copies n zero a b c d leaves holds r s x h k = absurd (omega (arith, h))
first_copies n (suc m) a b c d leaves holds r s x h k = of_first n _ _ _ _ _ _ k

retry_goes : (n : ℕ) (f : Numbering) (r : Route) → Keeps n f r → (p q : Next) (m leaves holds : ℕ) → option_and_then (retried m leaves holds p) (f p) ≡ Some q → (s : Shift) (x : Given) →
    Goes n s p q (first (copies_of m leaves holds r s x))
retry_goes n f r keeps p q m leaves holds h s x =
    let one = opened (f p) (retried m leaves holds p) q h in
    let end : Next = record { leaf = p.leaf + m * leaves; hold = p.hold + m * holds } in
    let ok = allowed (nat_lt 0 m && eqb one.0.leaf (p.leaf + leaves) && eqb one.0.hold (p.hold + holds)) end q one.2 in
    let parts = and_parts (nat_lt 0 m && eqb one.0.leaf (p.leaf + leaves)) (eqb one.0.hold (p.hold + holds)) ok.0 in
    let more_parts = and_parts (nat_lt 0 m) (eqb one.0.leaf (p.leaf + leaves)) parts.0 in
    subst (λ (v : Next). Goes n s p v (first (copies_of m leaves holds r s x))) ok.1
    (first_copies n m _ _ _ _ leaves holds r s x (ltb-true 0 m more_parts.0)
    (copies_go n f r keeps p one.0 one.1 leaves holds (eqb-true one.0.leaf (p.leaf + leaves) more_parts.1) (eqb-true one.0.hold (p.hold + holds) parts.1) m s x))

or_dropped_goes : (n : ℕ) (error : Bool) (p q : Next) (s : Shift) (t : Tree) → Goes n s p q t → Goes n s p q (spec.or_dropped error t)
or_dropped_goes n true p q s t h =
    let last : AllGo n s q q (more drop none) = one_more n _ _ _ _ _ _ drop none (dropped n (s.leaves + q.leaf) (s.leaves + q.leaf) (s.holds + q.hold) (s.holds + q.hold) (omega arith) (omega arith))
    (no_trees n (s.leaves + q.leaf) (s.leaves + q.leaf) (s.holds + q.hold) (s.holds + q.hold) (omega arith) (omega arith)) in
    of_first n _ _ _ _ _ _ (one_more n _ _ _ _ _ _ _ _ h last)
or_dropped_goes n false p q s t h = h

abbrev under : (n : ℕ) → Output-F (Shown n) → Output-F Output
under n y = map-Output (Shown n) Output (λ e. e.0) y

level : (n : ℕ) (y : Output-F (Shown n)) → Keeps n (numbers_of n (map-Output Output Numbering (numbers n) (under n y))) (route_of (map-Output Output Route route (under n y)))
level n (Output-F.Leaf number sink) p q h s x = leaf_goes n number sink x.bytes p q s h
level n Output-F.Drop p q h s x = let at = stays_goes n p q s h in dropped n _ _ _ _ at.0 at.1
level n (Output-F.Reject text) p q h s x = let at = stays_goes n p q s h in rejected n _ _ _ _ _ at.0 at.1
level n (Output-F.RejectErrored e) p q h s x = flagged_goes n x.message.flag p q s _ (e.1 p q h s x)
level n (Output-F.Broker os) p q h s x = of_all n _ _ _ _ _ (items n os p q h s x)
level n (Output-F.Hold number check e) p q h s x = hold_goes n number _ _ (numbers n e.0) p q s (route e.0 s x) h (λ here r is. e.1 here r is s x)
level n (Output-F.Switch ks strict) p q h s x = matched_goes n strict _ p q s (chosen_go n ks p q h s x)
level n (Output-F.Fallback os) p q h s x = some_items n os p q h s x
level n (Output-F.Retry m leaves holds e) p q h s x = retry_goes n (numbers n e.0) (route e.0) e.1 p q m leaves holds h s x
level n (Output-F.DropOn error e) p q h s x = or_dropped_goes n error p q s _ (e.1 p q h s x)

pub stands : (n : ℕ) (o : Output) → Keeps n (numbers n o) (route o)
stands n = ind-Output (λ o. Keeps n (numbers n o) (route o))
    (λ x y is. subst (λ z. Keeps n (numbers n (roll-Output z)) (route (roll-Output z))) is (rw (fold-roll-Output Numbering (numbers_of n) (under n y), fold-roll-Output Route route_of (under n y)) (level n y)))

-- the same for the first copy of all
pub stands_first : (n : ℕ) (o : Output) (p q : Next) → numbers n o p ≡ Some q → (x : Given) → Fits n p.leaf q.leaf p.hold q.hold (route o spec.no_shift x)
stands_first n o p q is x = simp zero-add at (stands n o p q is spec.no_shift x)

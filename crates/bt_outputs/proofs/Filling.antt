-- A demand that is made without its bytes, which are put in last.
use Rattle.std.proofs.Common.{◌≡◌, ℕ, zero, suc, Bool, true, false, if◌then◌else◌, List, [], ◌∷◌, map, Option, Some, None, refl, ap, ap₂, ◌∙◌, subst}
use Rattle.bt_ready.specs.declared.ready.Ready.{Ready}
use Rattle.bt_demand.specs.Tree.{Tree, Trees, all, first, hold, none, more}
use Rattle.bt_demand.specs.declared.demand.Stage.TheVariants.{Untried as Idle}
use Rattle.bt_outputs.specs.declared.output.Output.{Output, fold-roll-Output, ind-Output, roll-Output, map-Output}
use Rattle.bt_outputs.specs.declared.output.Output.TheOpen.{Output-F}
use Rattle.bt_outputs.specs.declared.output.OutputCase.{OutputCase}
use Rattle.bt_outputs.specs.declared.output.Shift.{Shift}
use Rattle.bt_outputs.specs.Asked as spec
use Rattle.bt_outputs.specs.Asked.{Given, Route, each, chosen, passes, ends, copies_of, behind, route, route_of}
use Rattle.bt_outputs.specs.Bytes.{with_bytes, each_with_bytes}

-- the same with these bytes
abbrev having : Given → List ℕ → Given
having x b = record x { bytes = b }

abbrev Keeps : Route → Type 0
Keeps r = (s : Shift) (x : Given) (b : List ℕ) → with_bytes b (r s x) ≡ r s (having x b)

abbrev Shown : Type 0
Shown = (o : Output) × Keeps (route o)

abbrev outputs : List Shown → List Output
outputs os = map (λ (e : Shown). e.0) os

items : (os : List Shown) (s : Shift) (x : Given) (b : List ℕ) → each_with_bytes b (each (map route (outputs os)) s x) ≡ each (map route (outputs os)) s (having x b)
items [] s x b = refl
items (o ∷ os) s x b = ap₂ more (o.1 s x b) (items os s x b)

abbrev case_with : {A B : Type 0} → (A → B) → OutputCase A → OutputCase B
case_with f k = record { check = k.check; goes_on = k.goes_on; output = f k.output }

abbrev cases : List (OutputCase Shown) → List (OutputCase Output)
cases ks = map (case_with (λ (e : Shown). e.0)) ks

chosen_case : (b on : Bool) (f : Route) (fs gs : List Route) (s : Shift) (x : Given) (c : List ℕ) → with_bytes c (f s x) ≡ f s (having x c) → each_with_bytes c (each fs s x) ≡ each gs s (having x c) →
    each_with_bytes c (each (if b then f ∷ (if on then fs else []) else fs) s x) ≡ each (if b then f ∷ (if on then gs else []) else gs) s (having x c)
chosen_case true true f fs gs s x c here rest = ap₂ more here rest
chosen_case true false f fs gs s x c here rest = ap₂ more here refl
chosen_case false on f fs gs s x c here rest = rest

passes_same : (check : Option Ready) (x : Given) (b : List ℕ) → passes check (having x b) ≡ passes check x
passes_same None x b = refl
passes_same (Some r) x b = refl

ends_same : (check : Option Ready) (x : Given) (b : List ℕ) → ends check x ≡ ends check (having x b)
ends_same None x b = refl
ends_same (Some r) x b = refl

chosen_filled : (ks : List (OutputCase Shown)) (s : Shift) (x : Given) (b : List ℕ) →
    each_with_bytes b (each (chosen (map (case_with route) (cases ks)) x) s x) ≡ each (chosen (map (case_with route) (cases ks)) (having x b)) s (having x b)
chosen_filled [] s x b = refl
chosen_filled (k ∷ ks) s x b =
    rw (passes_same k.check x b) (chosen_case (passes k.check x) k.goes_on (route k.output.0) (chosen (map (case_with route) (cases ks)) x) (chosen (map (case_with route) (cases ks)) (having x b)) s x b
    (k.output.1 s x b) (chosen_filled ks s x b))

matched_filled : (strict : Bool) (ts : Trees) (b : List ℕ) → with_bytes b (spec.matched strict ts) ≡ spec.matched strict (each_with_bytes b ts)
matched_filled true none b = refl
matched_filled false none b = refl
matched_filled strict (more t ts) b = refl

flagged_filled : (flag : Option (List ℕ)) (t u : Tree) (b : List ℕ) → with_bytes b t ≡ u → with_bytes b (spec.unless_flagged flag t) ≡ spec.unless_flagged flag u
flagged_filled None t u b h = h
flagged_filled (Some w) t u b h = refl

copies_filled : (m leaves holds : ℕ) (r : Route) → Keeps r → (s : Shift) (x : Given) (b : List ℕ) → each_with_bytes b (copies_of m leaves holds r s x) ≡ copies_of m leaves holds r s (having x b)
copies_filled zero leaves holds r keeps s x b = refl
copies_filled (suc m) leaves holds r keeps s x b = ap₂ more (keeps s x b) (copies_filled m leaves holds r keeps (behind leaves holds s) x b)

or_dropped_filled : (error : Bool) (t u : Tree) (b : List ℕ) → with_bytes b t ≡ u → with_bytes b (spec.or_dropped error t) ≡ spec.or_dropped error u
or_dropped_filled true t u b h = rw h refl
or_dropped_filled false t u b h = h

hold_filled : (n z : ℕ) (e f : Bool) (t u : Tree) → e ≡ f → t ≡ u → hold n e z t Idle ≡ hold n f z u Idle
hold_filled n z e f t u h k = rw (h, k) refl

abbrev under : Output-F Shown → Output-F Output
under y = map-Output Shown Output (λ e. e.0) y

level : (y : Output-F Shown) → Keeps (route_of (map-Output Output Route route (under y)))
level (Output-F.Leaf number sink) s x b = refl
level Output-F.Drop s x b = refl
level (Output-F.Reject text) s x b = refl
level (Output-F.RejectErrored e) s x b = flagged_filled x.message.flag _ _ b (e.1 s x b)
level (Output-F.Broker os) s x b = ap all (items os s x b)
level (Output-F.Hold number check e) s x b = hold_filled _ _ _ _ _ _ (ends_same check x b) (e.1 s x b)
level (Output-F.Switch ks strict) s x b = matched_filled strict _ b ∙ ap (spec.matched strict) (chosen_filled ks s x b)
level (Output-F.Fallback os) s x b = ap first (items os s x b)
level (Output-F.Retry m leaves holds e) s x b = ap first (copies_filled m leaves holds (route e.0) e.1 s x b)
level (Output-F.DropOn error e) s x b = or_dropped_filled error _ _ b (e.1 s x b)

pub filled : (o : Output) → Keeps (route o)
filled = ind-Output (λ o. Keeps (route o)) (λ x y is. subst (λ z. Keeps (route (roll-Output z))) is (rw (fold-roll-Output Route route_of (under y)) (level y)))

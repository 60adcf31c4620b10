-- Lists of demands as trees, and the loops that make them.
use Rattle.std.proofs.Common.{◌≡◌, ◌<◌, ◌≤◌, ◌-◌, ◌+◌, ℕ, zero, suc, Bool, true, false, length, map, drop, get_or, List, [], ◌∷◌, ◌++◌, refl, sym, ap, ◌∙◌, subst, arith, add-one, drop-cons}
use Rattle.std.specs.Prelude.{◌==◌}
use Rattle.bt_demand.specs.Tree.{Trees, all, none, more}
use Rattle.bt_demand.specs.View.{tree, trees}
use Rattle.bt_demand.specs.declared.demand.Demand.{Demand}
use Rattle.bt_outputs.specs.Asked.{Given, Route, copies_of, behind, matched, each, chosen, passes, route}
use Rattle.bt_outputs.specs.declared.output.Output.{Output}
use Rattle.bt_outputs.specs.declared.output.OutputCase.{OutputCase}
use Rattle.bt_outputs.specs.declared.output.Shift.{Shift}
use Rattle.bt_routing.specs.Blank.{case_routes}

-- one list of trees after another
abbrev pub also : Trees → Trees → Trees
also none us = us
also (more t ts) us = more t (also ts us)

pub also_none : (ts : Trees) → also ts none ≡ ts
also_none none = refl
also_none (more t ts) = ap (more t) (also_none ts)

pub pushed : (ds : List Demand) (d : Demand) (us : Trees) → also (trees (ds ++ (d ∷ []))) us ≡ also (trees ds) (more (tree d) us)
pushed [] d us = refl
pushed (e ∷ ds) d us = ap (more (tree e)) (pushed ds d us)

-- where some case passed, the demands of those that did are asked
pub matched_some : (strict : Bool) (ds : List Demand) (n : ℕ) → n ≡ length ds → (n == 0) ≡ false → matched strict (trees ds) ≡ all (trees ds)
matched_some strict [] n e some = absurd (let one : (0 == 0) ≡ false = subst (λ k. (k == 0) ≡ false) e some in cc)
matched_some strict (d ∷ ds) n e some = refl

-- the members of a list from an index on
from : {X : Type 0} → (xs : List X) (i : ℕ) (x : X) → i < length xs → x ≡ get_or xs i x → drop i xs ≡ x ∷ drop (i + 1) xs
from xs i x within at = drop-cons xs i x within ∙ rw add-one (ap (λ v. v ∷ drop (suc i) xs) (sym at))

past : {X : Type 0} → (xs : List X) (i : ℕ) → length xs ≤ i → drop i xs ≡ []
past [] zero h = refl
past [] (suc i) h = refl
past (x ∷ xs) zero h = absurd (omega arith)
past (x ∷ xs) (suc i) h = past xs i (omega arith)

-- outputs in their order: the one that comes next, and the end
pub each_step : (ds es : List Demand) (d : Demand) (os : List Output) (i : ℕ) (o : Output) (s : Shift) (x : Given) (whole : Trees) → i < length os → o ≡ get_or os i o → es ≡ ds ++ (d ∷ []) →
    tree d ≡ route o s x → also (trees ds) (each (map route (drop i os)) s x) ≡ whole → also (trees es) (each (map route (drop (i + 1) os)) s x) ≡ whole
each_step ds es d os i o s x whole within at more_by is h =
    let rest : Trees = each (map route (drop (i + 1) os)) s x in
    let known : also (trees ds) (more (route o s x) rest) ≡ whole = subst (λ (zs : List Output). also (trees ds) (each (map route zs) s x) ≡ whole) (from os i o within at) h in
    subst (λ (zs : List Demand). also (trees zs) rest ≡ whole) (sym more_by) (pushed ds d rest ∙ subst (λ t. also (trees ds) (more t rest) ≡ whole) (sym is) known)

pub each_done : (ts : Trees) (os : List Output) (i : ℕ) (s : Shift) (x : Given) (whole : Trees) → length os ≤ i → also ts (each (map route (drop i os)) s x) ≡ whole → ts ≡ whole
each_done ts os i s x whole past_end h = sym (also_none ts) ∙ subst (λ (zs : List Output). also ts (each (map route zs) s x) ≡ whole) (past os i past_end) h

abbrev Cases : Type 0
Cases = List (OutputCase Output)

-- the demands of the cases that pass
abbrev pub of_cases : Cases → Shift → Given → Trees
of_cases ks s x = each (chosen (case_routes ks) x) s x

after_on : (k : OutputCase Output) (ks : Cases) (s : Shift) (x : Given) → passes k.check x ≡ true → k.goes_on ≡ true → of_cases (k ∷ ks) s x ≡ more (route k.output s x) (of_cases ks s x)
after_on k ks s x p g = rw (p, g) refl

after_last : (k : OutputCase Output) (ks : Cases) (s : Shift) (x : Given) → passes k.check x ≡ true → k.goes_on ≡ false → of_cases (k ∷ ks) s x ≡ more (route k.output s x) none
after_last k ks s x p g = rw (p, g) refl

after_other : (k : OutputCase Output) (ks : Cases) (s : Shift) (x : Given) → passes k.check x ≡ false → of_cases (k ∷ ks) s x ≡ of_cases ks s x
after_other k ks s x p = rw p refl

-- a case that passes and goes on, one that passes and is the last, and one that doesn't pass
pub chosen_on : (ds es : List Demand) (d : Demand) (ks : Cases) (i : ℕ) (k : OutputCase Output) (s : Shift) (x : Given) (whole : Trees) → i < length ks → k ≡ get_or ks i k → es ≡ ds ++ (d ∷ []) →
    passes k.check x ≡ true → k.goes_on ≡ true → tree d ≡ route k.output s x → also (trees ds) (of_cases (drop i ks) s x) ≡ whole → also (trees es) (of_cases (drop (i + 1) ks) s x) ≡ whole
chosen_on ds es d ks i k s x whole within at more_by p g is h =
    let rest : Trees = of_cases (drop (i + 1) ks) s x in
    let known : also (trees ds) (of_cases (k ∷ drop (i + 1) ks) s x) ≡ whole = subst (λ (zs : Cases). also (trees ds) (of_cases zs s x) ≡ whole) (from ks i k within at) h in
    let here : also (trees ds) (more (route k.output s x) rest) ≡ whole = subst (λ us. also (trees ds) us ≡ whole) (after_on k (drop (i + 1) ks) s x p g) known in
    subst (λ (zs : List Demand). also (trees zs) rest ≡ whole) (sym more_by) (pushed ds d rest ∙ subst (λ t. also (trees ds) (more t rest) ≡ whole) (sym is) here)

pub chosen_last : (ds es : List Demand) (d : Demand) (ks : Cases) (i : ℕ) (k : OutputCase Output) (s : Shift) (x : Given) (whole : Trees) → i < length ks → k ≡ get_or ks i k → es ≡ ds ++ (d ∷ []) →
    passes k.check x ≡ true → k.goes_on ≡ false → tree d ≡ route k.output s x → also (trees ds) (of_cases (drop i ks) s x) ≡ whole → trees es ≡ whole
chosen_last ds es d ks i k s x whole within at more_by p g is h =
    let known : also (trees ds) (of_cases (k ∷ drop (i + 1) ks) s x) ≡ whole = subst (λ (zs : Cases). also (trees ds) (of_cases zs s x) ≡ whole) (from ks i k within at) h in
    let here : also (trees ds) (more (route k.output s x) none) ≡ whole = subst (λ us. also (trees ds) us ≡ whole) (after_last k (drop (i + 1) ks) s x p g) known in
    sym (also_none (trees es)) ∙ subst (λ (zs : List Demand). also (trees zs) none ≡ whole) (sym more_by) (pushed ds d none ∙ subst (λ t. also (trees ds) (more t none) ≡ whole) (sym is) here)

pub chosen_other : (ts : Trees) (ks : Cases) (i : ℕ) (k : OutputCase Output) (s : Shift) (x : Given) (whole : Trees) → i < length ks → k ≡ get_or ks i k → passes k.check x ≡ false →
    also ts (of_cases (drop i ks) s x) ≡ whole → also ts (of_cases (drop (i + 1) ks) s x) ≡ whole
chosen_other ts ks i k s x whole within at p h =
    let known : also ts (of_cases (k ∷ drop (i + 1) ks) s x) ≡ whole = subst (λ (zs : Cases). also ts (of_cases zs s x) ≡ whole) (from ks i k within at) h in
    subst (λ us. also ts us ≡ whole) (after_other k (drop (i + 1) ks) s x p) known

pub chosen_done : (ts : Trees) (ks : Cases) (i : ℕ) (s : Shift) (x : Given) (whole : Trees) → length ks ≤ i → also ts (of_cases (drop i ks) s x) ≡ whole → ts ≡ whole
chosen_done ts ks i s x whole past_end h = sym (also_none ts) ∙ subst (λ (zs : Cases). also ts (of_cases zs s x) ≡ whole) (past ks i past_end) h

-- copies: the one that comes next, and the end
pub copies_step : (ds es : List Demand) (d : Demand) (n i : ℕ) (leaves holds : ℕ) (r : Route) (s t : Shift) (x : Given) (whole : Trees) → i < n → es ≡ ds ++ (d ∷ []) → tree d ≡ r s x → t ≡ behind leaves holds s →
    also (trees ds) (copies_of (n - i) leaves holds r s x) ≡ whole → also (trees es) (copies_of (n - (i + 1)) leaves holds r t x) ≡ whole
copies_step ds es d n i leaves holds r s t x whole within more_by is later h =
    let one : n - i ≡ suc (n - (i + 1)) = omega (arith, within) in
    let rest : Trees = copies_of (n - (i + 1)) leaves holds r (behind leaves holds s) x in
    let known : also (trees ds) (more (r s x) rest) ≡ whole = subst (λ m. also (trees ds) (copies_of m leaves holds r s x) ≡ whole) one h in
    let here : also (trees es) rest ≡ whole = subst (λ (zs : List Demand). also (trees zs) rest ≡ whole) (sym more_by) (pushed ds d rest ∙ subst (λ t. also (trees ds) (more t rest) ≡ whole) (sym is) known) in
    subst (λ v. also (trees es) (copies_of (n - (i + 1)) leaves holds r v x) ≡ whole) (sym later) here

pub copies_done : (ts : Trees) (n i : ℕ) (leaves holds : ℕ) (r : Route) (s : Shift) (x : Given) (whole : Trees) → n ≤ i → also ts (copies_of (n - i) leaves holds r s x) ≡ whole → ts ≡ whole
copies_done ts n i leaves holds r s x whole past_end h =
    let nothing : n - i ≡ zero = omega (arith, past_end) in
    sym (also_none ts) ∙ subst (λ m. also ts (copies_of m leaves holds r s x) ≡ whole) nothing h

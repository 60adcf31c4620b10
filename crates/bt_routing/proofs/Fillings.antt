-- Bytes put into the records of demands, one demand after another.
use Rattle.std.proofs.Common.{◌≡◌, ◌<◌, ◌≤◌, ◌-◌, ◌+◌, ℕ, zero, suc, length, set, take, get_or, List, [], ◌∷◌, ◌++◌, Result, Bool, refl, sym, ap, ap₂, ◌∙◌, subst, arith, add-one, length-append, append-nil, Ok, Err}
use Rattle.std.specs.Prelude.{OnOk}
use Rattle.std.proofs.Math.ListN.{length-set}
use Rattle.std.proofs.lemmas.List.{get_or-set_other}
use Rattle.std.proofs.Math.Seq.{take-suc, take-suc-set}
use Rattle.bt_ports.specs.declared.NoMemory.{NoMemory}
use Rattle.bt_demand.specs.Tree.{Tree, Trees, leaf, drop, all, first, hold, none, more}
use Rattle.bt_demand.specs.View.{tree, trees}
use Rattle.bt_demand.specs.WellFormed.{leaves, leaves_in}
use Rattle.bt_demand.specs.declared.demand.Demand.{Demand}
use Rattle.bt_demand.specs.declared.demand.Stage.{Stage}
use Rattle.bt_demand.specs.declared.demand.State.{State}
use Rattle.bt_outputs.specs.Bytes.{with_bytes, each_with_bytes}
use Rattle.bt_routing.specs.Filled.{Served, Fills}
use Rattle.bt_routing.specs.declared.supply.Supply.{Supply}
use Rattle.bt_routing.proofs.Lists.{also, also_none, pushed}

filled-also : (b : List ℕ) (ts us : Trees) → each_with_bytes b (also ts us) ≡ also (each_with_bytes b ts) (each_with_bytes b us)
filled-also b none us = refl
filled-also b (more t ts) us = ap (more (with_bytes b t)) (filled-also b ts us)

leaves-also : (ts us : Trees) → length (leaves_in (also ts us)) ≡ length (leaves_in ts) + length (leaves_in us)
leaves-also none us = omega arith
leaves-also (more t ts) us = omega (arith, leaves-also ts us, length-append (leaves t) (leaves_in (also ts us)), length-append (leaves t) (leaves_in ts))

-- one demand's records alone
pub one_length : (t : Tree) → length (leaves_in (more t none)) ≡ length (leaves t)
one_length t = ap length (append-nil (leaves t))

pub served_none : (s : Supply) → Served s s none none
served_none s = record { filled = λ b h. refl; left = omega arith; stays = λ h. refl }

served_also : (s t u : Supply) (os ns ps qs : Trees) → Served s t os ns → Served t u ps qs → Served s u (also os ps) (also ns qs)
served_also s t u os ns ps qs h k = record {
  filled = λ b is.
      let here : ns ≡ each_with_bytes b os = h.filled b is in
      let there : qs ≡ each_with_bytes b ps = k.filled b (λ some. h.stays some ∙ is (omega (arith, some, h.left))) in
      ap₂ also here there ∙ sym (filled-also b os ps);
  left = omega (arith, h.left, k.left, leaves-also os ps);
  stays = λ some. k.stays some ∙ h.stays (omega (arith, some, k.left));
}

last-trees : (ds : List Demand) (d : Demand) → trees (ds ++ (d ∷ [])) ≡ also (trees ds) (more (tree d) none)
last-trees ds d = sym (also_none (trees (ds ++ (d ∷ [])))) ∙ pushed ds d none

few-taken : (i : ℕ) (ds : List Demand) → length (leaves_in (trees (take i ds))) ≤ length (leaves_in (trees ds))
few-taken zero ds = omega arith
few-taken (suc i) [] = omega arith
few-taken (suc i) (d ∷ ds) = omega (arith, few-taken i ds, length-append (leaves (tree d)) (leaves_in (trees (take i ds))), length-append (leaves (tree d)) (leaves_in (trees ds)))

-- the demand at a place is filled next
pub served_more : (s t u : Supply) (ys xs : List Demand) (i : ℕ) (old new : Demand) → i < length ys → i < length xs → old ≡ get_or ys i old → length (leaves_in (trees ys)) ≤ s.left →
    Served s t (trees (take i ys)) (trees (take i xs)) → Fills t u (more (tree old) none) (more (tree new) none) → Served s u (trees (take (i + 1) ys)) (trees (take (i + 1) (set xs i new)))
served_more s t u ys xs i old new within there at enough h fills =
    let olds : take (suc i) ys ≡ take i ys ++ (old ∷ []) = take-suc ys i old within ∙ ap (λ v. take i ys ++ (v ∷ [])) (sym at) in
    let news : take (suc i) (set xs i new) ≡ take i xs ++ (new ∷ []) = take-suc-set xs i new there in
    let olds_trees : trees (take (suc i) ys) ≡ also (trees (take i ys)) (more (tree old) none) = ap trees olds ∙ last-trees (take i ys) old in
    let news_trees : trees (take (suc i) (set xs i new)) ≡ also (trees (take i xs)) (more (tree new) none) = ap trees news ∙ last-trees (take i xs) new in
    let counted : length (leaves_in (trees (take (suc i) ys))) ≡ length (leaves_in (trees (take i ys))) + length (leaves_in (more (tree old) none)) =
    ap (λ v. length (leaves_in v)) olds_trees ∙ leaves-also (trees (take i ys)) (more (tree old) none) in
    let few : length (leaves_in (more (tree old) none)) ≤ t.left = omega (arith, counted, few-taken (suc i) ys, enough, h.left) in
    let both : Served s u (also (trees (take i ys)) (more (tree old) none)) (also (trees (take i xs)) (more (tree new) none)) = served_also s t u _ _ _ _ h (fills few) in
    rw add-one (subst (λ v. Served s u v (trees (take (suc i) (set xs i new)))) (sym olds_trees) (subst (λ v. Served s u (also (trees (take i ys)) (more (tree old) none)) v) (sym news_trees) both))

-- what is served of a list is so of an All and of a First of it
pub fills_all : (s t : Supply) (os ns : Trees) → Fills s t os ns → Fills s t (more (all os) none) (more (all ns) none)
fills_all s t os ns h enough =
    let known = h (omega (arith, enough, one_length (all os))) in
    record { filled = λ b is. ap (λ v. more (all v) none) (known.filled b is); left = omega (arith, known.left, one_length (all os)); stays = known.stays }

pub fills_first : (s t : Supply) (os ns : Trees) → Fills s t os ns → Fills s t (more (first os) none) (more (first ns) none)
fills_first s t os ns h enough =
    let known = h (omega (arith, enough, one_length (first os))) in
    record { filled = λ b is. ap (λ v. more (first v) none) (known.filled b is); left = omega (arith, known.left, one_length (first os)); stays = known.stays }

head_of : Trees → Tree
head_of none = drop
head_of (more t ts) = t

pub heads : (t u : Tree) → more t none ≡ more u none → t ≡ u
heads t u e = cc

pub fills_hold : (s t : Supply) (n z : ℕ) (e : Bool) (g : Stage) (old new : Tree) → Fills s t (more old none) (more new none) → Fills s t (more (hold n e z old g) none) (more (hold n e z new g) none)
fills_hold s t n z e g old new h enough =
    let known = h (omega (arith, enough, one_length (hold n e z old g), one_length old)) in
    record {
      filled = λ b is. ap (λ v. more (hold n e z v g) none) (heads new (with_bytes b old) (known.filled b is));
      left = omega (arith, known.left, one_length (hold n e z old g), one_length old);
      stays = known.stays;
    }

pub fills_leaf : (s t : Supply) (n k : ℕ) (b c : List ℕ) (x : State) → c ≡ s.bytes → t.left ≡ s.left - 1 → (0 < t.left → t.bytes ≡ s.bytes) → Fills s t (more (leaf n k b x) none) (more (leaf n k c x) none)
fills_leaf s t n k b c x is left stays enough = record {
  filled = λ a known. ap (λ v. more (leaf n k v x) none) (is ∙ known (omega (arith, enough)));
  left = omega (arith, left, enough);
  stays = stays;
}

pub fills_none : (s : Supply) (t : Tree) → leaves t ≡ [] → ((b : List ℕ) → t ≡ with_bytes b t) → Fills s s (more t none) (more t none)
fills_none s t bare same enough = record {
  filled = λ b known. ap (λ v. more v none) (same b);
  left = omega (arith, one_length t, ap length bare);
  stays = λ h. refl;
}

-- the same where the whole was done
pub on_all : (r : Result (Unit {0}) NoMemory) (s t : Supply) (os ns : Trees) → OnOk r (Fills s t os ns) → OnOk r (Fills s t (more (all os) none) (more (all ns) none))
on_all (Ok x) s t os ns h = fills_all s t os ns h
on_all (Err x) s t os ns h = tt

pub on_first : (r : Result (Unit {0}) NoMemory) (s t : Supply) (os ns : Trees) → OnOk r (Fills s t os ns) → OnOk r (Fills s t (more (first os) none) (more (first ns) none))
on_first (Ok x) s t os ns h = fills_first s t os ns h
on_first (Err x) s t os ns h = tt

-- what was not visited yet stays as it was
pub unvisited_more : (xs ys : List Demand) (i : ℕ) (new : Demand) → (length xs ≡ length ys) × ((k : ℕ) (d : Demand) → i ≤ k → get_or xs k d ≡ get_or ys k d) →
    (length (set xs i new) ≡ length ys) × ((k : ℕ) (d : Demand) → i + 1 ≤ k → get_or (set xs i new) k d ≡ get_or ys k d)
unvisited_more xs ys i new h = (length-set xs i new ∙ h.0, λ k d after. get_or-set_other xs i k new d (λ same. omega (arith, after, same)) ∙ h.1 k d (omega (arith, after)))

-- the whole list is served where its end is reached
pub served_whole : (s t : Supply) (ys xs : List Demand) (i : ℕ) → length xs ≡ length ys → length ys ≤ i → Served s t (trees (take i ys)) (trees (take i xs)) → Served s t (trees ys) (trees xs)
served_whole s t ys xs i same ended h =
    subst (λ (v : List Demand). Served s t (trees v) (trees xs)) (take-all ys i ended) (subst (λ (v : List Demand). Served s t (trees (take i ys)) (trees v)) (take-all xs i (omega (arith, same, ended))) h)
  where
    take-all : (ds : List Demand) (i : ℕ) → length ds ≤ i → take i ds ≡ ds
    take-all [] zero h = refl
    take-all [] (suc i) h = refl
    take-all (d ∷ ds) zero h = absurd (omega (arith, h))
    take-all (d ∷ ds) (suc i) h = ap (λ v. d ∷ v) (take-all ds i (omega (arith, h)))

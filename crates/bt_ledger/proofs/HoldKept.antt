-- The book after `hold`.
use Rattle.std.proofs.Common.{◌≡◌, ◌≢◌, ℕ, zero, suc, ◌+◌, ◌<◌, Bool, true, false, cond, eqb, ◌&&◌, List, [], ◌∷◌, ◌++◌, length, get_or, set, inl, inr, arith, refl, sym, ap, ◌∙◌, Some}
use Rattle.std.proofs.lemmas.Bool.Decides.{eqb_tells}
use Rattle.bt_demand.specs.Tree.{Tree, Trees, leaf, drop as nothing, reject, all, first, hold, none, more}
use Rattle.bt_demand.specs.Steps.{wait}
use Rattle.bt_demand.specs.Next.{todo}
use Rattle.bt_demand.specs.Holding.{one_if, is_idle, count_holds, count_holds_in, waits_at, OneEach}
use Rattle.bt_demand.specs.declared.todo.Todo.TheVariants.{Wait}
use Rattle.bt_demand.specs.declared.demand.Stage.{Stage}
use Rattle.bt_chains.specs.declared.Entry.{Entry}
use Rattle.bt_ledger.specs.Ledger.{held_in, entries_of}
use Rattle.bt_steps.proofs.HoldLaws.{waits_wait}
use Rattle.bt_steps.proofs.BookLaws.{idle_exact}

mutual
  pub count_same : (f g : ℕ → Stage → Bool) (t : Tree) → ((m : ℕ) (s : Stage) → f m s ≡ g m s) → count_holds f t ≡ count_holds g t
  count_same f g (leaf l k b x) h = refl
  count_same f g nothing h = refl
  count_same f g (reject w) h = refl
  count_same f g (all ts) h = count_same_all f g ts h
  count_same f g (first ts) h = count_same_all f g ts h
  count_same f g (hold m e z c s) h = let a = ap one_if (h m s) in let b = count_same f g c h in omega arith

  pub count_same_all : (f g : ℕ → Stage → Bool) (ts : Trees) → ((m : ℕ) (s : Stage) → f m s ≡ g m s) → count_holds_in f ts ≡ count_holds_in g ts
  count_same_all f g none h = refl
  count_same_all f g (more t ts) h = let a = count_same f g t h in let b = count_same_all f g ts h in omega arith

mutual
  pub count_none : (t : Tree) → count_holds (λ _ _. false) t ≡ 0
  count_none (leaf l k b x) = refl
  count_none nothing = refl
  count_none (reject w) = refl
  count_none (all ts) = count_none_all ts
  count_none (first ts) = count_none_all ts
  count_none (hold m e z c s) = let a = count_none c in omega arith

  pub count_none_all : (ts : Trees) → count_holds_in (λ _ _. false) ts ≡ 0
  count_none_all none = refl
  count_none_all (more t ts) = let a = count_none t in let b = count_none_all ts in omega arith

and_twice : (a b : Bool) → (a && (a && b)) ≡ (a && b)
and_twice true b = refl
and_twice false b = refl

never_both : (n k m : ℕ) (b : Bool) → k ≢ n → (eqb m n && (eqb m k && b)) ≡ false
never_both n k m b h = elim (eqb_tells m n) [
  | inl i ↦ elim (eqb_tells m k) [ inl j ↦ absurd (h (sym j.1 ∙ i.1)) | inr j ↦ rw (i.0, j.0) refl ]
  | inr i ↦ rw i.0 refl
]

pub waits_own : (n : ℕ) (t : Tree) → OneEach t → todo t ≡ Some (Wait n) → waits_at n (wait n t) ≡ waits_at n t + 1
waits_own n t o e =
    let a = waits_wait n n t in
    let b = count_same (λ m g. eqb m n && (eqb m n && is_idle g)) (λ m g. eqb m n && is_idle g) t (λ m g. and_twice (eqb m n) (is_idle g)) in
    let c = idle_exact n t o e in omega arith

pub waits_other : (n k : ℕ) (t : Tree) → k ≢ n → waits_at k (wait n t) ≡ waits_at k t
waits_other n k t h =
    let a = waits_wait n k t in
    let b = count_same (λ m g. eqb m n && (eqb m k && is_idle g)) (λ _ _. false) t (λ m g. never_both n k m (is_idle g) h) in
    let c = count_none t in omega arith

pub entries_more : (a b : ℕ) (es : List Entry) (e : Entry) → entries_of a b (es ++ e ∷ []) ≡ entries_of a b es + cond (eqb e.slot a && eqb e.part b) 1 0
entries_more a b [] e = omega arith
entries_more a b (x ∷ es) e = let i = entries_more a b es e in omega arith

pub held_set : (cs : List (List Entry)) (k : ℕ) (es : List Entry) → k < length cs → held_in (set cs k es) + length (get_or cs k []) ≡ held_in cs + length es
held_set [] k es h = absurd (omega arith)
held_set (c ∷ cs) zero es h = omega arith
held_set (c ∷ cs) (suc k) es h = let i = held_set cs k es (omega arith) in omega arith

pub length_more : (es : List Entry) (e : Entry) → length (es ++ e ∷ []) ≡ length es + 1
length_more [] e = refl
length_more (x ∷ es) e = let i = length_more es e in omega arith

pub matches_not : (s p a b : ℕ) → ((a ≡ s) → (b ≡ p) → ⊥) → (eqb s a && eqb p b) ≡ false
matches_not s p a b h = elim (eqb_tells s a) [
  | inl i ↦ elim (eqb_tells p b) [ inl j ↦ absurd (h (sym i.1) (sym j.1)) | inr j ↦ rw (i.0, j.0) refl ]
  | inr i ↦ rw i.0 refl
]

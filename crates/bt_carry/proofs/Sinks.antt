-- The records of a transaction over all sinks, where each is one of a leaf's.
use Rattle.std.proofs.Common.{◌≡◌, ◌≢◌, ℕ, zero, suc, ◌+◌, ◌<◌, Bool, true, false, ◌&&◌, eqb, ltb, List, [], ◌∷◌, ◌++◌, length, get_or, ◌⊎◌, inl, inr, arith, refl, sym, ap, ◌∙◌, subst, Option, None, eq-eqb}
use Rattle.std.specs.Prelude.{flat_map, if◌then◌else◌}
use Rattle.std.specs.List.{AllByRecursion}
use Rattle.std.proofs.lemmas.Bool.{eqb-true}
use Rattle.bt_carry.specs.Settled.{all_accepted, all_refused, state_among, EachRecord}
use Rattle.bt_carry.proofs.Trees.{leaf_there, leaf_sink}
use Rattle.bt_demand.specs.Find.{tried}
use Rattle.bt_demand.specs.Holding.{one_if}
use Rattle.bt_demand.specs.Outcomes.{accepted, refused}
use Rattle.bt_demand.specs.Parts.{Part}
use Rattle.bt_demand.specs.WellFormed.{leaves, Differ}
use Rattle.bt_demand.specs.declared.demand.State.{State}
use Rattle.bt_demand.specs.declared.demand.State.TheVariants.{Untried as Fresh, Good, Bad}
use Rattle.bt_demand.proofs.Lists.{InList}
use Rattle.bt_leaves.specs.LeafAt.{LeafAt}
use Rattle.bt_ledger.specs.Open.{tree_of}
use Rattle.bt_ports.specs.declared.outside.Sink as Sink
use Rattle.bt_ports.specs.declared.parts.Record.{Record}
use Rattle.bt_sound.specs.Records.{is_of, records_of}
use Rattle.bt_sound.proofs.Lists.{each_map}

of_append : (n p l : ℕ) (xs bs : List Record) → records_of n p l (xs ++ bs) ≡ records_of n p l xs + records_of n p l bs
of_append n p l [] bs = omega arith
of_append n p l (a ∷ xs) bs = let h = of_append n p l xs bs in omega arith

module _ {K : Type 0} (f : K → List Record) (n p l : ℕ) (d : K) where
  -- none at any sink
  pub at_none : (ks : List K) → ((j : ℕ) → j < length ks → records_of n p l (f (get_or ks j d)) ≡ 0) → records_of n p l (flat_map f ks) ≡ 0
  at_none [] h = refl
  at_none (k ∷ ks) h =
      let a = of_append n p l (f k) (flat_map f ks) in
      let z : records_of n p l (f k) ≡ 0 = h 0 (omega arith) in
      let b = at_none ks (λ j w. h (suc j) (omega arith)) in
      omega arith

  -- so many at one sink, and none at the others
  pub at_one : (ks : List K) (k m : ℕ) → k < length ks → records_of n p l (f (get_or ks k d)) ≡ m → ((j : ℕ) → j < length ks → j ≢ k → records_of n p l (f (get_or ks j d)) ≡ 0) → records_of n p l (flat_map f ks) ≡ m
  at_one [] k m w e h = absurd (omega arith)
  at_one (x ∷ ks) zero m w e h =
      let a = of_append n p l (f x) (flat_map f ks) in
      let y : records_of n p l (f x) ≡ m = e in
      let b = at_none ks (λ j v. h (suc j) (omega arith) (λ q. (let r : suc j ≡ 0 = q in absurd (omega arith)))) in
      omega arith
  at_one (x ∷ ks) (suc k) m w e h =
      let a = of_append n p l (f x) (flat_map f ks) in
      let z : records_of n p l (f x) ≡ 0 = h 0 (omega arith) (λ q. (let r : 0 ≡ suc k = q in absurd (omega arith))) in
      let b = at_one ks k m (omega arith) e (λ j v u. h (suc j) (omega arith) (λ q. u (let r : suc j ≡ suc k = q in omega arith))) in
      omega arith

and_both : (a b : Bool) → (a && b) ≡ true → (a ≡ true) × (b ≡ true)
and_both true b e = (refl, e)
and_both false b e = cc

pub is_of_tells : (n p l : ℕ) (r : Record) → is_of n p l r ≡ true → (r.txn ≡ n) × ((r.part ≡ p) × (r.leaf ≡ l))
is_of_tells n p l r e =
    let a = and_both (eqb r.txn n) (eqb r.part p && eqb r.leaf l) e in
    let b = and_both (eqb r.part p) (eqb r.leaf l) a.1 in
    (eqb-true r.txn n a.0, (eqb-true r.part p b.0, eqb-true r.leaf l b.1))

either : (b : Bool) → (b ≡ true) ⊎ (b ≡ false)
either true = inl refl
either false = inr refl

pub none_of : (n p l : ℕ) (rs : List Record) → AllByRecursion (λ r. is_of n p l r ≡ true → ⊥) rs → records_of n p l rs ≡ 0
none_of n p l [] h = refl
none_of n p l (r ∷ rs) h = elim (either (is_of n p l r)) [
  | inl e ↦ absurd (h.0 e)
  | inr e ↦ (let a = ap one_if e in let b = none_of n p l rs h.1 in omega arith)
]

-- a record is of its own leaf
pub of_itself : (r : Record) → is_of r.txn r.part r.leaf r ≡ true
of_itself r = rw (eq-eqb r.txn r.txn refl, eq-eqb r.part r.part refl, eq-eqb r.leaf r.leaf refl) refl

abbrev state_by : ℕ → ℕ → State
state_by a b = (if ltb 0 a then Good else (if ltb 0 b then Bad else Fresh))

by_counts : (a b : ℕ) (x : State) → a ≡ one_if (accepted x) → b ≡ one_if (refused x) → x ≡ state_by a b
by_counts a b Fresh e f = sym (ap (λ i. state_by i b) e ∙ ap (state_by 0) f)
by_counts a b Good e f = sym (ap (λ i. state_by i b) e)
by_counts a b Bad e f = sym (ap (λ i. state_by i b) e ∙ ap (state_by 0) f)

-- the state of a leaf by the numbers of its records
pub state_of : (xs rs : List Record) (n p l : ℕ) (x : State) → records_of n p l xs ≡ one_if (accepted x) → records_of n p l rs ≡ one_if (refused x) → x ≡ state_among xs rs n p l
state_of xs rs n p l x e f = by_counts (records_of n p l xs) (records_of n p l rs) x e f

pub both_of : (a b : ℕ) (x : State) → a ≡ one_if (accepted x) → b ≡ one_if (refused x) → a + b ≡ one_if (tried x)
both_of a b Fresh e f = omega arith
both_of a b Good e f = omega arith
both_of a b Bad e f = omega arith

-- a record at sink k is one of a leaf of these parts that has this sink
abbrev pub IsLeaf : ℕ → List Part → Record → Type 0
IsLeaf k ps r = (o : Option ℕ) × LeafAt None r.leaf k r.bytes o (tree_of ps r.part)

module _ {K : Type 0} (g : Sink.Ghosts K) (ks : List K) (n : ℕ) (ps : List Part) (own : EachRecord g ks (λ k r. r.txn ≡ n → IsLeaf k ps r)) where
  is_leaf_of : (j p l : ℕ) (r : Record) → IsLeaf j ps r → r.part ≡ p → r.leaf ≡ l → (o : Option ℕ) × LeafAt None l j r.bytes o (tree_of ps p)
  is_leaf_of j p l r h e f = (h.0, subst (λ x. LeafAt None x j r.bytes h.0 (tree_of ps p)) f (subst (λ x. LeafAt None r.leaf j r.bytes h.0 (tree_of ps x)) e h.1))

  -- only the sink of a leaf has records of it
  zero_apart : (p l k : ℕ) (b : List ℕ) (o : Option ℕ) → Differ (leaves (tree_of ps p)) → LeafAt None l k b o (tree_of ps p) → (j : ℕ) → j ≢ k → (rs : List Record) → AllByRecursion (λ r. r.txn ≡ n → IsLeaf j ps r) rs → records_of n p l rs ≡ 0
  zero_apart p l k b o d at j w rs h = none_of n p l rs (each_map (λ r. r.txn ≡ n → IsLeaf j ps r) (λ r. is_of n p l r ≡ true → ⊥) rs
      (λ r q e. (let t = is_of_tells n p l r e in let x = is_leaf_of j p l r (q t.0) t.1.0 t.1.1 in w (leaf_sink None l j k r.bytes b x.0 o (tree_of ps p) d x.1 at))) h)

  zero_absent : (p l : ℕ) → (InList l (leaves (tree_of ps p)) → ⊥) → (j : ℕ) (rs : List Record) → AllByRecursion (λ r. r.txn ≡ n → IsLeaf j ps r) rs → records_of n p l rs ≡ 0
  zero_absent p l w j rs h = none_of n p l rs (each_map (λ r. r.txn ≡ n → IsLeaf j ps r) (λ r. is_of n p l r ≡ true → ⊥) rs
      (λ r q e. (let t = is_of_tells n p l r e in let x = is_leaf_of j p l r (q t.0) t.1.0 t.1.1 in w (leaf_there None l j r.bytes x.0 (tree_of ps p) x.1))) h)

  -- the records of a leaf over all sinks are those at its own
  pub leaf_counts : (d : K) (p l k : ℕ) (b : List ℕ) (o : Option ℕ) (x : State) → Differ (leaves (tree_of ps p)) → LeafAt None l k b o (tree_of ps p) → k < length ks
      → (records_of n p l (g.accepted (get_or ks k d)) ≡ one_if (accepted x)) × (records_of n p l (g.refused (get_or ks k d)) ≡ one_if (refused x))
      → (records_of n p l (all_accepted g ks) ≡ one_if (accepted x)) × (records_of n p l (all_refused g ks) ≡ one_if (refused x))
  leaf_counts d p l k b o x u at w e = (
    at_one g.accepted n p l d ks k (one_if (accepted x)) w e.0 (λ j v q. zero_apart p l k b o u at j q (g.accepted (get_or ks j d)) (own j d v).0),
    at_one g.refused n p l d ks k (one_if (refused x)) w e.1 (λ j v q. zero_apart p l k b o u at j q (g.refused (get_or ks j d)) (own j d v).1),
  )

  -- a leaf that isn't there has none
  pub absent_counts : (d : K) (p l : ℕ) → (InList l (leaves (tree_of ps p)) → ⊥) → (records_of n p l (all_accepted g ks) ≡ 0) × (records_of n p l (all_refused g ks) ≡ 0)
  absent_counts d p l w = (
    at_none g.accepted n p l d ks (λ j v. zero_absent p l w j (g.accepted (get_or ks j d)) (own j d v).0),
    at_none g.refused n p l d ks (λ j v. zero_absent p l w j (g.refused (get_or ks j d)) (own j d v).1),
  )

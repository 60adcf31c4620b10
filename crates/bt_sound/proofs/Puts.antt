-- A record that is put changes what is told of its own leaf alone.
use Rattle.std.proofs.Common.{◌≡◌, ◌≢◌, ℕ, ◌+◌, Bool, true, false, cond, eqb, not, ◌&&◌, List, [], ◌∷◌, ◌++◌, get_or, inl, inr, arith, refl, sym, ap, ◌∙◌, subst, eq-eqb, IsTrue}
use Rattle.std.proofs.lemmas.Bool.Decides.{eqb_tells}
use Rattle.bt_demand.specs.Holding.{one_if}
use Rattle.bt_demand.specs.Outcomes.{accepted, refused}
use Rattle.bt_demand.specs.Steps.{settle, settle_each, settles, state_for}
use Rattle.bt_demand.specs.Tree.{Tree, Trees, leaf, drop as nothing, reject, all, first, hold, none, more}
use Rattle.bt_demand.specs.declared.demand.State.{State}
use Rattle.bt_demand.specs.declared.demand.State.TheVariants.{Untried as Fresh, Good, Bad}
use Rattle.bt_leaves.specs.EachLeaf.{EachLeaf, EachLeafIn}
use Rattle.bt_leaves.proofs.NextLeaf.{SinkIs, SinksAre}
use Rattle.bt_ports.specs.declared.outside.Sink as Sink
use Rattle.bt_ports.specs.declared.parts.Record.{Record}
use Rattle.bt_sound.specs.Records.{is_of, records_of, LeafTold, PutOne, PutAt}

last_false : (a b c : Bool) → c ≡ false → (a && (b && c)) ≡ false
last_false true true c e = e
last_false true false c e = refl
last_false false b c e = refl

pub other_leaf : (n p l m : ℕ) (r : Record) → is_of n p l r ≡ true → m ≢ l → is_of n p m r ≡ false
other_leaf n p l m r e d = elim (eqb_tells r.leaf m) [
  | inl i ↦ elim (eqb_tells r.leaf l) [
    | inl j ↦ absurd (d (sym i.1 ∙ j.1))
    | inr j ↦ (let z : is_of n p l r ≡ false = last_false (eqb r.txn n) (eqb r.part p) (eqb r.leaf l) j.0 in cc)
  ]
  | inr i ↦ last_false (eqb r.txn n) (eqb r.part p) (eqb r.leaf m) i.0
]

of_more : (n p l : ℕ) (rs : List Record) (r : Record) → records_of n p l (rs ++ r ∷ []) ≡ records_of n p l rs + one_if (is_of n p l r)
of_more n p l [] r = omega arith
of_more n p l (x ∷ rs) r = let a = of_more n p l rs r in omega arith

of_cond : (n p l : ℕ) (ok : Bool) (rs : List Record) (r : Record) → records_of n p l (cond ok (rs ++ r ∷ []) rs) ≡ records_of n p l rs + one_if (ok && is_of n p l r)
of_cond n p l true rs r = of_more n p l rs r
of_cond n p l false rs r = omega arith

of_else : (n p l : ℕ) (ok : Bool) (rs : List Record) (r : Record) → records_of n p l (cond ok rs (rs ++ r ∷ [])) ≡ records_of n p l rs + one_if (not ok && is_of n p l r)
of_else n p l true rs r = omega arith
of_else n p l false rs r = of_more n p l rs r

none_more : (ok b : Bool) → b ≡ false → one_if (ok && b) ≡ 0
none_more true b e = ap one_if e
none_more false b e = refl

-- a record of something else changes nothing for a leaf
counts_apart : {K : Type 0} (g : Sink.Ghosts K) (ks us : List K) (s : ℕ) (r : Record) (ok : Bool) (d : K) (n p j m : ℕ) (x : State) → PutAt g ks us s r ok → is_of n p m r ≡ false
    → (IsTrue (g.tells (get_or ks j d)) → (records_of n p m (g.accepted (get_or ks j d)) ≡ one_if (accepted x)) × (records_of n p m (g.refused (get_or ks j d)) ≡ one_if (refused x)))
    → IsTrue (g.tells (get_or us j d)) → (records_of n p m (g.accepted (get_or us j d)) ≡ one_if (accepted x)) × (records_of n p m (g.refused (get_or us j d)) ≡ one_if (refused x))
counts_apart g ks us s r ok d n p j m x w e h = elim (eqb_tells j s) [
  | inl i ↦ (λ t.
      let o = w.one d in
      let t2 : IsTrue (g.tells (get_or us s d)) = subst (λ k. IsTrue (g.tells (get_or us k d))) i.1 t in
      let b = h (subst (λ k. IsTrue (g.tells (get_or ks k d))) (sym i.1) (o.told t2)) in
      let y = ap (records_of n p m) (o.taken t2) ∙ of_cond n p m ok (g.accepted (get_or ks s d)) r in
      let z = ap (records_of n p m) (o.turned t2) ∙ of_else n p m ok (g.refused (get_or ks s d)) r in
      let u = none_more ok (is_of n p m r) e in
      let v = none_more (not ok) (is_of n p m r) e in
      let b0 : records_of n p m (g.accepted (get_or ks s d)) ≡ one_if (accepted x) = ap (λ k. records_of n p m (g.accepted (get_or ks k d))) (sym i.1) ∙ b.0 in
      let b1 : records_of n p m (g.refused (get_or ks s d)) ≡ one_if (refused x) = ap (λ k. records_of n p m (g.refused (get_or ks k d))) (sym i.1) ∙ b.1 in (
        ap (λ k. records_of n p m (g.accepted (get_or us k d))) i.1 ∙ (let q : records_of n p m (g.accepted (get_or us s d)) ≡ one_if (accepted x) = omega arith in q),
        ap (λ k. records_of n p m (g.refused (get_or us k d))) i.1 ∙ (let q : records_of n p m (g.refused (get_or us s d)) ≡ one_if (refused x) = omega arith in q),
      ))
  | inr i ↦ (let q = w.others j d i.1 in rw q h)
]

-- no count of faults falls, so a sink without any had none
no_fault : {K : Type 0} (g : Sink.Ghosts K) (ks us : List K) (s : ℕ) (r : Record) (ok : Bool) (d : K) (j : ℕ) → PutAt g ks us s r ok → g.faults (get_or us j d) ≡ 0 → g.faults (get_or ks j d) ≡ 0
no_fault g ks us s r ok d j w e = elim (eqb_tells j s) [
  | inl i ↦ (let o = (w.one d).counted in let f = ap (λ k. g.faults (get_or us k d)) i.1 in let h = ap (λ k. g.faults (get_or ks k d)) i.1 in omega arith)
  | inr i ↦ sym (ap g.faults (w.others j d i.1)) ∙ e
]

pub told_apart : {K : Type 0} (g : Sink.Ghosts K) (ks us : List K) (s : ℕ) (r : Record) (ok : Bool) (d : K) (n p j m : ℕ) (x : State) → PutAt g ks us s r ok → is_of n p m r ≡ false → LeafTold g ks d n p j m x → LeafTold g us d n p j m x
told_apart g ks us s r ok d n p j m x w e h = (counts_apart g ks us s r ok d n p j m x w e h.0, (λ f. h.1 (no_fault g ks us s r ok d j w f)))

counts_put : (ok : Bool) (x : State) (a b : ℕ) → a ≡ one_if (accepted Fresh) → b ≡ one_if (refused Fresh) → a ≡ one_if (accepted x) → b ≡ one_if (refused x)
    → (a + one_if (ok && true) ≡ one_if (accepted (settles (state_for ok) x))) × (b + one_if (not ok && true) ≡ one_if (refused (settles (state_for ok) x)))
counts_put true Fresh a b e f h k = (omega arith, omega arith)
counts_put false Fresh a b e f h k = (omega arith, omega arith)
counts_put ok Good a b e f h k = absurd (omega arith)
counts_put ok Bad a b e f h k = absurd (omega arith)

-- a record was accepted unless a fault was counted
refused_put : {K : Type 0} (g : Sink.Ghosts K) (j k : K) (r : Record) (ok : Bool) (x : State) → PutOne g j k r ok → (g.faults j ≡ 0 → refused x ≡ false) → g.faults k ≡ 0 → refused (settles (state_for ok) x) ≡ false
refused_put g j k r true Fresh o h e = refl
refused_put g j k r false Fresh o h e = let a = o.failed refl in absurd (omega arith)
refused_put g j k r ok Good o h e = refl
refused_put g j k r ok Bad o h e = h (let a = o.counted in omega arith)

told_put : {K : Type 0} (g : Sink.Ghosts K) (ks us : List K) (s : ℕ) (r : Record) (ok : Bool) (d : K) (n p l : ℕ) (x : State) → PutAt g ks us s r ok → is_of n p l r ≡ true → LeafTold g ks d n p s l Fresh → LeafTold g ks d n p s l x
    → LeafTold g us d n p s l (settles (state_for ok) x)
told_put g ks us s r ok d n p l x w e f h = (
  (λ t.
      let o = w.one d in
      let a = f.0 (o.told t) in
      let b = h.0 (o.told t) in
      let y = ap (records_of n p l) (o.taken t) ∙ of_cond n p l ok (g.accepted (get_or ks s d)) r ∙ ap (λ v. records_of n p l (g.accepted (get_or ks s d)) + one_if (ok && v)) e in
      let z = ap (records_of n p l) (o.turned t) ∙ of_else n p l ok (g.refused (get_or ks s d)) r ∙ ap (λ v. records_of n p l (g.refused (get_or ks s d)) + one_if (not ok && v)) e in
      let c = counts_put ok x _ _ a.0 a.1 b.0 b.1 in
      (y ∙ c.0, z ∙ c.1)),
  refused_put g (get_or ks s d) (get_or us s d) r ok x (w.one d) h.1,
)

mutual
  pub tree_map : (T U : ℕ → ℕ → State → Type 0) (t : Tree) → ((k m : ℕ) (x : State) → T k m x → U k m x) → EachLeaf T t → EachLeaf U t
  tree_map T U (leaf m j b x) f h = f j m x h
  tree_map T U nothing f h = tt
  tree_map T U (reject v) f h = tt
  tree_map T U (all ts) f h = trees_map T U ts f h
  tree_map T U (first ts) f h = trees_map T U ts f h
  tree_map T U (hold m i z c g) f h = tree_map T U c f h

  trees_map : (T U : ℕ → ℕ → State → Type 0) (ts : Trees) → ((k m : ℕ) (x : State) → T k m x → U k m x) → EachLeafIn T ts → EachLeafIn U ts
  trees_map T U none f h = tt
  trees_map T U (more t ts) f h = (tree_map T U t f h.0, trees_map T U ts f h.1)

leaf_put : {K : Type 0} (g : Sink.Ghosts K) (ks us : List K) (s : ℕ) (r : Record) (ok : Bool) (d : K) (n p l m j : ℕ) (x : State) → PutAt g ks us s r ok → is_of n p l r ≡ true → (m ≡ l → j ≡ s) → LeafTold g ks d n p s l Fresh → LeafTold g ks d n p j m x
    → LeafTold g us d n p j m (cond (eqb m l) (settles (state_for ok) x) x)
leaf_put g ks us s r ok d n p l m j x w e v f h = elim (eqb_tells m l) [
  | inl i ↦ (let q : j ≡ s = v i.1 in rw (i.0, q, i.1) (told_put g ks us s r ok d n p l x w e f (rw (q, i.1) at h)))
  | inr i ↦ rw i.0 (told_apart g ks us s r ok d n p j m x w (other_leaf n p l m r e i.1) h)
]

mutual
  pub tree_put : {K : Type 0} (g : Sink.Ghosts K) (ks us : List K) (s : ℕ) (r : Record) (ok : Bool) (d : K) (n p l : ℕ) (t : Tree) → PutAt g ks us s r ok → is_of n p l r ≡ true → SinkIs l s t → LeafTold g ks d n p s l Fresh
      → EachLeaf (λ k m x. LeafTold g ks d n p k m x) t → EachLeaf (λ k m x. LeafTold g us d n p k m x) (settle l (state_for ok) t)
  tree_put g ks us s r ok d n p l (leaf m j b x) w e v f h = leaf_put g ks us s r ok d n p l m j x w e v f h
  tree_put g ks us s r ok d n p l nothing w e v f h = tt
  tree_put g ks us s r ok d n p l (reject y) w e v f h = tt
  tree_put g ks us s r ok d n p l (all ts) w e v f h = trees_put g ks us s r ok d n p l ts w e v f h
  tree_put g ks us s r ok d n p l (first ts) w e v f h = trees_put g ks us s r ok d n p l ts w e v f h
  tree_put g ks us s r ok d n p l (hold m i z c y) w e v f h = tree_put g ks us s r ok d n p l c w e v f h

  trees_put : {K : Type 0} (g : Sink.Ghosts K) (ks us : List K) (s : ℕ) (r : Record) (ok : Bool) (d : K) (n p l : ℕ) (ts : Trees) → PutAt g ks us s r ok → is_of n p l r ≡ true → SinksAre l s ts → LeafTold g ks d n p s l Fresh
      → EachLeafIn (λ k m x. LeafTold g ks d n p k m x) ts → EachLeafIn (λ k m x. LeafTold g us d n p k m x) (settle_each l (state_for ok) ts)
  trees_put g ks us s r ok d n p l none w e v f h = tt
  trees_put g ks us s r ok d n p l (more t ts) w e v f h = (tree_put g ks us s r ok d n p l t w e v.0 f h.0, trees_put g ks us s r ok d n p l ts w e v.1 f h.1)

-- which transaction, part and leaf a record is of
pub of_itself : (r : Record) → is_of r.txn r.part r.leaf r ≡ true
of_itself r = rw (eq-eqb r.txn r.txn refl, eq-eqb r.part r.part refl, eq-eqb r.leaf r.leaf refl) refl

pub of_other : (n p m : ℕ) (r : Record) → (r.txn ≡ n → r.part ≡ p → ⊥) → is_of n p m r ≡ false
of_other n p m r d = elim (eqb_tells r.txn n) [
  | inl i ↦ elim (eqb_tells r.part p) [ inl j ↦ absurd (d i.1 j.1) | inr j ↦ rw (i.0, j.0) refl ]
  | inr i ↦ rw i.0 refl
]

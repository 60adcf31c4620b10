-- Each record stays one of a leaf's, and one that is put is.
use Rattle.std.proofs.Common.{◌≡◌, ℕ, zero, suc, ◌<◌, ◌≤◌, Bool, true, false, cond, List, [], ◌∷◌, ◌++◌, length, get_or, set, ◌⊎◌, inl, inr, arith, refl, sym, ap, ◌∙◌, subst, Option, Some, None, IsTrue, get_or-set_same, get_or-set_other}
use Rattle.std.specs.List.{AllByRecursion}
use Rattle.std.proofs.lemmas.Bool.Decides.{eqb_tells}
use Rattle.bt_chains.specs.declared.Entry.{Entry}
use Rattle.bt_demand.specs.Find.{bytes_of}
use Rattle.bt_demand.specs.Parts.{Part}
use Rattle.bt_demand.specs.Reached.{IsNext}
use Rattle.bt_demand.specs.Recorded.{untried}
use Rattle.bt_demand.specs.Tree.{Tree}
use Rattle.bt_demand.specs.WellFormed.{leaves, Differ, IsFlat}
use Rattle.bt_leaves.specs.LeafAt.{LeafAt}
use Rattle.bt_leaves.proofs.Standing.{at_untried, next_outside, next_below_at, at_bytes}
use Rattle.bt_ledger.specs.Ledger.{Ledger, slot_at, parts_in, number_in, is_given, open_in, with_part, with_slot, IsPart}
use Rattle.bt_ledger.specs.Open.{Open, tree_of}
use Rattle.bt_ledger.specs.declared.slot.Slot.{Slot}
use Rattle.bt_ledger.specs.declared.slot.Slot.TheVariants.{Free, Given}
use Rattle.bt_ports.specs.declared.outside.Sink as Sink
use Rattle.bt_ports.specs.declared.parts.Record.{Record}
use Rattle.bt_sound.specs.Owned.{BatchFits, IsRecordOf, OfSomePast, IsOwned, SinkOwned, Owned, PutsAs, ReleasesRise}
use Rattle.bt_sound.specs.Records.{PutAt}
use Rattle.bt_sound.specs.Transactions.{untried_parts}
use Rattle.bt_sound.specs.View.{Past}
use Rattle.bt_sound.proofs.Lists.{each_map, each_snoc}
use Rattle.bt_sound.proofs.Slots.{close_cases, step_cases, untried_with}

-- what is to be put is next
pub puts_next : (rs : List ℕ) (l k batch : ℕ) (t : Tree) → PutsAs rs l k batch t → IsNext l k t
puts_next rs l k batch t (inl h) = inl h.0.1
puts_next rs l k batch t (inr h) = inr (h.0, h.1.0)

same_bytes : (a b : List ℕ) (o : Option (List ℕ)) → Some a ≡ o → o ≡ Some b → b ≡ a
same_bytes a b o e f = let z : Some a ≡ Some b = e ∙ f in cc

at_here : (l k : ℕ) (b c : List ℕ) (o : Option ℕ) (t : Tree) → Differ (leaves t) → Some b ≡ bytes_of l t → LeafAt None l k c o t → LeafAt None l k b o (untried t)
at_here l k b c o t d e h = at_untried None l k b o t (subst (λ x. LeafAt None l k x o t) (same_bytes b c (bytes_of l t) e (at_bytes None l k c o t d h)) h)

-- it stands where its batch number says
pub puts_at : (rs : List ℕ) (l k batch : ℕ) (b : List ℕ) (t : Tree) → Differ (leaves t) → IsFlat t → Some b ≡ bytes_of l t → PutsAs rs l k batch t → (o : Option ℕ) × (LeafAt None l k b o (untried t) × BatchFits rs o batch)
puts_at rs l k batch b t d f e (inl h) = let w = next_outside None l k t h.0.0 h.0.1 in (None, (at_here l k b w.0 None t d e w.1, h.1))
puts_at rs l k batch b t d f e (inr h) = let w = next_below_at None h.0 l k t f h.1.0.1 in (Some h.0, (at_here l k b w.0 (Some h.0) t d e w.1, h.1.1))

-- a later state of a transaction, with the same parts but for states and stages
pub of_same : (rs : List ℕ) (k : ℕ) (o q : Open) (r : Record) → q.number ≡ o.number → untried_parts q.parts ≡ untried_parts o.parts → IsRecordOf rs k o r → IsRecordOf rs k q r
of_same rs k o q r e f h = record { number = h.number ∙ sym e; over = h.over; leaf = subst (λ ps. LeafAt None r.leaf k r.bytes h.over (tree_of ps r.part)) (sym f) h.leaf; batch = h.batch }

pub rise_joins : (a b c : List ℕ) → ReleasesRise a b → ReleasesRise b c → ReleasesRise a c
rise_joins a b c h k = λ n. (let x = h n in let y = k n in omega arith)

pub rise_same : (a b c : List ℕ) → ReleasesRise a b → c ≡ b → ReleasesRise a c
rise_same a b c h e = subst (λ x. ReleasesRise a x) (sym e) h

pub fits_later : (rs qs : List ℕ) (o : Option ℕ) (batch : ℕ) → ReleasesRise rs qs → BatchFits rs o batch → BatchFits qs o batch
fits_later rs qs None batch w h = h
fits_later rs qs (Some n) batch w h = (h.0, (let a = w n in let b = h.1 in omega arith))

of_later : (rs qs : List ℕ) (k : ℕ) (o : Open) (r : Record) → ReleasesRise rs qs → IsRecordOf rs k o r → IsRecordOf qs k o r
of_later rs qs k o r w h = record { number = h.number; over = h.over; leaf = h.leaf; batch = fits_later rs qs h.over r.batch w h.batch }

past_later : (rs qs : List ℕ) (k : ℕ) (ps : List Past) (r : Record) → ReleasesRise rs qs → OfSomePast rs k ps r → OfSomePast qs k ps r
past_later rs qs k [] r w h = absurd h
past_later rs qs k (p ∷ ps) r w (inl h) = inl (of_later rs qs k p.state r w h)
past_later rs qs k (p ∷ ps) r w (inr h) = inr (past_later rs qs k ps r w h)

is_later : (rs qs : List ℕ) (l : Ledger) (c : List Past) (k : ℕ) (r : Record) → ReleasesRise rs qs → IsOwned rs l c k r → IsOwned qs l c k r
is_later rs qs l c k r w (inl h) = inl (h.0, (h.1.0, of_later rs qs k (open_in (slot_at l h.0)) r w h.1.1))
is_later rs qs l c k r w (inr h) = inr (past_later rs qs k c r w h)

-- what is so of each owned record is so of those of each sink
pub owned_map : {K : Type 0} (g : Sink.Ghosts K) (rs qs : List ℕ) (l m : Ledger) (c e : List Past) (ks : List K) (d : K) → ((k : ℕ) (r : Record) → IsOwned rs l c k r → IsOwned qs m e k r) → Owned g rs l c ks d → Owned g qs m e ks d
owned_map g rs qs l m c e ks d f h = λ k w t. record {
  accepted = each_map (λ r. IsOwned rs l c k r) (λ r. IsOwned qs m e k r) (g.accepted (get_or ks k d)) (f k) (h k w t).accepted;
  refused = each_map (λ r. IsOwned rs l c k r) (λ r. IsOwned qs m e k r) (g.refused (get_or ks k d)) (f k) (h k w t).refused;
}

-- the releases rise
pub owned_later : {K : Type 0} (g : Sink.Ghosts K) (rs qs : List ℕ) (l : Ledger) (c : List Past) (ks : List K) (d : K) → ReleasesRise rs qs → Owned g rs l c ks d → Owned g qs l c ks d
owned_later g rs qs l c ks d w h = owned_map g rs qs l l c c ks d (λ k r. is_later rs qs l c k r w) h

-- a step of a part
pub is_step : (rs : List ℕ) (l : Ledger) (s p : ℕ) (t : Tree) (cs : List (List Entry)) (c : List Past) (k : ℕ) (r : Record) → IsPart l s p → untried t ≡ untried (tree_of (parts_in (slot_at l s)) p) → IsOwned rs l c k r → IsOwned rs (record (with_part l s p t) { chains = cs }) c k r
is_step rs l s p t cs c k r w u (inl h) = elim (step_cases l s p t h.0 w) [
  | inl i ↦ inl (h.0, (ap is_given i.1, subst (λ x. IsRecordOf rs k (open_in x) r) (sym i.1) (of_same rs k (open_in (slot_at l s)) _ r refl (untried_with (parts_in (slot_at l s)) p t w.1 u) (subst (λ a. IsRecordOf rs k (open_in (slot_at l a)) r) i.0 h.1.1))))
  | inr i ↦ inl (h.0, (ap is_given i.1 ∙ h.1.0, subst (λ x. IsRecordOf rs k (open_in x) r) (sym i.1) h.1.1))
]
is_step rs l s p t cs c k r w u (inr h) = inr h

-- one slot becomes another
pub is_slot : (rs : List ℕ) (l : Ledger) (s : ℕ) (x : Slot) (c e : List Past) (k : ℕ) (r : Record) → s < length l.slots
    → (is_given (slot_at l s) ≡ true → IsRecordOf rs k (open_in (slot_at l s)) r → ((is_given x ≡ true) × IsRecordOf rs k (open_in x) r) ⊎ OfSomePast rs k e r) → (OfSomePast rs k c r → OfSomePast rs k e r) → IsOwned rs l c k r → IsOwned rs (with_slot l s x) e k r
is_slot rs l s x c e k r w f g (inl h) = elim (close_cases l s h.0 x w) [
  | inl i ↦ elim (f (ap (λ a. is_given (slot_at l a)) (sym i.0) ∙ h.1.0) (subst (λ a. IsRecordOf rs k (open_in (slot_at l a)) r) i.0 h.1.1)) [
    | inl j ↦ inl (h.0, (ap is_given i.1 ∙ j.0, subst (λ y. IsRecordOf rs k (open_in y) r) (sym i.1) j.1))
    | inr j ↦ inr j
  ]
  | inr i ↦ inl (h.0, (ap is_given i.1 ∙ h.1.0, subst (λ y. IsRecordOf rs k (open_in y) r) (sym i.1) h.1.1))
]
is_slot rs l s x c e k r w f g (inr h) = inr (g h)

no_yes : (b : Bool) → b ≡ true → b ≡ false → ⊥
no_yes b e f = cc

-- a slot that wasn't given becomes another one
pub owned_out : {K : Type 0} (g : Sink.Ghosts K) (rs : List ℕ) (l : Ledger) (s : ℕ) (x : Slot) (c e : List Past) (ks : List K) (d : K) → s < length l.slots → is_given (slot_at l s) ≡ false → ((k : ℕ) (r : Record) → OfSomePast rs k c r → OfSomePast rs k e r) → Owned g rs l c ks d → Owned g rs (with_slot l s x) e ks d
owned_out g rs l s x c e ks d w n f h = owned_map g rs rs l (with_slot l s x) c e ks d (λ k r. is_slot rs l s x c e k r w (λ y _. absurd (no_yes (is_given (slot_at l s)) y n)) (f k r)) h

-- a transaction closes
pub owned_close : {K : Type 0} (g : Sink.Ghosts K) (rs : List ℕ) (l : Ledger) (s : ℕ) (b : Bool) (c : List Past) (ks : List K) (d : K) → s < length l.slots → Owned g rs l c ks d → Owned g rs (with_slot l s Free) (record { state = open_in (slot_at l s); memory = b } ∷ c) ks d
owned_close g rs l s b c ks d w h = owned_map g rs rs l (with_slot l s Free) c (record { state = open_in (slot_at l s); memory = b } ∷ c) ks d (λ k r. is_slot rs l s Free c (record { state = open_in (slot_at l s); memory = b } ∷ c) k r w (λ _ y. inr (inl y)) (λ y. inr y)) h

-- a slot stays given, with the same parts
pub owned_same : {K : Type 0} (g : Sink.Ghosts K) (rs : List ℕ) (l : Ledger) (s : ℕ) (o : Open) (c : List Past) (ks : List K) (d : K) → s < length l.slots → o.number ≡ number_in (slot_at l s) → untried_parts o.parts ≡ untried_parts (parts_in (slot_at l s)) → Owned g rs l c ks d → Owned g rs (with_slot l s (Given o)) c ks d
owned_same g rs l s o c ks d w e f h = owned_map g rs rs l (with_slot l s (Given o)) c c ks d (λ k r. is_slot rs l s (Given o) c c k r w (λ _ y. inl (refl, of_same rs k (open_in (slot_at l s)) o r e f y)) (λ y. y)) h

each_cond : (P : Record → Type 0) (b : Bool) (rs : List Record) (r : Record) → AllByRecursion P rs → P r → AllByRecursion P (cond b (rs ++ r ∷ []) rs)
each_cond P true rs r h k = each_snoc P rs r h k
each_cond P false rs r h k = h

each_else : (P : Record → Type 0) (b : Bool) (rs : List Record) (r : Record) → AllByRecursion P rs → P r → AllByRecursion P (cond b rs (rs ++ r ∷ []))
each_else P true rs r h k = h
each_else P false rs r h k = each_snoc P rs r h k

-- a record is put that is owned
pub owned_put : {K : Type 0} (g : Sink.Ghosts K) (rs : List ℕ) (l : Ledger) (c : List Past) (ks us : List K) (s : ℕ) (r : Record) (ok : Bool) (d : K) → PutAt g ks us s r ok → IsOwned rs l c s r → Owned g rs l c ks d → Owned g rs l c us d
owned_put g rs l c ks us s r ok d w o h = λ k v t. elim (eqb_tells k s) [
  | inl i ↦
      (let p = w.one d in
      let t2 : IsTrue (g.tells (get_or us s d)) = subst (λ j. IsTrue (g.tells (get_or us j d))) i.1 t in
      let a = h s (let x = w.same in let y = i.1 in omega arith) (p.told t2) in
      subst (λ j. SinkOwned g rs l c j (get_or us j d)) (sym i.1) (record {
        accepted = subst (λ xs. AllByRecursion (λ x. IsOwned rs l c s x) xs) (sym (p.taken t2)) (each_cond (λ x. IsOwned rs l c s x) ok (g.accepted (get_or ks s d)) r a.accepted o);
        refused = subst (λ xs. AllByRecursion (λ x. IsOwned rs l c s x) xs) (sym (p.turned t2)) (each_else (λ x. IsOwned rs l c s x) ok (g.refused (get_or ks s d)) r a.refused o);
      }))
  | inr i ↦ (let e = w.others k d i.1 in subst (λ x. SinkOwned g rs l c k x) (sym e) (h k (let x = w.same in omega arith) (subst (λ x. IsTrue (g.tells x)) e t)))
]

pub untried_at : (ps : List Part) (p : ℕ) → p < length ps → tree_of (untried_parts ps) p ≡ untried (tree_of ps p)
untried_at [] p h = absurd (omega arith)
untried_at (q ∷ ps) zero h = refl
untried_at (q ∷ ps) (suc p) h = untried_at ps p (omega arith)

-- one more release of a hold
pub one_more_rises : (rs : List ℕ) (n c : ℕ) → n < length rs → get_or rs n 0 ≤ c → ReleasesRise rs (set rs n c)
one_more_rises rs n c w h = λ m. elim (eqb_tells m n) [
  | inl i ↦ (let a = get_or-set_same rs n c 0 w in let e = ap (λ j. get_or (set rs n c) j 0) i.1 in let f = ap (λ j. get_or rs j 0) i.1 in omega arith)
  | inr i ↦ (let a = get_or-set_other rs n m c 0 i.1 in omega arith)
]

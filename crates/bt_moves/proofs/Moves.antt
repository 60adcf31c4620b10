-- What each move does to a ledger: a step of one part, or answers of one slot.
use Rattle.std.proofs.Common.{◌≡◌, ◌≢◌, ℕ, suc, ◌<◌, ◌≤◌, Bool, true, false, eqb, ◌&&◌, List, [], ◌∷◌, ◌++◌, length, set, ◌⊎◌, inl, inr, arith, refl, sym, ap, ◌∙◌, Option, Some, None, MatchOption, get_or-set_same, get_or-set_other, length-set}
use Rattle.std.proofs.lemmas.Bool.Decides.{eqb_tells}
use Rattle.bt_chains.specs.declared.Entry.{Entry}
use Rattle.bt_demand.specs.Find.{begun, below}
use Rattle.bt_demand.specs.Holding.{one_if, is_waiting}
use Rattle.bt_demand.specs.Next.{todo}
use Rattle.bt_demand.specs.Reached.{NextIn}
use Rattle.bt_demand.specs.Steps.{settle, wait, release, state_for}
use Rattle.bt_demand.specs.Tree.{Tree}
use Rattle.bt_demand.specs.Work.{work}
use Rattle.bt_demand.specs.declared.todo.Todo.TheVariants.{Put, Wait}
use Rattle.bt_demand.proofs.Falls.{settle_less, wait_less, release_less}
use Rattle.bt_steps.specs.declared.step.Step.TheVariants.{Release}
use Rattle.bt_steps.proofs.BookLaws.{fresh_waits}
use Rattle.bt_steps.proofs.HoldLaws.{count_le}
use Rattle.bt_ledger.specs.Book.{Booked, IsFront}
use Rattle.bt_ledger.specs.Calls.{waited, entry_of, Released as ReleasedTo, FrontReleased}
use Rattle.bt_ledger.specs.Ledger.{number_in, Ledger, slot_at, parts_in, is_given, open_in, part_tree, IsPart, with_slot, with_part, chain_at, with_chain, over_parts}
use Rattle.bt_ledger.specs.Open.{tree_of, from_of, with_tree}
use Rattle.bt_ledger.specs.declared.slot.Slot.{Slot}
use Rattle.bt_ledger.specs.declared.slot.Slot.TheVariants.{Free, Given}
use Rattle.bt_ledger.proofs.HoldKept.{held_set, length_more}
use Rattle.bt_ledger.proofs.Room.{part_cases}
use Rattle.bt_ledger.proofs.Sums.{slots_set, sum_with}
use Rattle.bt_leaves.proofs.Kept.{begun_step}
use Rattle.bt_leaves.proofs.NextLeaf.{below_less}
use Rattle.bt_leaves.proofs.Reaching.{waits_is}
use Rattle.bt_moves.specs.Moves.{left_to_do, StepAt, KeepsBut, Answering, Popped}
use Rattle.bt_moves.proofs.Keeping.{given_true, stays_same}

-- a step of one part
pub step_with : (l : Ledger) (s p : ℕ) (t : Tree) (cs : List (List Entry)) → IsPart l s p → begun t ≡ true → StepAt s p l (record (with_part l s p t) { chains = cs })
step_with l s p t cs h b =
    let x = Given (record (open_in (slot_at l s)) { parts = with_tree (parts_in (slot_at l s)) p t }) in
    let same : slot_at (with_part l s p t) s ≡ Given (record (open_in (slot_at l s)) { parts = with_tree (parts_in (slot_at l s)) p t }) = get_or-set_same l.slots s (Given (record (open_in (slot_at l s)) { parts = with_tree (parts_in (slot_at l s)) p t })) Free h.0 in
    let other : (a : ℕ) → a ≢ s → slot_at (with_part l s p t) a ≡ slot_at l a = λ a d. get_or-set_other l.slots s a (Given (record (open_in (slot_at l s)) { parts = with_tree (parts_in (slot_at l s)) p t })) Free d in
    record {
      slots = length-set l.slots s (Given (record (open_in (slot_at l s)) { parts = with_tree (parts_in (slot_at l s)) p t }));
      policies = refl;
      trees = λ a c d. elim (part_cases l s p t a c h) [ inl i ↦ absurd (d i.0.0 i.0.1) | inr i ↦ i.1 ];
      others = λ a d. other a d;
      given = ap is_given same;
      stays = λ a g. (
        (elim (eqb_tells a s) [
          | inl i ↦ ap (λ k. is_given (slot_at l k)) i.1 ∙ given_true (slot_at l s) p h.1
          | inr i ↦ ap is_given (sym (other a i.1)) ∙ g
        ]),
        (elim (eqb_tells a s) [
          | inl i ↦ ap (λ k. length (parts_in (slot_at (with_part l s p t) k))) i.1 ∙ ap (λ (y : Slot). length (parts_in y)) same ∙ length-set (parts_in (slot_at l s)) p (record { from = from_of (parts_in (slot_at l s)) p; demand = t }) ∙ ap (λ k. length (parts_in (slot_at l k))) (sym i.1)
          | inr i ↦ ap (λ (y : Slot). length (parts_in y)) (other a i.1)
        ]),
        λ c e. elim (part_cases l s p t a c h) [ inl i ↦ ap begun i.1 ∙ b | inr i ↦ ap begun i.1 ∙ e ],
      );
      begins = elim (part_cases l s p t s p h) [ inl i ↦ ap begun i.1 ∙ b | inr i ↦ absurd (i.0 refl refl) ];
    }

pub step_same : (l : Ledger) (s p : ℕ) → IsPart l s p → begun (part_tree l s p) ≡ true → StepAt s p l l
step_same l s p h b = record {
  slots = refl;
  policies = refl;
  trees = λ a c d. refl;
  others = λ a d. refl;
  given = given_true (slot_at l s) p h.1;
  stays = λ a. stays_same l a;
  begins = b;
}

pub step_joins : (s p : ℕ) (l m k : Ledger) → StepAt s p l m → StepAt s p m k → StepAt s p l k
step_joins s p l m k f g = record {
  slots = g.slots ∙ f.slots;
  policies = g.policies ∙ f.policies;
  trees = λ a b d. g.trees a b d ∙ f.trees a b d;
  others = λ a d. g.others a d ∙ f.others a d;
  given = g.given;
  stays = λ a e. (let x = g.stays a e in let y = f.stays a x.0 in (y.0, x.1 ∙ y.1, λ q b. x.2 q (y.2 q b)));
  begins = g.begins;
}

-- the part is there after a step
pub part_with : (l : Ledger) (s p : ℕ) (t : Tree) (cs : List (List Entry)) → IsPart l s p → IsPart (record (with_part l s p t) { chains = cs }) s p
part_with l s p t cs h =
    let same : slot_at (with_part l s p t) s ≡ Given (record (open_in (slot_at l s)) { parts = with_tree (parts_in (slot_at l s)) p t }) = get_or-set_same l.slots s (Given (record (open_in (slot_at l s)) { parts = with_tree (parts_in (slot_at l s)) p t })) Free h.0 in
    let a = length-set l.slots s (Given (record (open_in (slot_at l s)) { parts = with_tree (parts_in (slot_at l s)) p t })) in
    let b : length (parts_in (slot_at (with_part l s p t) s)) ≡ length (parts_in (slot_at l s)) = ap (λ (y : Slot). length (parts_in y)) same ∙ length-set (parts_in (slot_at l s)) p (record { from = from_of (parts_in (slot_at l s)) p; demand = t }) in
    let x = h.0 in let y = h.1 in
    (omega arith, omega arith)

-- what is left_to_do falls
pub put_falls : (l : Ledger) (s p lf k : ℕ) (a : Bool) → IsPart l s p → todo (part_tree l s p) ≡ Some (Put lf k) → left_to_do (with_part l s p (settle lf (state_for a) (part_tree l s p))) < left_to_do l
put_falls l s p lf k a h e =
    let x = sum_with work l s p (settle lf (state_for a) (part_tree l s p)) h in
    let y = settle_less lf k a (part_tree l s p) e in omega arith

pub wait_falls : (l : Ledger) (s p n : ℕ) → IsPart l s p → n < length l.chains → todo (part_tree l s p) ≡ Some (Wait n) → left_to_do (waited l s p n) < left_to_do l
wait_falls l s p n h w e =
    let x = sum_with work l s p (wait n (part_tree l s p)) h in
    let y = wait_less n (part_tree l s p) e in
    let z = held_set l.chains n (chain_at l n ++ entry_of l s p n ∷ []) w in
    let v = length_more (chain_at l n) (entry_of l s p n) in omega arith

pub pop_falls : (l : Ledger) (n : ℕ) (e : Entry) (es : List Entry) → IsFront l n e → n < length l.chains → chain_at l n ≡ e ∷ es → left_to_do (with_chain (with_part l e.slot e.part (release n (part_tree l e.slot e.part))) n es) < left_to_do l
pop_falls l n e es f w q =
    let x = sum_with work l e.slot e.part (release n (part_tree l e.slot e.part)) f.part in
    let y = release_less n (part_tree l e.slot e.part) (waits_is n (part_tree l e.slot e.part) (let a = f.waits in omega arith)) in
    let z = held_set l.chains n es w in
    let v : length (chain_at l n) ≡ suc (length es) = ap length q in omega arith

begun_or : (b : Bool) → (b ≡ true) ⊎ (b ≡ false)
begun_or true = inl refl
begun_or false = inr refl

waits_under : (a b : Bool) → one_if (a && b) ≤ one_if b
waits_under true b = omega arith
waits_under false true = omega arith
waits_under false false = omega arith

pub front_begun : (l : Ledger) (n : ℕ) (e : Entry) → IsFront l n e → begun (part_tree l e.slot e.part) ≡ true
front_begun l n e f = elim (begun_or (begun (part_tree l e.slot e.part))) [
  | inl h ↦ h
  | inr h ↦ (let a = fresh_waits (part_tree l e.slot e.part) h in
      let b = count_le (λ m g. eqb m n && is_waiting g) (λ _ g. is_waiting g) (part_tree l e.slot e.part) (λ m g. waits_under (eqb m n) (is_waiting g)) in
      let c = f.waits in absurd (omega arith))
]

-- answers of a slot
pub answering_same : (l : Ledger) (s : ℕ) → is_given (slot_at l s) ≡ true → Answering s l l
answering_same l s g = record { slots = refl; policies = refl; chains = refl; others = λ a d. refl; parts = refl; number = refl; given = g; work = refl }

pub answering_joins : (s : ℕ) (l m k : Ledger) → Answering s l m → Answering s m k → Answering s l k
answering_joins s l m k f g = record {
  slots = g.slots ∙ f.slots;
  policies = g.policies ∙ f.policies;
  chains = g.chains ∙ f.chains;
  others = λ a d. g.others a d ∙ f.others a d;
  parts = g.parts ∙ f.parts;
  number = g.number ∙ f.number;
  given = g.given;
  work = g.work ∙ f.work;
}

pub answering_with : (l : Ledger) (s : ℕ) (x : Slot) → s < length l.slots → parts_in x ≡ parts_in (slot_at l s) → number_in x ≡ number_in (slot_at l s) → is_given x ≡ true → Answering s l (with_slot l s x)
answering_with l s x h e n g =
    let same : slot_at (with_slot l s x) s ≡ x = get_or-set_same l.slots s x Free h in
    record {
      slots = length-set l.slots s x;
      policies = refl;
      chains = refl;
      others = λ a d. get_or-set_other l.slots s a x Free d;
      parts = ap parts_in same ∙ e;
      number = ap number_in same ∙ n;
      given = ap is_given same ∙ g;
      work = (let a = slots_set work l.slots s x h in let b = ap (over_parts work) e in omega arith);
    }

pub answering_tree : (s : ℕ) (l m : Ledger) → Answering s l m → (a b : ℕ) → part_tree m a b ≡ part_tree l a b
answering_tree s l m f a b = elim (eqb_tells a s) [
  | inl i ↦ ap (λ k. part_tree m k b) i.1 ∙ ap (λ ps. tree_of ps b) f.parts ∙ ap (λ k. part_tree l k b) (sym i.1)
  | inr i ↦ ap (λ (x : Slot). tree_of (parts_in x) b) (f.others a i.1)
]

pub but_answering : (s p : ℕ) (l m : Ledger) → is_given (slot_at l s) ≡ true → Answering s l m → KeepsBut s p l m
but_answering s p l m g f = record {
  slots = f.slots;
  policies = f.policies;
  quiet = λ a b d q. rw (answering_tree s l m f a b) q;
  rest = λ a d r. rw (f.others a d) r;
  stays = λ a e. (
    (elim (eqb_tells a s) [ inl i ↦ ap (λ k. is_given (slot_at l k)) i.1 ∙ g | inr i ↦ ap is_given (sym (f.others a i.1)) ∙ e ]),
    (elim (eqb_tells a s) [ inl i ↦ ap (λ k. length (parts_in (slot_at m k))) i.1 ∙ ap length f.parts ∙ ap (λ k. length (parts_in (slot_at l k))) (sym i.1) | inr i ↦ ap (λ (x : Slot). length (parts_in x)) (f.others a i.1) ]),
    λ q b. ap begun (answering_tree s l m f a q) ∙ b,
  );
}

-- a slot is closed
pub closes_but : (s p : ℕ) (l m : Ledger) → s < length m.slots → KeepsBut s p l m → KeepsBut s p l (with_slot m s Free)
closes_but s p l m h f =
    let same : slot_at (with_slot m s Free) s ≡ Free = get_or-set_same m.slots s Free Free h in
    let other : (a : ℕ) → a ≢ s → slot_at (with_slot m s Free) a ≡ slot_at m a = λ a d. get_or-set_other m.slots s a Free Free d in
    record {
      slots = length-set m.slots s Free ∙ f.slots;
      policies = f.policies;
      quiet = λ a b d q. elim (eqb_tells a s) [
        | inl i ↦ rw (i.1, same) tt
        | inr i ↦ rw (other a i.1) (f.quiet a b d q)
      ];
      rest = λ a d r. rw (other a d) (f.rest a d r);
      stays = λ a e. elim (eqb_tells a s) [
        | inl i ↦ (let z : false ≡ true = sym (ap is_given same) ∙ ap (λ k. is_given (slot_at (with_slot m s Free) k)) (sym i.1) ∙ e in cc)
        | inr i ↦ (let x : is_given (slot_at m a) ≡ true = ap is_given (sym (other a i.1)) ∙ e in
            let y = f.stays a x in
            (y.0, ap (λ (k : Slot). length (parts_in k)) (other a i.1) ∙ y.1, λ q b. ap (λ (k : Slot). begun (tree_of (parts_in k) q)) (other a i.1) ∙ y.2 q b))
      ];
    }

pub closed_free : (m : Ledger) (s : ℕ) → s < length m.slots → is_given (slot_at (with_slot m s Free) s) ≡ false
closed_free m s h = ap is_given (get_or-set_same m.slots s Free Free h)

pub closed_left : (m : Ledger) (s : ℕ) → s < length m.slots → left_to_do (with_slot m s Free) ≤ left_to_do m
closed_left m s h = let a = slots_set work m.slots s Free h in omega arith

pub below_falls : (l : Ledger) (s p n lf k : ℕ) (a : Bool) → IsPart l s p → NextIn lf k (below n (part_tree l s p)) → left_to_do (with_part l s p (settle lf (state_for a) (part_tree l s p))) < left_to_do l
below_falls l s p n lf k a h e =
    let x = sum_with work l s p (settle lf (state_for a) (part_tree l s p)) h in
    let y = below_less n lf k a (part_tree l s p) e in omega arith

-- what a pop did
pub front_cases : (es : List Entry) (l : Ledger) (n : ℕ) (e : Entry) (k : Ledger) → FrontReleased es l n (Some e) k → (rest : List Entry) × (es ≡ e ∷ rest) × (k ≡ with_chain (with_part l e.slot e.part (release n (part_tree l e.slot e.part))) n rest)
front_cases [] l n e k h = cc
front_cases (x ∷ es) l n e k h = let i : x ≡ e = cc in (es, ap (λ y. y ∷ es) i, h.1 ∙ ap (λ (y : Entry). with_chain (with_part l y.slot y.part (release n (part_tree l y.slot y.part))) n es) i)

pub front_none : (es : List Entry) (l : Ledger) (n : ℕ) (k : Ledger) → FrontReleased es l n None k → k ≡ l
front_none [] l n k h = h.1
front_none (x ∷ es) l n k h = cc

pub popped : (l k : Ledger) (n : ℕ) (o : Option Entry) → Booked l → n < length l.policies → ReleasedTo l n o k → MatchOption o (chain_at l n ≡ []) (λ e. IsFront l n e) → Popped l k o
popped l k n None b w r f = front_none (chain_at l n) l n k r
popped l k n (Some e) b w r f =
    let c = front_cases (chain_at l n) l n e k r in
    let same = b.chains in
    let begins = begun_step (Release n) (part_tree l e.slot e.part) (front_begun l n e f) in
    rw c.2 (
      step_with l e.slot e.part (release n (part_tree l e.slot e.part)) (set l.chains n c.0) f.part begins,
      (
        part_with l e.slot e.part (release n (part_tree l e.slot e.part)) (set l.chains n c.0) f.part,
        pop_falls l n e c.0 f (omega arith) c.1,
      ),
    )

-- The book after each step.
use Rattle.std.proofs.Common.{◌≡◌, ◌≢◌, ℕ, suc, ◌+◌, ◌<◌, ◌≤◌, Bool, true, false, cond, eqb, ◌&&◌, List, [], ◌∷◌, ◌++◌, length, get_or, set, ◌⊎◌, inl, inr, arith, refl, sym, ap, ◌∙◌, subst, eq-eqb, Some, get_or-set_same, get_or-set_other, length-set}
use Rattle.std.proofs.lemmas.Bool.Decides.{eqb_tells}
use Rattle.bt_demand.specs.Tree.{Tree}
use Rattle.bt_demand.specs.Steps.{settle, wait, release, state_for}
use Rattle.bt_demand.specs.Next.{todo}
use Rattle.bt_demand.specs.Find.{begun}
use Rattle.bt_demand.specs.Outcomes.{outcome}
use Rattle.bt_demand.specs.Holding.{one_if, is_waiting, is_open, every_hold, active, waiting, waits_at, holds_at, booked_in, OneEach}
use Rattle.bt_demand.specs.declared.todo.Todo.TheVariants.{Wait}
use Rattle.bt_demand.specs.Parts.{Part}
use Rattle.bt_chains.specs.declared.Entry.{Entry}
use Rattle.bt_ledger.specs.Open.{with_tree}
use Rattle.bt_ledger.specs.Ledger.{Ledger, slot_at, parts_in, moment_in, open_in, part_tree, IsPart, with_part, chain_at, with_chain, booked, entries_of, Roomy}
use Rattle.bt_ledger.specs.declared.slot.Slot.{Slot}
use Rattle.bt_ledger.specs.declared.slot.Slot.TheVariants.{Free, Given}
use Rattle.bt_ledger.specs.Book.{Booked}
use Rattle.std.specs.List.{AllByRecursion}
use Rattle.bt_demand.specs.Holding.{held_by}
use Rattle.bt_ledger.specs.Calls.{waited, entry_of, size_or}
use Rattle.bt_steps.specs.Stepped.{stepped}
use Rattle.bt_steps.specs.declared.step.Step.{Step}
use Rattle.bt_steps.specs.declared.step.Step.TheVariants.{Settle, Wait as Waits, Release}
use Rattle.bt_steps.proofs.HoldLaws.{count_settle, count_le}
use Rattle.bt_steps.proofs.BookLaws.{tidy_settle, tidy_release, fresh_waits}
use Rattle.bt_ledger.proofs.Room.{part_cases, tidy_with, bound_kept}
use Rattle.bt_ledger.proofs.Sums.{sum_with}
use Rattle.bt_steps.proofs.WaitLaws.{tidy_wait, waiting_one}
use Rattle.bt_ledger.proofs.HoldKept.{waits_own, waits_other, entries_more, held_set, length_more, matches_not}
use Rattle.bt_ledger.proofs.Fronts.{front_part}
use Rattle.bt_steps.proofs.PopLaws.{waiting_pop, waits_gone, waits_others}
use Rattle.bt_steps.proofs.Steps.{every_step, holds_at_step, active_step, grows_step, held_step, settled_stays}

-- what a step of a part does not change is so of all parts
pub over_same : {B : Type 0} (f : Tree → B) (l : Ledger) (s p : ℕ) (t : Tree) → IsPart l s p → f t ≡ f (part_tree l s p) → (a b : ℕ) → f (part_tree (with_part l s p t) a b) ≡ f (part_tree l a b)
over_same f l s p t h e a b = elim (part_cases l s p t a b h) [
  | inl i ↦ ap f i.1 ∙ e ∙ ap (λ k. f (part_tree l k p)) (sym i.0.0) ∙ ap (λ k. f (part_tree l a k)) (sym i.0.1)
  | inr i ↦ ap f i.1
]

given_moment : (x : Slot) (ps : List Part) → moment_in (Given (record (open_in x) { parts = ps })) ≡ moment_in x
given_moment x ps = refl

pub moment_same : (l : Ledger) (s p : ℕ) (t : Tree) (a : ℕ) → s < length l.slots → moment_in (slot_at (with_part l s p t) a) ≡ moment_in (slot_at l a)
moment_same l s p t a h = elim (eqb_tells a s) [
  | inl i ↦ ap (λ k. moment_in (get_or (set l.slots s (Given (record (open_in (slot_at l s)) { parts = with_tree (parts_in (slot_at l s)) p t }))) k Free)) i.1 ∙ ap moment_in (get_or-set_same l.slots s (Given (record (open_in (slot_at l s)) { parts = with_tree (parts_in (slot_at l s)) p t })) Free h) ∙ ap (λ k. moment_in (slot_at l k)) (sym i.1)
  | inr i ↦ ap moment_in (get_or-set_other l.slots s a (Given (record (open_in (slot_at l s)) { parts = with_tree (parts_in (slot_at l s)) p t })) Free i.1)
]

-- so are the entries of holds
pub entry_same : (l : Ledger) (s p : ℕ) (st : Step) → IsPart l s p → (a b n : ℕ) → entry_of (with_part l s p (stepped st (part_tree l s p))) a b n ≡ entry_of l a b n
entry_same l s p st h a b n =
    let t = stepped st (part_tree l s p) in
    let e = over_same (λ u. size_or (held_by n u)) l s p (stepped st (part_tree l s p)) h (ap size_or (held_step n st (part_tree l s p))) a b in
    let m = moment_same l s p (stepped st (part_tree l s p)) a h.0 in
    rw (e, m) refl

pub filled_on : (l m : Ledger) (n : ℕ) (es : List Entry) → ((a b : ℕ) → entry_of m a b n ≡ entry_of l a b n) → AllByRecursion (λ e. e ≡ entry_of l e.slot e.part n) es → AllByRecursion (λ e. e ≡ entry_of m e.slot e.part n) es
filled_on l m n [] h f = tt
filled_on l m n (e ∷ es) h f = (f.0 ∙ sym (h e.slot e.part), filled_on l m n es h f.1)

pub filled_more : (l : Ledger) (n : ℕ) (es : List Entry) (x : Entry) → AllByRecursion (λ e. e ≡ entry_of l e.slot e.part n) es → x ≡ entry_of l x.slot x.part n → AllByRecursion (λ e. e ≡ entry_of l e.slot e.part n) (es ++ x ∷ [])
filled_more l n [] x f h = (h, tt)
filled_more l n (e ∷ es) x f h = (f.0, filled_more l n es x f.1 h)

bool_split : (b : Bool) → (b ≡ true) ⊎ (b ≡ false)
bool_split true = inl refl
bool_split false = inr refl

settled_none : (b o : Bool) (a : ℕ) → o ≡ false → cond (b && o) a 0 ≡ 0
settled_none true true a e = cc
settled_none true false a e = refl
settled_none false o a e = refl

-- each step keeps the bound
pub bound_step : (l : Ledger) (s p : ℕ) (st : Step) → Booked l → IsPart l s p → Roomy l s p → booked (with_part l s p (stepped st (part_tree l s p))) ≤ l.entries
bound_step l s p st b h r =
    let t = part_tree l s p in
    elim (bool_split (is_open (outcome (part_tree l s p)))) [
      | inl o ↦ bound_kept l s p (stepped st (part_tree l s p)) b h r o (active_step st (part_tree l s p))
      | inr o ↦ (let x = settled_stays _ _ (grows_step st (part_tree l s p)) o in
          let z = settled_none (begun (stepped st (part_tree l s p))) (is_open (outcome (stepped st (part_tree l s p)))) (active (stepped st (part_tree l s p))) x in
          let a = sum_with booked_in l s p (stepped st (part_tree l s p)) h in
          let k = b.bound in
          omega arith)
    ]

-- what each step keeps
single_step : (l : Ledger) (s p : ℕ) (st : Step) → Booked l → IsPart l s p → (a c : ℕ) → OneEach (part_tree (with_part l s p (stepped st (part_tree l s p))) a c)
single_step l s p st b h a c = λ k. (let e = over_same (holds_at k) l s p (stepped st (part_tree l s p)) h (holds_at_step k st (part_tree l s p)) a c in let y = b.single a c k in omega arith)

few_step : (l : Ledger) (s p : ℕ) (st : Step) → Booked l → IsPart l s p → (a c : ℕ) → every_hold (part_tree (with_part l s p (stepped st (part_tree l s p))) a c) ≤ 64
few_step l s p st b h a c = let e = over_same every_hold l s p (stepped st (part_tree l s p)) h (every_step st (part_tree l s p)) a c in let y = b.few a c in omega arith

known_step : (l : Ledger) (s p : ℕ) (st : Step) → Booked l → IsPart l s p → (a c n : ℕ) → length l.policies ≤ n → holds_at n (part_tree (with_part l s p (stepped st (part_tree l s p))) a c) ≡ 0
known_step l s p st b h a c n w = over_same (holds_at n) l s p (stepped st (part_tree l s p)) h (holds_at_step n st (part_tree l s p)) a c ∙ b.known a c n w

pub book_settle : (l : Ledger) (s p : ℕ) (leaf : ℕ) (ok : Bool) → Booked l → IsPart l s p → Roomy l s p → Booked (with_part l s p (settle leaf (state_for ok) (part_tree l s p)))
book_settle l s p lf ok b h r =
    let t = part_tree l s p in
    record {
      own = λ n a c. b.own n a c ∙ sym (over_same (waits_at n) l s p (settle lf (state_for ok) (part_tree l s p)) h (count_settle (λ m g. eqb m n && is_waiting g) lf (state_for ok) (part_tree l s p)) a c);
      filled = λ n. filled_on l (with_part l s p (settle lf (state_for ok) (part_tree l s p))) n (chain_at l n) (λ a c. entry_same l s p (Settle lf ok) h a c n) (b.filled n);
      total = (let a = sum_with waiting l s p (settle lf (state_for ok) (part_tree l s p)) h in let e = count_settle (λ _ g. is_waiting g) lf (state_for ok) (part_tree l s p) in omega (arith, b.total));
      bound = bound_step l s p (Settle lf ok) b h r;
      tidy = tidy_with l s p (settle lf (state_for ok) (part_tree l s p)) b.tidy h (tidy_settle lf (state_for ok) (part_tree l s p) (b.tidy s p));
      single = single_step l s p (Settle lf ok) b h;
      few = few_step l s p (Settle lf ok) b h;
      known = known_step l s p (Settle lf ok) b h;
      chains = b.chains;
    }

pub book_hold : (l : Ledger) (s p n : ℕ) → Booked l → IsPart l s p → Roomy l s p → todo (part_tree l s p) ≡ Some (Wait n) → n < length l.chains → Booked (waited l s p n)
book_hold l s p n b h r e w =
    let x = entry_of l s p n in
    let same : chain_at (waited l s p n) n ≡ chain_at l n ++ entry_of l s p n ∷ [] = get_or-set_same l.chains n (chain_at l n ++ entry_of l s p n ∷ []) [] w in
    let other : (k : ℕ) → k ≢ n → chain_at (waited l s p n) k ≡ chain_at l k = λ k d. get_or-set_other l.chains n k (chain_at l n ++ entry_of l s p n ∷ []) [] d in
    record {
      own = λ k a c. elim (part_cases l s p (wait n (part_tree l s p)) a c h) [
        | inl i ↦ elim (eqb_tells k n) [
          | inl j ↦ (let o = waits_own n (part_tree l s p) (b.single s p) e in
              let q = entries_more s p (chain_at l n) (entry_of l s p n) in
              let y : cond {A = ℕ} (eqb s s && eqb p p) 1 0 ≡ 1 = rw (eq-eqb s s refl, eq-eqb p p refl) refl in
              let z = b.own n s p in
              rw (i.0.0, i.0.1, j.1, same) (let v : waits_at n (part_tree (waited l s p n) s p) ≡ waits_at n (wait n (part_tree l s p)) = ap (waits_at n) (ap (λ u. part_tree (with_part l s p (wait n (part_tree l s p))) u p) (sym i.0.0) ∙ ap (λ u. part_tree (with_part l s p (wait n (part_tree l s p))) a u) (sym i.0.1) ∙ i.1) in omega arith))
          | inr j ↦ (let o = waits_other n k (part_tree l s p) j.1 in
              rw (other k j.1) (b.own k a c ∙ ap (waits_at k) (ap (λ u. part_tree l u c) i.0.0 ∙ ap (λ u. part_tree l s u) i.0.1) ∙ sym o ∙ ap (waits_at k) (sym i.1)))
        ]
        | inr i ↦ elim (eqb_tells k n) [
          | inl j ↦ (let q = entries_more a c (chain_at l n) (entry_of l s p n) in
              let y : cond {A = ℕ} (eqb s a && eqb p c) 1 0 ≡ 0 = ap {B = ℕ} (λ u. cond u 1 0) (matches_not s p a c i.0) in
              let z = b.own n a c in
              let v : waits_at n (part_tree (waited l s p n) a c) ≡ waits_at n (part_tree l a c) = ap (waits_at n) i.1 in
              rw (j.1, same) (omega arith))
          | inr j ↦ rw (other k j.1) (b.own k a c ∙ ap (waits_at k) (sym i.1))
        ]
      ];
      filled = λ k. (let f = λ (a c : ℕ). entry_same l s p (Waits n) h a c k in
          elim (eqb_tells k n) [
            | inl i ↦ (let c : chain_at (waited l s p n) k ≡ chain_at l k ++ entry_of l s p k ∷ [] = ap (chain_at (waited l s p n)) i.1 ∙ same ∙ ap (λ u. chain_at l u ++ entry_of l s p u ∷ []) (sym i.1) in
                rw c (filled_more (waited l s p n) k (chain_at l k) (entry_of l s p k) (filled_on l (waited l s p n) k (chain_at l k) f (b.filled k)) (sym (f s p))))
            | inr i ↦ rw (other k i.1) (filled_on l (waited l s p n) k (chain_at l k) f (b.filled k))
          ]);
      total = (let a = held_set l.chains n (chain_at l n ++ entry_of l s p n ∷ []) w in
          let c = length_more (chain_at l n) (entry_of l s p n) in
          let d = sum_with waiting l s p (wait n (part_tree l s p)) h in
          let f = waiting_one n (part_tree l s p) (b.single s p) e in
          omega (arith, b.total));
      bound = bound_step l s p (Waits n) b h r;
      tidy = tidy_with l s p (wait n (part_tree l s p)) b.tidy h (tidy_wait n (part_tree l s p) (b.tidy s p) e (b.single s p n));
      single = single_step l s p (Waits n) b h;
      few = few_step l s p (Waits n) b h;
      known = known_step l s p (Waits n) b h;
      chains = length-set l.chains n (chain_at l n ++ entry_of l s p n ∷ []) ∙ b.chains;
    }

le_cases : (a b : Bool) → one_if (a && b) ≤ one_if b
le_cases true b = omega arith
le_cases false true = omega arith
le_cases false false = omega arith

waits_le : (n : ℕ) (t : Tree) → waits_at n t ≤ waiting t
waits_le n t = count_le (λ m g. eqb m n && is_waiting g) (λ _ g. is_waiting g) t (λ m g. le_cases (eqb m n) (is_waiting g))

-- a part in which a hold waits has begun
pub waiting_begun : (n : ℕ) (t : Tree) → 1 ≤ waits_at n t → begun t ≡ false → ⊥
waiting_begun n t h e = let a = waits_le n t in let z = fresh_waits t e in absurd (omega arith)

add_one : (n : ℕ) → suc n ≡ n + 1
add_one n = omega arith

pub book_release : (l : Ledger) (n : ℕ) (e : Entry) (es : List Entry) → Booked l → n < length l.chains → chain_at l n ≡ e ∷ es → Booked (with_chain (with_part l e.slot e.part (release n (part_tree l e.slot e.part))) n es)
book_release l n e es b w q =
    let f = front_part l n e es b q in
    let h = f.0 in
    let s = e.slot in
    let p = e.part in
    let t = release n (part_tree l e.slot e.part) in
    let k = with_chain (with_part l e.slot e.part (release n (part_tree l e.slot e.part))) n es in
    let same : chain_at (with_chain (with_part l e.slot e.part (release n (part_tree l e.slot e.part))) n es) n ≡ es = get_or-set_same l.chains n es [] w in
    let other : (j : ℕ) → j ≢ n → chain_at (with_chain (with_part l e.slot e.part (release n (part_tree l e.slot e.part))) n es) j ≡ chain_at l j = λ j d. get_or-set_other l.chains n j es [] d in
    record {
      own = λ j a c. elim (part_cases l e.slot e.part (release n (part_tree l e.slot e.part)) a c h) [
        | inl i ↦ elim (eqb_tells j n) [
          | inl x ↦ (let o = waits_gone n (part_tree l e.slot e.part) in
              let g : entries_of e.slot e.part (chain_at l n) ≡ entries_of e.slot e.part (e ∷ es) = ap (entries_of e.slot e.part) q in
              let y : cond {A = ℕ} (eqb e.slot e.slot && eqb e.part e.part) 1 0 ≡ 1 = rw (eq-eqb e.slot e.slot refl, eq-eqb e.part e.part refl) refl in
              let z = b.own n e.slot e.part in
              let v : waits_at n (part_tree (with_part l e.slot e.part (release n (part_tree l e.slot e.part))) e.slot e.part) ≡ waits_at n (release n (part_tree l e.slot e.part)) = ap (waits_at n) (ap (λ u. part_tree (with_part l e.slot e.part (release n (part_tree l e.slot e.part))) u e.part) (sym i.0.0) ∙ ap (λ u. part_tree (with_part l e.slot e.part (release n (part_tree l e.slot e.part))) a u) (sym i.0.1) ∙ i.1) in
              let r = f.1 in
              rw (i.0.0, i.0.1, x.1, same) (omega arith))
          | inr x ↦ (let o = waits_others n j (part_tree l e.slot e.part) x.1 in
              rw (other j x.1) (b.own j a c ∙ ap (waits_at j) (ap (λ u. part_tree l u c) i.0.0 ∙ ap (λ u. part_tree l e.slot u) i.0.1) ∙ sym o ∙ ap (waits_at j) (sym i.1)))
        ]
        | inr i ↦ elim (eqb_tells j n) [
          | inl x ↦ (let y : cond {A = ℕ} (eqb e.slot a && eqb e.part c) 1 0 ≡ 0 = ap {B = ℕ} (λ u. cond u 1 0) (matches_not e.slot e.part a c i.0) in
              let g : entries_of a c (chain_at l n) ≡ entries_of a c (e ∷ es) = ap (entries_of a c) q in
              let z = b.own n a c in
              let v : waits_at n (part_tree (with_part l e.slot e.part (release n (part_tree l e.slot e.part))) a c) ≡ waits_at n (part_tree l a c) = ap (waits_at n) i.1 in
              rw (x.1, same) (omega arith))
          | inr x ↦ rw (other j x.1) (b.own j a c ∙ ap (waits_at j) (sym i.1))
        ]
      ];
      filled = λ j. (let g = λ (a c : ℕ). entry_same l e.slot e.part (Release n) h a c j in
          elim (eqb_tells j n) [
            | inl i ↦ (let u : AllByRecursion (λ x. x ≡ entry_of l x.slot x.part j) (e ∷ es) = subst (λ (xs : List Entry). AllByRecursion (λ x. x ≡ entry_of l x.slot x.part j) xs) (ap (chain_at l) i.1 ∙ q) (b.filled j) in
                let c : chain_at (with_chain (with_part l e.slot e.part (release n (part_tree l e.slot e.part))) n es) j ≡ es = ap (chain_at (with_chain (with_part l e.slot e.part (release n (part_tree l e.slot e.part))) n es)) i.1 ∙ same in
                rw c (filled_on l (with_chain (with_part l e.slot e.part (release n (part_tree l e.slot e.part))) n es) j es g u.1))
            | inr i ↦ rw (other j i.1) (filled_on l (with_chain (with_part l e.slot e.part (release n (part_tree l e.slot e.part))) n es) j (chain_at l j) g (b.filled j))
          ]);
      total = (let a = held_set l.chains n es w in
          let c : length (chain_at l n) ≡ length es + 1 = ap length q ∙ add_one (length es) in
          let d = sum_with waiting l e.slot e.part (release n (part_tree l e.slot e.part)) h in
          let g = waiting_pop n (part_tree l e.slot e.part) in
          let r = f.1 in
          omega (arith, b.total));
      bound = bound_step l e.slot e.part (Release n) b h (λ u. absurd (waiting_begun n (part_tree l e.slot e.part) (let r = f.1 in omega arith) u));
      tidy = tidy_with l e.slot e.part (release n (part_tree l e.slot e.part)) b.tidy h (tidy_release n (part_tree l e.slot e.part) (b.tidy e.slot e.part));
      single = single_step l e.slot e.part (Release n) b h;
      few = few_step l e.slot e.part (Release n) b h;
      known = known_step l e.slot e.part (Release n) b h;
      chains = length-set l.chains n es ∙ b.chains;
    }

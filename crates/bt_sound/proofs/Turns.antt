-- What moves add to the lists of the sinks and the answerer, and that these add up.
use Rattle.std.proofs.Common.{◌≡◌, ◌≢◌, ℕ, zero, suc, ◌+◌, ◌<◌, ◌≤◌, Bool, true, false, cond, eqb, Some, List, [], ◌∷◌, ◌++◌, length, get_or, set, ◌⊎◌, inl, inr, arith, refl, sym, ap, ◌∙◌, subst, IsTrue, get_or-set_same, get_or-set_other, length-set}
use Rattle.std.specs.List.{AllByRecursion}
use Rattle.std.proofs.lemmas.Bool.Decides.{eqb_tells, leb_tells}
use Rattle.std.proofs.lemmas.List.{append_assoc, append-nil}
use Rattle.bt_demand.specs.Holding.{is_open}
use Rattle.bt_demand.specs.Outcomes.{outcome}
use Rattle.bt_demand.specs.Parts.{Part}
use Rattle.bt_demand.specs.Next.{todo}
use Rattle.bt_demand.specs.Recorded.{untried}
use Rattle.bt_demand.specs.Steps.{settle, state_for}
use Rattle.bt_demand.specs.Tree.{Tree}
use Rattle.bt_demand.specs.WellFormed.{leaves, nodes}
use Rattle.bt_demand.specs.declared.todo.Todo.TheVariants.{Put}
use Rattle.bt_demand.proofs.Lists.{InList}
use Rattle.bt_demand.specs.declared.routes.HoldPolicy.{HoldPolicy}
use Rattle.bt_ledger.specs.Due.{times, counts_for, open_parts, IsDue}
use Rattle.bt_ledger.specs.Ledger.{Ledger, slot_at, part_tree, number_in, parts_in, answered_in, is_given, open_in, with_part, with_slot, IsPart}
use Rattle.bt_ledger.specs.Open.{Open, part_at, from_of, tree_of, with_tree, no_part}
use Rattle.bt_ledger.specs.declared.slot.Slot.{Slot}
use Rattle.bt_ledger.specs.declared.slot.Slot.TheVariants.{Free, Given}
use Rattle.bt_moves.specs.Moves.{Answering}
use Rattle.bt_moves.specs.Resting.{AtRest}
use Rattle.bt_ports.specs.declared.outside.Answerer as Answerer
use Rattle.bt_ports.specs.declared.outside.Sink as Sink
use Rattle.bt_ports.specs.declared.parts.AnswerCall.{AnswerCall}
use Rattle.bt_ports.specs.declared.parts.Record.{Record}
use Rattle.bt_sound.specs.Records.{PutAt}
use Rattle.bt_sound.specs.Transactions.{given_open}
use Rattle.bt_sound.specs.Answers.{RefusedAll}
use Rattle.bt_sound.specs.Turns.{AtMostOne, LeavesInTurn, PutInTurn, Refusals, StandsBefore, RecordsInTurn, CallsInTurn, ItemsRise, NotBefore, CallsDue, CallsFor, CallsAtOnce, CallsDelivered, SinkAdds, SinksAdd, AnswererAdds, SameFrom, OnlyPart, Turned, DeliveredInTurn}
use Rattle.bt_sound.specs.View.{FloorView}
use Rattle.bt_sound.specs.declared.counts.Counts.{Counts}
use Rattle.bt_sound.proofs.Leftmost.{live, live_stays, next_before, next_live}
use Rattle.bt_sound.proofs.Lists.{each_map, each_append, each_both}
use Rattle.bt_sound.proofs.Slots.{step_cases}

-- nothing was added
pub sinks_same : {K : Type 0} (g : Sink.Ghosts K) (P : List Record → Type 0) (ks : List K) → P [] → SinksAdd g P ks ks
sinks_same g P ks h = (
  refl,
  (λ k d. record {
    place = refl;
    faults = omega arith;
    told = λ t. t;
    accepted = λ t. ([], (sym (append-nil (g.accepted (get_or ks k d))), h));
    refused = λ t. ([], (sym (append-nil (g.refused (get_or ks k d))), h));
  }),
)

pub answers_same : {A : Type 0} (g : Answerer.Ghosts A) (P : List AnswerCall → Type 0) (a : A) → P [] → AnswererAdds g P a a
answers_same g P a h = record { place = refl; faults = omega arith; told = λ t. t; calls = λ t. ([], (sym (append-nil (g.calls a)), h)) }

more_list : {T : Type 0} (P Q R : List T → Type 0) (a b c : List T) → ((xs ys : List T) → P xs → Q ys → R (xs ++ ys)) → (xs : List T) × ((b ≡ a ++ xs) × P xs) → (ys : List T) × ((c ≡ b ++ ys) × Q ys) → (zs : List T) × ((c ≡ a ++ zs) × R zs)
more_list P Q R a b c f h k = (h.0 ++ k.0, (k.1.0 ∙ (ap (λ xs. xs ++ k.0) h.1.0 ∙ append_assoc a h.0 k.0), f h.0 k.0 h.1.1 k.1.1))

-- what two moves add
pub sinks_joins : {K : Type 0} (g : Sink.Ghosts K) (P Q R : List Record → Type 0) (js ks ms : List K) → ((xs ys : List Record) → P xs → Q ys → R (xs ++ ys)) → SinksAdd g P js ks → SinksAdd g Q ks ms → SinksAdd g R js ms
sinks_joins g P Q R js ks ms f h w = (
  w.0 ∙ h.0,
  (λ k d.
      let x = h.1 k d in
      let y = w.1 k d in
      record {
        place = y.place ∙ x.place;
        faults = (let a = x.faults in let b = y.faults in omega arith);
        told = λ t. x.told (y.told t);
        accepted = λ t. more_list P Q R (g.accepted (get_or js k d)) (g.accepted (get_or ks k d)) (g.accepted (get_or ms k d)) f (x.accepted (y.told t)) (y.accepted t);
        refused = λ t. more_list P Q R (g.refused (get_or js k d)) (g.refused (get_or ks k d)) (g.refused (get_or ms k d)) f (x.refused (y.told t)) (y.refused t);
      }),
)

pub answers_joins : {A : Type 0} (g : Answerer.Ghosts A) (P Q R : List AnswerCall → Type 0) (a b c : A) → ((xs ys : List AnswerCall) → P xs → Q ys → R (xs ++ ys)) → AnswererAdds g P a b → AnswererAdds g Q b c → AnswererAdds g R a c
answers_joins g P Q R a b c f x y = record {
  place = y.place ∙ x.place;
  faults = (let u = x.faults in let v = y.faults in omega arith);
  told = λ t. x.told (y.told t);
  calls = λ t. more_list P Q R (g.calls a) (g.calls b) (g.calls c) f (x.calls (y.told t)) (y.calls t);
}

pub answers_map : {A : Type 0} (g : Answerer.Ghosts A) (P Q : List AnswerCall → Type 0) (a b : A) → ((xs : List AnswerCall) → P xs → Q xs) → AnswererAdds g P a b → AnswererAdds g Q a b
answers_map g P Q a b f x = record { place = x.place; faults = x.faults; told = x.told; calls = λ t. (let c = x.calls t in (c.0, (c.1.0, f c.0 c.1.1))) }

pub sinks_map : {K : Type 0} (g : Sink.Ghosts K) (P Q : List Record → Type 0) (js ks : List K) → ((xs : List Record) → P xs → Q xs) → SinksAdd g P js ks → SinksAdd g Q js ks
sinks_map g P Q js ks f h = (
  h.0,
  (λ k d.
      let x = h.1 k d in
      record { place = x.place; faults = x.faults; told = x.told; accepted = λ t. (let c = x.accepted t in (c.0, (c.1.0, f c.0 c.1.1))); refused = λ t. (let c = x.refused t in (c.0, (c.1.0, f c.0 c.1.1))) }),
)

-- records in turn
records_wider : (n a b hi : ℕ) (rs : List Record) → RecordsInTurn n b hi rs → a ≤ b → RecordsInTurn n a hi rs
records_wider n a b hi [] h w = tt
records_wider n a b hi (r ∷ rs) h w = (h.0, ((let x = h.1.0 in omega arith), h.1.1))

records_later : (n a b c : ℕ) (xs ys : List Record) → RecordsInTurn n a b xs → RecordsInTurn n b c ys → a ≤ b → b ≤ c → RecordsInTurn n a c (xs ++ ys)
records_later n a b c [] ys h k u v = records_wider n a b c ys k u
records_later n a b c (x ∷ xs) ys h k u v = (h.0, (h.1.0, ((let w = h.1.1.0 in omega arith), records_later n x.part b c xs ys h.1.1.1 k (let w = h.1.1.0 in omega arith) v)))

records_again : (n p : ℕ) (xs ys : List Record) → RecordsInTurn n p (p + 1) xs → RecordsInTurn n p (p + 1) ys → RecordsInTurn n p (p + 1) (xs ++ ys)
records_again n p [] ys h k = k
records_again n p (x ∷ xs) ys h k = let e : x.part ≡ p = (let a = h.1.0 in let b = h.1.1.0 in omega arith) in
    (h.0, (h.1.0, (h.1.1.0, subst (λ q. RecordsInTurn n q (p + 1) (xs ++ ys)) (sym e) (records_again n p xs ys (subst (λ q. RecordsInTurn n q (p + 1) xs) e h.1.1.1) k))))

cond_list : (ok : Bool) (xs : List Record) (r : Record) (P : List Record → Type 0) → P (r ∷ []) → P [] → (rs : List Record) × ((cond ok (xs ++ r ∷ []) xs ≡ xs ++ rs) × P rs)
cond_list true xs r P h k = (r ∷ [], (refl, h))
cond_list false xs r P h k = ([], (sym (append-nil xs), k))

else_list : (ok : Bool) (xs : List Record) (r : Record) (P : List Record → Type 0) → P (r ∷ []) → P [] → (rs : List Record) × ((cond ok xs (xs ++ r ∷ []) ≡ xs ++ rs) × P rs)
else_list true xs r P h k = ([], (sym (append-nil xs), k))
else_list false xs r P h k = (r ∷ [], (refl, h))

-- a record that is put
pub put_adds : {K : Type 0} (g : Sink.Ghosts K) (ks us : List K) (s : ℕ) (r : Record) (ok : Bool) (n p l : ℕ) → PutAt g ks us s r ok → r.txn ≡ n → r.part ≡ p → r.leaf ≡ l → SinksAdd g (AtMostOne n p l) ks us
put_adds g ks us s r ok n p l w en ep el =
    let one : AtMostOne n p l (r ∷ []) = ((en, (ep, el)), refl) in (
      w.same,
      (λ k d. elim (eqb_tells k s) [
        | inl i ↦ subst (λ j. SinkAdds g (AtMostOne n p l) (get_or ks j d) (get_or us j d)) (sym i.1)
            (let o = w.one d in record {
              place = o.place;
              faults = o.counted;
              told = o.told;
              accepted = λ t. (let c = cond_list ok (g.accepted (get_or ks s d)) r (AtMostOne n p l) one tt in (c.0, (o.taken t ∙ c.1.0, c.1.1)));
              refused = λ t. (let c = else_list ok (g.refused (get_or ks s d)) r (AtMostOne n p l) one tt in (c.0, (o.turned t ∙ c.1.0, c.1.1)));
            })
        | inr i ↦ subst (λ x. SinkAdds g (AtMostOne n p l) (get_or ks k d) x) (sym (w.others k d i.1)) ((sinks_same g (AtMostOne n p l) ks tt).1 k d)
      ]),
    )

one_in_turn : (n p l : ℕ) (qs : List Record) → AtMostOne n p l qs → RecordsInTurn n p (p + 1) qs
one_in_turn n p l [] h = tt
one_in_turn n p l (q ∷ qs) h = (h.0.0, ((let a = h.0.1.0 in omega arith), ((let a = h.0.1.0 in omega arith), subst (λ xs. RecordsInTurn n q.part (p + 1) xs) (sym h.1) tt)))

all_there : (n p : ℕ) (rs : List Record) → RecordsInTurn n p (p + 1) rs → AllByRecursion (λ r. r.part ≡ p) rs
all_there n p [] h = tt
all_there n p (r ∷ rs) h =
    let e : r.part ≡ p = (let a = h.1.0 in let b = h.1.1.0 in omega arith) in
    (e, all_there n p rs (subst (λ q. RecordsInTurn n q (p + 1) rs) e h.1.1.1))

-- leaves in turn
one_after : (ps : List Part) (n p l : ℕ) (r : Record) (qs : List Record) → StandsBefore r.leaf l (leaves (tree_of ps r.part)) → AtMostOne n p l qs → AllByRecursion (λ (s : Record). s.part ≡ r.part → StandsBefore r.leaf s.leaf (leaves (tree_of ps r.part))) qs
one_after ps n p l r [] h o = tt
one_after ps n p l r (q ∷ qs) h o = (
  (λ _. subst (λ j. StandsBefore r.leaf j (leaves (tree_of ps r.part))) (sym o.0.1.1) h),
  subst (λ xs. AllByRecursion (λ (s : Record). s.part ≡ r.part → StandsBefore r.leaf s.leaf (leaves (tree_of ps r.part))) xs) (sym o.1) tt,
)

leaves_more : (ps : List Part) (n p l : ℕ) (rs qs : List Record) → LeavesInTurn ps rs → AllByRecursion (λ r. StandsBefore r.leaf l (leaves (tree_of ps r.part))) rs → AtMostOne n p l qs → LeavesInTurn ps (rs ++ qs)
leaves_more ps n p l [] [] h k o = tt
leaves_more ps n p l [] (q ∷ qs) h k o = subst (λ xs. LeavesInTurn ps (q ∷ xs)) (sym o.1) (tt, tt)
leaves_more ps n p l (r ∷ rs) qs h k o = (each_append (λ (s : Record). s.part ≡ r.part → StandsBefore r.leaf s.leaf (leaves (tree_of ps r.part))) rs qs h.0 (one_after ps n p l r qs k.0 o), leaves_more ps n p l rs qs h.1 k.1 o)

records_from : (n a b : ℕ) (rs : List Record) → RecordsInTurn n a b rs → AllByRecursion (λ r. a ≤ r.part) rs
records_from n a b [] h = tt
records_from n a b (r ∷ rs) h = (h.1.0, each_map (λ (s : Record). r.part ≤ s.part) (λ (s : Record). a ≤ s.part) rs (λ s w. (let v = h.1.0 in omega arith)) (records_from n r.part b rs h.1.1.1))

-- those of later parts come behind
leaves_later : (ps : List Part) (n a b c : ℕ) (xs ys : List Record) → RecordsInTurn n a b xs → RecordsInTurn n b c ys → LeavesInTurn ps xs → LeavesInTurn ps ys → LeavesInTurn ps (xs ++ ys)
leaves_later ps n a b c [] ys h k u v = v
leaves_later ps n a b c (x ∷ xs) ys h k u v = (
  each_append (λ (s : Record). s.part ≡ x.part → StandsBefore x.leaf s.leaf (leaves (tree_of ps x.part))) xs ys u.0
      (each_map (λ (s : Record). b ≤ s.part) (λ (s : Record). s.part ≡ x.part → StandsBefore x.leaf s.leaf (leaves (tree_of ps x.part))) ys (λ s w e. (let z = h.1.1.0 in absurd (omega arith))) (records_from n b c ys k)),
  leaves_later ps n x.part b c xs ys h.1.1.1 k u.1 v,
)

leaves_from : (ps qs : List Part) (rs : List Record) → ((q : ℕ) → leaves (tree_of qs q) ≡ leaves (tree_of ps q)) → LeavesInTurn qs rs → LeavesInTurn ps rs
leaves_from ps qs [] f h = tt
leaves_from ps qs (r ∷ rs) f h = (
  each_map (λ (s : Record). s.part ≡ r.part → StandsBefore r.leaf s.leaf (leaves (tree_of qs r.part))) (λ (s : Record). s.part ≡ r.part → StandsBefore r.leaf s.leaf (leaves (tree_of ps r.part))) rs (λ s w e. subst (λ ls. StandsBefore r.leaf s.leaf ls) (f r.part) (w e)) h.0,
  leaves_from ps qs rs f h.1,
)

-- while a part is settled: the records so far are for leaves that stand before all that may still be put
abbrev pub Putting : List Part → (n p : ℕ) → Tree → List Record → Type 0
Putting ps n p t rs = PutInTurn ps n p (p + 1) rs × AllByRecursion (λ r. (y : ℕ) → InList y (live t) → StandsBefore r.leaf y (leaves (tree_of ps p))) rs

one_before : (ps : List Part) (n p l k : ℕ) (a : Bool) (t : Tree) → leaves t ≡ leaves (tree_of ps p) → nodes (untried t) ≡ [] → todo t ≡ Some (Put l k) → (qs : List Record) → AtMostOne n p l qs → AllByRecursion (λ (r : Record). (y : ℕ) → InList y (live (settle l (state_for a) t)) → StandsBefore r.leaf y (leaves (tree_of ps p))) qs
one_before ps n p l k a t same plain next [] o = tt
one_before ps n p l k a t same plain next (q ∷ qs) o = (
  (λ y i. subst (λ ls. StandsBefore q.leaf y ls) same (subst (λ j. StandsBefore j y (leaves t)) (sym o.0.1.1) (next_before y l k a t plain next i))),
  subst (λ xs. AllByRecursion (λ (r : Record). (y : ℕ) → InList y (live (settle l (state_for a) t)) → StandsBefore r.leaf y (leaves (tree_of ps p))) xs) (sym o.1) tt,
)

putting_more : (ps : List Part) (n p l k : ℕ) (a : Bool) (t : Tree) → leaves t ≡ leaves (tree_of ps p) → nodes (untried t) ≡ [] → todo t ≡ Some (Put l k) → (rs qs : List Record) → Putting ps n p t rs → AtMostOne n p l qs → Putting ps n p (settle l (state_for a) t) (rs ++ qs)
putting_more ps n p l k a t same plain next rs qs h o =
    let now = next_live l k t plain next in
    let here = all_there n p rs h.0.0 in
    let behind : AllByRecursion (λ (r : Record). StandsBefore r.leaf l (leaves (tree_of ps r.part))) rs = each_both (λ (r : Record). r.part ≡ p) (λ (r : Record). (y : ℕ) → InList y (live t) → StandsBefore r.leaf y (leaves (tree_of ps p))) (λ (r : Record). StandsBefore r.leaf l (leaves (tree_of ps r.part))) rs
    (λ r e w. subst (λ q. StandsBefore r.leaf l (leaves (tree_of ps q))) (sym e) (w l now)) here h.1 in (
      (records_again n p rs qs h.0.0 (one_in_turn n p l qs o), leaves_more ps n p l rs qs h.0.1 behind o),
      each_append (λ (r : Record). (y : ℕ) → InList y (live (settle l (state_for a) t)) → StandsBefore r.leaf y (leaves (tree_of ps p))) rs qs
          (each_map (λ (r : Record). (y : ℕ) → InList y (live t) → StandsBefore r.leaf y (leaves (tree_of ps p))) (λ (r : Record). (y : ℕ) → InList y (live (settle l (state_for a) t)) → StandsBefore r.leaf y (leaves (tree_of ps p))) rs (λ r w y i. w y (live_stays y l a t i)) h.1)
          (one_before ps n p l k a t same plain next qs o),
    )

-- one more record of the same part
pub puts_again : {K : Type 0} (g : Sink.Ghosts K) (js ks ms : List K) (ps : List Part) (n p l k : ℕ) (a : Bool) (t : Tree) → leaves t ≡ leaves (tree_of ps p) → nodes (untried t) ≡ [] → todo t ≡ Some (Put l k) → SinksAdd g (Putting ps n p t) js ks → SinksAdd g (AtMostOne n p l) ks ms → SinksAdd g (Putting ps n p (settle l (state_for a) t)) js ms
puts_again g js ks ms ps n p l k a t same plain next h o = sinks_joins g (Putting ps n p t) (AtMostOne n p l) (Putting ps n p (settle l (state_for a) t)) js ks ms (λ xs ys. putting_more ps n p l k a t same plain next xs ys) h o

-- a slot after a step of one of its parts
from_with : (ps : List Part) (p q : ℕ) (t : Tree) → p < length ps → from_of (with_tree ps p t) q ≡ from_of ps q
from_with ps p q t w = elim (eqb_tells q p) [
  | inl i ↦ ap (λ j. from_of (with_tree ps p t) j) i.1 ∙ (ap (λ (x : Part). x.from) (get_or-set_same ps p (record { from = from_of ps p; demand = t }) no_part w) ∙ ap (λ j. from_of ps j) (sym i.1))
  | inr i ↦ ap (λ (x : Part). x.from) (get_or-set_other ps p q (record { from = from_of ps p; demand = t }) no_part i.1)
]

leaves_with : (ps : List Part) (p q : ℕ) (t : Tree) → p < length ps → leaves t ≡ leaves (tree_of ps p) → leaves (tree_of (with_tree ps p t) q) ≡ leaves (tree_of ps q)
leaves_with ps p q t w same = elim (eqb_tells q p) [
  | inl i ↦ ap (λ j. leaves (tree_of (with_tree ps p t) j)) i.1 ∙ (ap (λ (x : Part). leaves x.demand) (get_or-set_same ps p (record { from = from_of ps p; demand = t }) no_part w) ∙ (same ∙ ap (λ j. leaves (tree_of ps j)) (sym i.1)))
  | inr i ↦ ap (λ (x : Part). leaves x.demand) (get_or-set_other ps p q (record { from = from_of ps p; demand = t }) no_part i.1)
]

tree_with : (ps : List Part) (p q : ℕ) (t : Tree) → q ≢ p → tree_of (with_tree ps p t) q ≡ tree_of ps q
tree_with ps p q t d = ap (λ (x : Part). x.demand) (get_or-set_other ps p q (record { from = from_of ps p; demand = t }) no_part d)

slot_with : (l : Ledger) (s p : ℕ) (t : Tree) → IsPart l s p → slot_at (with_part l s p t) s ≡ Given (record (open_in (slot_at l s)) { parts = with_tree (parts_in (slot_at l s)) p t })
slot_with l s p t w = get_or-set_same l.slots s (Given (record (open_in (slot_at l s)) { parts = with_tree (parts_in (slot_at l s)) p t })) Free w.0

pub tree_stepped : (l : Ledger) (s p : ℕ) (t : Tree) → IsPart l s p → part_tree (with_part l s p t) s p ≡ t
tree_stepped l s p t w = ap (λ (x : Slot). tree_of (parts_in x) p) (slot_with l s p t w) ∙ ap (λ (x : Part). x.demand) (get_or-set_same (parts_in (slot_at l s)) p (record { from = from_of (parts_in (slot_at l s)) p; demand = t }) no_part w.1)

pub only_same : (p : ℕ) (x : Slot) → is_given x ≡ true → OnlyPart p x x
only_same p x e = record { same = record { number = refl; many = refl; from = λ q. refl; same_leaves = λ q. refl }; answered = refl; trees = λ q d. refl; given = e }

pub only_step : (l k : Ledger) (x : Slot) (s p : ℕ) (t : Tree) → IsPart l s p → leaves t ≡ leaves (tree_of (parts_in (slot_at l s)) p) → k ≡ with_part l s p t → OnlyPart p x (slot_at l s) → OnlyPart p x (slot_at k s)
only_step l k x s p t w same e h = subst (λ q. OnlyPart p x (slot_at q s)) (sym e) (subst (λ y. OnlyPart p x y) (sym (slot_with l s p t w)) (record {
  same = record {
    number = h.same.number;
    many = length-set (parts_in (slot_at l s)) p (record { from = from_of (parts_in (slot_at l s)) p; demand = t }) ∙ h.same.many;
    from = λ q. from_with (parts_in (slot_at l s)) p q t w.1 ∙ h.same.from q;
    same_leaves = λ q. leaves_with (parts_in (slot_at l s)) p q t w.1 same ∙ h.same.same_leaves q;
  };
  answered = h.answered;
  trees = λ q d. tree_with (parts_in (slot_at l s)) p q t d ∙ h.trees q d;
  given = refl;
}))

zero_by : (b : Bool) (n : ℕ) → n ≡ 0 → cond b n 0 ≡ 0
zero_by true n e = e
zero_by false n e = refl

same_count : (i : ℕ) (x y : Part) → y.from ≡ x.from → y.demand ≡ x.demand → counts_for i y ≡ counts_for i x
same_count i x y e f = ap (λ (t : Tree). cond (is_open (outcome t)) (times i y.from) 0) f ∙ ap (λ xs. cond (is_open (outcome x.demand)) (times i xs) 0) e

same_counts : (ps qs : List Part) (i : ℕ) → length qs ≡ length ps → ((q : ℕ) → from_of qs q ≡ from_of ps q) → ((q : ℕ) → tree_of qs q ≡ tree_of ps q) → open_parts i qs ≡ open_parts i ps
same_counts [] [] i e f t = refl
same_counts [] (y ∷ qs) i e f t = absurd (omega arith)
same_counts (x ∷ ps) [] i e f t = absurd (omega arith)
same_counts (x ∷ ps) (y ∷ qs) i e f t = let a = same_count i x y (f 0) (t 0) in let c = same_counts ps qs i (omega arith) (λ q. f (suc q)) (λ q. t (suc q)) in omega arith

not_zero : (q : ℕ) → suc q ≡ 0 → ⊥
not_zero q e = absurd (omega arith)

not_suc : (q : ℕ) → 0 ≡ suc q → ⊥
not_suc q e = absurd (omega arith)

less_one : (a b : ℕ) → suc a ≡ suc b → a ≡ b
less_one a b e = omega arith

-- of an item that a part doesn't come from as many parts are open, whatever became of that part
counts_at : (ps qs : List Part) (p i : ℕ) → length qs ≡ length ps → ((q : ℕ) → from_of qs q ≡ from_of ps q) → ((q : ℕ) → q ≢ p → tree_of qs q ≡ tree_of ps q) → times i (from_of ps p) ≡ 0 → open_parts i qs ≡ open_parts i ps
counts_at [] [] p i e f t z = refl
counts_at [] (y ∷ qs) p i e f t z = absurd (omega arith)
counts_at (x ∷ ps) [] p i e f t z = absurd (omega arith)
counts_at (x ∷ ps) (y ∷ qs) zero i e f t z =
    let a : counts_for i y ≡ 0 = zero_by (is_open (outcome y.demand)) (times i y.from) (ap (times i) (f 0) ∙ z) in
    let b : counts_for i x ≡ 0 = zero_by (is_open (outcome x.demand)) (times i x.from) z in
    let c = same_counts ps qs i (omega arith) (λ q. f (suc q)) (λ q. t (suc q) (not_zero q)) in
    omega arith
counts_at (x ∷ ps) (y ∷ qs) (suc p) i e f t z =
    let a = same_count i x y (f 0) (t 0 (not_suc p)) in
    let c = counts_at ps qs p i (omega arith) (λ q. f (suc q)) (λ q d. t (suc q) (λ u. d (less_one q p u))) z in
    omega arith

-- an item that is due once a part was settled comes from it
due_from : (p i : ℕ) (x y : Slot) → OnlyPart p x y → IsDue (open_in y) i → (IsDue (open_in x) i → ⊥) → 1 ≤ times i (from_of (parts_in x) p)
due_from p i x y h d n = elim (leb_tells 1 (times i (from_of (parts_in x) p))) [
  | inl j ↦ j.1
  | inr j ↦
      (let z : times i (from_of (parts_in x) p) ≡ 0 = (let a = j.1 in omega arith) in
      absurd (n (
        subst (λ bs. i < length bs) h.answered d.0,
        subst (λ bs. get_or bs i true ≡ false) h.answered d.1,
        sym (counts_at (parts_in x) (parts_in y) p i h.same.many h.same.from h.trees z) ∙ d.2,
      )))
]

calls_turn : (p i : ℕ) (x y : Slot) (cs : List AnswerCall) → OnlyPart p x y → ((j : ℕ) → IsDue (open_in x) j → ⊥) → AllByRecursion (λ c. (c.number ≡ number_in y) × IsDue (open_in y) c.item) cs → ItemsRise cs → AllByRecursion (λ c. i ≤ c.item) cs → CallsInTurn (parts_in x) (number_in x) p i (p + 1) cs
calls_turn p i x y [] h n d r b = tt
calls_turn p i x y (c ∷ cs) h n d r b = (
  d.0.0 ∙ h.same.number,
  (
    p,
    (
      inr (refl, b.0),
      (
        omega arith,
        (
          due_from p c.item x y h d.0.1 (n c.item),
          calls_turn p (c.item + 1) x y cs h n d.1 r.1 (each_map (λ (e : AnswerCall). c.item < e.item) (λ (e : AnswerCall). c.item + 1 ≤ e.item) cs (λ e w. omega arith) r.0),
        ),
      ),
    ),
  ),
)

each_from_zero : (cs : List AnswerCall) → AllByRecursion (λ c. 0 ≤ c.item) cs
each_from_zero [] = tt
each_from_zero (c ∷ cs) = (omega arith, each_from_zero cs)

-- calls in turn
not_before : (a i b j q k : ℕ) → NotBefore a i b j → NotBefore b j q k → NotBefore a i q k
not_before a i b j q k (inl h) (inl w) = inl (omega arith)
not_before a i b j q k (inl h) (inr w) = inl (let z = w.0 in omega arith)
not_before a i b j q k (inr h) (inl w) = inl (let z = h.0 in omega arith)
not_before a i b j q k (inr h) (inr w) = inr (h.0 ∙ w.0, (let y = h.1 in let z = w.1 in omega arith))

from_start : (a b : ℕ) → a ≤ b → NotBefore a 0 b 0
from_start a b w = elim (leb_tells (a + 1) b) [
  | inl i ↦ inl (let x = i.1 in omega arith)
  | inr i ↦ inr ((let x = i.1 in omega arith), omega arith)
]

calls_wider : (ps : List Part) (n a i b j c e : ℕ) (cs : List AnswerCall) → CallsInTurn ps n b j c cs → NotBefore a i b j → c ≤ e → CallsInTurn ps n a i e cs
calls_wider ps n a i b j c e [] h u v = tt
calls_wider ps n a i b j c e (x ∷ xs) h u v = let k = h.1 in
    (h.0, (k.0, (not_before a i b j k.0 x.item u k.1.0, ((let w = k.1.1.0 in omega arith), (k.1.1.1.0, calls_wider ps n k.0 (x.item + 1) k.0 (x.item + 1) c e xs k.1.1.1.1 (inr (refl, omega arith)) v)))))

calls_later : (ps : List Part) (n a i b c : ℕ) (xs ys : List AnswerCall) → CallsInTurn ps n a i b xs → CallsInTurn ps n b 0 c ys → NotBefore a i b 0 → b ≤ c → CallsInTurn ps n a i c (xs ++ ys)
calls_later ps n a i b c [] ys h k u v = calls_wider ps n a i b 0 c c ys k u (omega arith)
calls_later ps n a i b c (x ∷ xs) ys h k u v = let j = h.1 in
    (h.0, (j.0, (j.1.0, ((let w = j.1.1.0 in omega arith), (j.1.1.1.0, calls_later ps n j.0 (x.item + 1) b c xs ys j.1.1.1.1 k (inl j.1.1.0) v)))))

calls_from : (ps qs : List Part) (n lo i hi : ℕ) (cs : List AnswerCall) → ((q : ℕ) → from_of qs q ≡ from_of ps q) → CallsInTurn qs n lo i hi cs → CallsInTurn ps n lo i hi cs
calls_from ps qs n lo i hi [] f h = tt
calls_from ps qs n lo i hi (c ∷ cs) f h = let k = h.1 in (h.0, (k.0, (k.1.0, (k.1.1.0, (subst (λ xs. 1 ≤ times c.item xs) (f k.0) k.1.1.1.0, calls_from ps qs n k.0 (c.item + 1) hi cs f k.1.1.1.1)))))

records_higher : (n a b c : ℕ) (rs : List Record) → RecordsInTurn n a b rs → b ≤ c → RecordsInTurn n a c rs
records_higher n a b c [] h w = tt
records_higher n a b c (r ∷ rs) h w = (h.0, (h.1.0, ((let x = h.1.1.0 in omega arith), records_higher n r.part b c rs h.1.1.1 w)))

-- nothing was settled
pub turned_none : {I K A C D : Type 0} (gk : Sink.Ghosts K) (ga : Answerer.Ghosts A) (s lo hi : ℕ) (f : FloorView I K A C D) → Turned gk ga s lo hi f f
turned_none gk ga s lo hi f = record {
  sinks = sinks_same gk (PutInTurn (parts_in (slot_at f.ledger s)) (number_in (slot_at f.ledger s)) lo hi) f.sinks (tt, tt);
  answers = answers_same ga (CallsInTurn (parts_in (slot_at f.ledger s)) (number_in (slot_at f.ledger s)) lo 0 hi) f.answerer tt;
  same = λ _. record { number = refl; many = refl; from = λ q. refl; same_leaves = λ q. refl };
  policies = refl;
}

-- one part was settled
pub turned_part : {I K A C D : Type 0} (gk : Sink.Ghosts K) (ga : Answerer.Ghosts A) (s p : ℕ) (t : Tree) (f m g : FloorView I K A C D) → AtRest f.ledger s → OnlyPart p (slot_at f.ledger s) (slot_at m.ledger s)
    → SinksAdd gk (Putting (parts_in (slot_at f.ledger s)) (number_in (slot_at f.ledger s)) p t) f.sinks m.sinks → m.answerer ≡ f.answerer → g.sinks ≡ m.sinks → AnswererAdds ga (CallsDue (open_in (slot_at m.ledger s))) m.answerer g.answerer
    → (is_given (slot_at g.ledger s) ≡ true → SameFrom (slot_at m.ledger s) (slot_at g.ledger s)) → g.ledger.policies ≡ f.ledger.policies → Turned gk ga s p (p + 1) f g
turned_part gk ga s p t f m g rest only sinks ea es calls same pol = record {
  sinks = subst (λ ks. SinksAdd gk (PutInTurn (parts_in (slot_at f.ledger s)) (number_in (slot_at f.ledger s)) p (p + 1)) f.sinks ks) (sym es)
      (sinks_map gk (Putting (parts_in (slot_at f.ledger s)) (number_in (slot_at f.ledger s)) p t) (PutInTurn (parts_in (slot_at f.ledger s)) (number_in (slot_at f.ledger s)) p (p + 1)) f.sinks m.sinks (λ rs h. h.0) sinks);
  answers = answers_map ga (CallsDue (open_in (slot_at m.ledger s))) (CallsInTurn (parts_in (slot_at f.ledger s)) (number_in (slot_at f.ledger s)) p 0 (p + 1)) f.answerer g.answerer (λ cs h. calls_turn p 0 (slot_at f.ledger s) (slot_at m.ledger s) cs only rest.0 h.0 h.1 (each_from_zero cs))
      (subst (λ a. AnswererAdds ga (CallsDue (open_in (slot_at m.ledger s))) a g.answerer) ea calls);
  same = λ e. (let x = same e in record { number = x.number ∙ only.same.number; many = x.many ∙ only.same.many; from = λ q. x.from q ∙ only.same.from q; same_leaves = λ q. x.same_leaves q ∙ only.same.same_leaves q });
  policies = pol;
}

-- and then later ones
pub turned_joins : {I K A C D : Type 0} (gk : Sink.Ghosts K) (ga : Answerer.Ghosts A) (s a b c : ℕ) (f g h : FloorView I K A C D) → a ≤ b → b ≤ c → is_given (slot_at g.ledger s) ≡ true → Turned gk ga s a b f g → Turned gk ga s b c g h → Turned gk ga s a c f h
turned_joins gk ga s a b c f g h u v e x y =
    let z = x.same e in
    record {
      sinks = sinks_joins gk (PutInTurn (parts_in (slot_at f.ledger s)) (number_in (slot_at f.ledger s)) a b) (PutInTurn (parts_in (slot_at g.ledger s)) (number_in (slot_at g.ledger s)) b c) (PutInTurn (parts_in (slot_at f.ledger s)) (number_in (slot_at f.ledger s)) a c) f.sinks g.sinks h.sinks
          (λ xs ys p q. (let r = subst (λ n. RecordsInTurn n b c ys) z.number q.0 in (
            records_later (number_in (slot_at f.ledger s)) a b c xs ys p.0 r u v,
            leaves_later (parts_in (slot_at f.ledger s)) (number_in (slot_at f.ledger s)) a b c xs ys p.0 r p.1 (leaves_from (parts_in (slot_at f.ledger s)) (parts_in (slot_at g.ledger s)) ys z.same_leaves q.1),
          ))) x.sinks y.sinks;
      answers = answers_joins ga (CallsInTurn (parts_in (slot_at f.ledger s)) (number_in (slot_at f.ledger s)) a 0 b) (CallsInTurn (parts_in (slot_at g.ledger s)) (number_in (slot_at g.ledger s)) b 0 c) (CallsInTurn (parts_in (slot_at f.ledger s)) (number_in (slot_at f.ledger s)) a 0 c) f.answerer g.answerer h.answerer
          (λ xs ys p q. calls_later (parts_in (slot_at f.ledger s)) (number_in (slot_at f.ledger s)) a 0 b c xs ys p (calls_from (parts_in (slot_at f.ledger s)) (parts_in (slot_at g.ledger s)) (number_in (slot_at f.ledger s)) b 0 c ys z.from (subst (λ n. CallsInTurn (parts_in (slot_at g.ledger s)) n b 0 c ys) z.number q)) (from_start a b u) v) x.answers y.answers;
      same = λ i. (let k = y.same i in record { number = k.number ∙ z.number; many = k.many ∙ z.many; from = λ q. k.from q ∙ z.from q; same_leaves = λ q. k.same_leaves q ∙ z.same_leaves q });
      policies = y.policies ∙ x.policies;
    }

pub turned_wider : {I K A C D : Type 0} (gk : Sink.Ghosts K) (ga : Answerer.Ghosts A) (s a b c : ℕ) (f g : FloorView I K A C D) → b ≤ c → Turned gk ga s a b f g → Turned gk ga s a c f g
turned_wider gk ga s a b c f g w x = record {
  sinks = sinks_map gk (PutInTurn (parts_in (slot_at f.ledger s)) (number_in (slot_at f.ledger s)) a b) (PutInTurn (parts_in (slot_at f.ledger s)) (number_in (slot_at f.ledger s)) a c) f.sinks g.sinks (λ rs h. (records_higher (number_in (slot_at f.ledger s)) a b c rs h.0 w, h.1)) x.sinks;
  answers = answers_map ga (CallsInTurn (parts_in (slot_at f.ledger s)) (number_in (slot_at f.ledger s)) a 0 b) (CallsInTurn (parts_in (slot_at f.ledger s)) (number_in (slot_at f.ledger s)) a 0 c) f.answerer g.answerer (λ cs h. calls_wider (parts_in (slot_at f.ledger s)) (number_in (slot_at f.ledger s)) a 0 a 0 b c cs h (inr (refl, omega arith)) w) x.answers;
  same = x.same;
  policies = x.policies;
}

given_or : (b : Bool) → (b ≡ true) ⊎ (b ≡ false)
given_or true = inl refl
given_or false = inr refl

-- one part more, where its transaction is still open
pub turned_more : {I K A C D : Type 0} (gk : Sink.Ghosts K) (ga : Answerer.Ghosts A) (s p : ℕ) (f g h : FloorView I K A C D) → Turned gk ga s 0 p f g → (is_given (slot_at g.ledger s) ≡ true → Turned gk ga s p (p + 1) g h) → (is_given (slot_at g.ledger s) ≡ false → h ≡ g) → Turned gk ga s 0 (p + 1) f h
turned_more gk ga s p f g h x y z = elim (given_or (is_given (slot_at g.ledger s))) [
  | inl e ↦ turned_joins gk ga s 0 p (p + 1) f g h (omega arith) (omega arith) e x (y e)
  | inr e ↦ subst (λ k. Turned gk ga s 0 (p + 1) f k) (sym (z e)) (turned_wider gk ga s 0 p (p + 1) f g (omega arith) x)
]

-- an item is answered
pub due_before : (o : Open) (item i : ℕ) → item < length o.answered → IsDue (record o { answered = set o.answered item true }) i → IsDue o i
due_before o item i w d = elim (eqb_tells i item) [
  | inl j ↦ (let z : true ≡ false = sym (ap (λ k. get_or (set o.answered item true) k true) j.1 ∙ get_or-set_same o.answered item true true w) ∙ d.1 in cc)
  | inr j ↦ ((let a = d.0 in let b = length-set o.answered item true in omega arith), sym (get_or-set_other o.answered item i true true j.1) ∙ d.1, d.2)
]

-- which then isn't due any more
pub due_gone : (o : Open) (item : ℕ) → item < length o.answered → IsDue (record o { answered = set o.answered item true }) item → ⊥
due_gone o item w d = let z : true ≡ false = sym (get_or-set_same o.answered item true true w) ∙ d.1 in cc

-- while what is due is answered: the items so far stand below all that is still due
abbrev pub DueSoFar : Open → Open → List AnswerCall → Type 0
DueSoFar o now cs = CallsDue o cs × AllByRecursion (λ c. (j : ℕ) → IsDue now j → c.item < j) cs

one_for : (P : AnswerCall → Type 0) (n item : ℕ) (ys : List AnswerCall) → ((c : AnswerCall) → c.number ≡ n → c.item ≡ item → P c) → CallsFor n item ys → AllByRecursion P ys
one_for P n item [] f h = tt
one_for P n item (y ∷ ys) f h = (f y h.0.0 h.0.1, subst (λ zs. AllByRecursion P zs) (sym h.1) tt)

rise_more : (n item : ℕ) (xs ys : List AnswerCall) → ItemsRise xs → AllByRecursion (λ c. c.item < item) xs → CallsFor n item ys → ItemsRise (xs ++ ys)
rise_more n item [] [] h b k = tt
rise_more n item [] (y ∷ ys) h b k = subst (λ zs. ItemsRise (y ∷ zs)) (sym k.1) (tt, tt)
rise_more n item (x ∷ xs) ys h b k = (
  each_append (λ (d : AnswerCall). x.item < d.item) xs ys h.0 (one_for (λ (d : AnswerCall). x.item < d.item) n item ys (λ d p q. (let w = b.0 in omega arith)) k),
  rise_more n item xs ys h.1 b.1 k,
)

-- what is due after the least that was due is greater
after_least : (m k : Open) (item j : ℕ) → ((i : ℕ) → i < item → IsDue m i → ⊥) → ((i : ℕ) → IsDue k i → IsDue m i) → (IsDue k item → ⊥) → IsDue k j → item < j
after_least m k item j least later done d = elim (leb_tells (item + 1) j) [
  | inl i ↦ (let x = i.1 in omega arith)
  | inr i ↦ elim (leb_tells (j + 1) item) [
    | inl w ↦ absurd (least j (let x = w.1 in omega arith) (later j d))
    | inr w ↦ absurd (done (subst (λ e. IsDue k e) (let x = i.1 in let y = w.1 in let z : j ≡ item = omega arith in z) d))
  ]
]

-- items are answered one after another
pub due_more : {A : Type 0} (g : Answerer.Ghosts A) (o m k : Open) (n item : ℕ) (a b c : A) → n ≡ o.number → IsDue o item → IsDue m item → ((i : ℕ) → i < item → IsDue m i → ⊥) → ((i : ℕ) → IsDue k i → IsDue m i) → (IsDue k item → ⊥)
    → AnswererAdds g (DueSoFar o m) a b → AnswererAdds g (CallsFor n item) b c → AnswererAdds g (DueSoFar o k) a c
due_more g o m k n item a b c e d here least later done x y = answers_joins g (DueSoFar o m) (CallsFor n item) (DueSoFar o k) a b c
    (λ xs ys h f.
    let below : AllByRecursion (λ (z : AnswerCall). z.item < item) xs = each_map (λ (z : AnswerCall). (j : ℕ) → IsDue m j → z.item < j) (λ (z : AnswerCall). z.item < item) xs (λ z w. w item here) h.1 in (
      (
        each_append (λ (z : AnswerCall). (z.number ≡ o.number) × IsDue o z.item) xs ys h.0.0 (one_for (λ (z : AnswerCall). (z.number ≡ o.number) × IsDue o z.item) n item ys (λ z p q. (p ∙ e, subst (λ i. IsDue o i) (sym q) d)) f),
        rise_more n item xs ys h.0.1 below f,
      ),
      each_append (λ (z : AnswerCall). (j : ℕ) → IsDue k j → z.item < j) xs ys (each_map (λ (z : AnswerCall). (j : ℕ) → IsDue m j → z.item < j) (λ (z : AnswerCall). (j : ℕ) → IsDue k j → z.item < j) xs (λ z w j v. w j (later j v)) h.1)
          (one_for (λ (z : AnswerCall). (j : ℕ) → IsDue k j → z.item < j) n item ys (λ z p q j v. subst (λ i. i < j) (sym q) (after_least m k item j least later done v)) f),
    )) x y

at_once : (x : Slot) (ps : List Part) (cs : List AnswerCall) → CallsDue (given_open x ps) cs → CallsAtOnce ps (number_in x) cs
at_once x ps cs h = (each_map (λ (c : AnswerCall). (c.number ≡ number_in x) × IsDue (given_open x ps) c.item) (λ (c : AnswerCall). (c.number ≡ number_in x) × (open_parts c.item ps ≡ 0)) cs (λ c w. (w.0, w.1.2)) h.0, h.1)

-- a transaction was given its parts, what was due at once was answered, and its parts were settled in turn or it was closed
pub delivered_turn : {I K A C D : Type 0} (gk : Sink.Ghosts K) (ga : Answerer.Ghosts A) (s : ℕ) (x : Slot) (ps : List Part) (f m g : FloorView I K A C D) → m.sinks ≡ f.sinks → AnswererAdds ga (CallsDue (given_open x ps)) f.answerer m.answerer
    → (is_given (slot_at m.ledger s) ≡ true → SameFrom (Given (given_open x ps)) (slot_at m.ledger s)) → (is_given (slot_at m.ledger s) ≡ true → Turned gk ga s 0 (length (parts_in (slot_at m.ledger s))) m g) → (is_given (slot_at m.ledger s) ≡ false → g ≡ m)
    → DeliveredInTurn gk ga (number_in x) ps f g
delivered_turn gk ga s x ps f m g es calls same turns closed = elim (given_or (is_given (slot_at m.ledger s))) [
  | inl e ↦
      (let k = same e in let t = turns e in
      record {
        sinks = subst (λ ks. SinksAdd gk (PutInTurn ps (number_in x) 0 (length ps)) ks g.sinks) es (sinks_map gk (PutInTurn (parts_in (slot_at m.ledger s)) (number_in (slot_at m.ledger s)) 0 (length (parts_in (slot_at m.ledger s)))) (PutInTurn ps (number_in x) 0 (length ps)) m.sinks g.sinks
            (λ rs h. (subst (λ n. RecordsInTurn n 0 (length ps) rs) k.number (subst (λ j. RecordsInTurn (number_in (slot_at m.ledger s)) 0 j rs) k.many h.0), leaves_from ps (parts_in (slot_at m.ledger s)) rs k.same_leaves h.1)) t.sinks);
        answers = answers_joins ga (CallsDue (given_open x ps)) (CallsInTurn (parts_in (slot_at m.ledger s)) (number_in (slot_at m.ledger s)) 0 0 (length (parts_in (slot_at m.ledger s)))) (CallsDelivered ps (number_in x)) f.answerer m.answerer g.answerer
            (λ xs ys h w. (xs, (ys, (refl, (at_once x ps xs h, calls_from ps (parts_in (slot_at m.ledger s)) (number_in x) 0 0 (length ps) ys k.from (subst (λ n. CallsInTurn (parts_in (slot_at m.ledger s)) n 0 0 (length ps) ys) k.number (subst (λ j. CallsInTurn (parts_in (slot_at m.ledger s)) (number_in (slot_at m.ledger s)) 0 0 j ys) k.many w))))))) calls t.answers;
      })
  | inr e ↦ subst (λ v. DeliveredInTurn gk ga (number_in x) ps f v) (sym (closed e)) (record {
    sinks = subst (λ ks. SinksAdd gk (PutInTurn ps (number_in x) 0 (length ps)) f.sinks ks) (sym es) (sinks_same gk (PutInTurn ps (number_in x) 0 (length ps)) f.sinks (tt, tt));
    answers = answers_map ga (CallsDue (given_open x ps)) (CallsDelivered ps (number_in x)) f.answerer m.answerer (λ xs h. (xs, ([], (sym (append-nil xs), (at_once x ps xs h, tt))))) calls;
  })
]

-- a slot later, whose items were answered
pub same_answering : (s : ℕ) (l m : Ledger) → Answering s l m → SameFrom (slot_at l s) (slot_at m s)
same_answering s l m h = record { number = h.number; many = ap (λ (ps : List Part). length ps) h.parts; from = λ q. ap (λ ps. from_of ps q) h.parts; same_leaves = λ q. ap (λ ps. leaves (tree_of ps q)) h.parts }

-- where there are no holds, none is to be waited in
pub no_hold : (ps qs : List HoldPolicy) (n : ℕ) → qs ≡ ps → ps ≡ [] → n < length qs → ⊥
no_hold ps qs n e f w = let a = ap (λ (x : List HoldPolicy). length x) (e ∙ f) in absurd (omega arith)

-- all items of a transaction were refused for want of memory
pub refused_adds : {A : Type 0} (ga : Answerer.Ghosts A) (n items : ℕ) (a b : A) (j k : Counts) (cs : List AnswerCall) → RefusedAll ga a b j k n items cs → AnswererAdds ga (Refusals n items) a b
refused_adds ga n items a b j k cs h = record { place = h.place; faults = h.faults; told = h.told; calls = λ t. (cs, (h.calls t, (h.many, h.each))) }

-- A step of a part keeps a floor sound.
use Rattle.std.proofs.Common.{◌≡◌, ◌≢◌, ℕ, zero, suc, ◌+◌, ◌<◌, Bool, true, false, List, [], ◌∷◌, length, inl, inr, arith, refl, sym, ap, ◌∙◌, subst, Some, None}
use Rattle.std.specs.List.{AllByRecursion}
use Rattle.std.proofs.lemmas.Bool.Decides.{eqb_tells}
use Rattle.std.proofs.lemmas.List.Elements.{recursion_from_All}
use Rattle.bt_chains.specs.declared.Entry.{Entry}
use Rattle.bt_demand.specs.Find.{bytes_of}
use Rattle.bt_demand.specs.Holding.{is_open}
use Rattle.bt_demand.specs.Outcomes.{outcome}
use Rattle.bt_demand.specs.Parts.{Part, PartsFit}
use Rattle.bt_demand.specs.Reached.{IsNext}
use Rattle.bt_demand.specs.Recorded.{untried}
use Rattle.bt_demand.specs.Steps.{settle, state_for}
use Rattle.bt_demand.specs.Tree.{Tree}
use Rattle.bt_demand.specs.Untouched.{Untouched}
use Rattle.bt_demand.specs.WellFormed.{WellFormed, leaves, nodes, Differ}
use Rattle.bt_demand.specs.declared.routes.HoldPolicy.{HoldPolicy}
use Rattle.bt_demand.specs.declared.derive.Derive as Derive
use Rattle.bt_demand.specs.declared.demand.State.{State}
use Rattle.bt_demand.specs.declared.demand.State.TheVariants.{Untried as Fresh}
use Rattle.bt_demand.proofs.Reached.{next-untouched}
use Rattle.bt_leaves.specs.EachLeaf.{EachLeaf}
use Rattle.bt_leaves.specs.LeafAt.{LeafAt}
use Rattle.bt_leaves.proofs.Kept.{leaves_untried, flat_untried}
use Rattle.bt_leaves.proofs.NextLeaf.{to_put_by, to_put_stands, stands_sink}
use Rattle.bt_ledger.specs.Ledger.{slot_at, part_tree, parts_in, number_in, moment_in, answered_in, items_in, is_free, is_given, open_in, with_part, IsPart}
use Rattle.bt_ledger.specs.Open.{Open, tree_of, with_tree}
use Rattle.bt_ledger.specs.declared.slot.Slot.TheVariants.{Given}
use Rattle.bt_ledger.proofs.Room.{part_cases}
use Rattle.bt_ledger.proofs.Slots.{given_taken, part_taken}
use Rattle.bt_moves.specs.Moves.{is_out}
use Rattle.bt_moves.proofs.Keeping.{given_true}
use Rattle.bt_ports.specs.declared.outside.Answerer as Answerer
use Rattle.bt_ports.specs.declared.outside.Clock as Clock
use Rattle.bt_ports.specs.declared.outside.Intake as Intake
use Rattle.bt_ports.specs.declared.outside.Sink as Sink
use Rattle.bt_ports.specs.declared.parts.Record.{Record}
use Rattle.bt_sound.specs.Answers.{AnsweredSettled, Called, Says}
use Rattle.bt_sound.specs.Owned.{IsRecordOf, Owned, PutsAs}
use Rattle.bt_sound.specs.Records.{is_of, LeafTold, Told, PutAt}
use Rattle.bt_sound.specs.Sound.{in_past, SaysTrue, Unknown, Sound}
use Rattle.bt_sound.specs.Transactions.{Taken, Planned, Shaped, untried_parts}
use Rattle.bt_sound.specs.View.{FloorView, Past}
use Rattle.bt_sound.proofs.Lists.{each_map, each_both}
use Rattle.bt_sound.proofs.Owned.{puts_next, puts_at, is_step, owned_map, owned_put, untried_at}
use Rattle.bt_sound.proofs.Placing.{apart_by, gone_by}
use Rattle.bt_sound.proofs.Puts.{told_apart, tree_map, tree_put, of_itself, of_other}
use Rattle.bt_sound.proofs.Settled.{done_step}
use Rattle.bt_sound.proofs.Slots.{stepped_open, step_cases, over_step, over_slot, untried_with, placed_step, planned_with, known_step}
use Rattle.bt_sound.proofs.Verdicts.{says_step, tree_same, tree_other}

-- a step of a part that was open, whatever it does to the sinks, where each leaf is beside its records afterwards
pub sound_step : {I K A C D : Type 0} (gi : Intake.Ghosts I) (gk : Sink.Ghosts K) (ga : Answerer.Ghosts A) (gc : Clock.Ghosts C) (gd : Derive.Ghosts D) (f : FloorView I K A C D) (closed : List Past) (s p : ℕ) (t : Tree) (cs : List (List Entry)) (us : List K)
    → Sound gi gk ga gc gd f closed → IsPart f.ledger s p → untried t ≡ untried (part_tree f.ledger s p) → is_open (outcome (part_tree f.ledger s p)) ≡ true → (Untouched (part_tree f.ledger s p) → Untouched t) → length us ≡ length f.sinks
    → ((d : K) (a : ℕ) → is_given (slot_at (with_part f.ledger s p t) a) ≡ true → Told gk us d (open_in (slot_at (with_part f.ledger s p t) a)))
    → ((d : K) → AllByRecursion (λ q. Told gk us d q.state) closed)
    → ((d : K) (m b k j : ℕ) → k < length us → Unknown f.ledger closed m → LeafTold gk us d m b k j Fresh)
    → ((d : K) → Owned gk f.releases (record (with_part f.ledger s p t) { chains = cs }) closed us d)
    → Sound gi gk ga gc gd (record f { ledger = record (with_part f.ledger s p t) { chains = cs }; sinks = us }) closed
sound_step gi gk ga gc gd f closed s p t cs us h w u o ut n told past unwritten owned =
    let l = f.ledger in
    let g : is_given (slot_at f.ledger s) ≡ true = given_true (slot_at f.ledger s) p w.1 in
    let taken = part_taken (slot_at f.ledger s) p w.1 in
    let e = untried_with (parts_in (slot_at f.ledger s)) p t w.1 u in
    record {
      placed = λ m. ap (λ k. k + in_past m closed) (placed_step f.ledger s p t m w) ∙ h.placed m;
      policies = h.policies;
      sinks = n ∙ h.sinks;
      releases = h.releases;
      few = h.few;
      wide = h.wide;
      entries = h.entries;
      course = h.course;
      counted = h.counted;
      summed = h.summed;
      refusals = h.refusals;
      expected = over_slot (λ y. Taken gi gc f.outside (number_in y) (moment_in y) (items_in y)) is_out f.ledger s (Given (stepped_open (open_in (slot_at f.ledger s)) p t)) w.0 refl h.expected;
      untouched = λ a b. elim (part_cases f.ledger s p t a b w) [
        | inl i ↦ subst (λ v. Untouched v) (sym i.1) (ut (h.untouched s p))
        | inr i ↦ subst (λ v. Untouched v) (sym i.1) (h.untouched a b)
      ];
      past_answered = h.past_answered;
      done = over_step (λ x. AnsweredSettled x) is_given true f.ledger s p t w g (λ x. done_step (open_in (slot_at f.ledger s)) p t w.1 o x) h.done;
      past_done = h.past_done;
      past_untouched = h.past_untouched;
      shaped = over_step (λ x. Shaped gd f.outside x) is_given true f.ledger s p t w g (λ x. subst (λ ps. PartsFit (gd.sinks f.outside.plan) (length (gd.policies f.outside.plan)) (length (answered_in (slot_at f.ledger s))) ps) (sym e) x) h.shaped;
      planned = over_step (λ x. Planned gi gc gd f.outside x) is_given true f.ledger s p t w g (λ x. planned_with gi gc gd f.outside (open_in (slot_at f.ledger s)) (with_tree (parts_in (slot_at f.ledger s)) p t) e x) h.planned;
      past_taken = h.past_taken;
      told = told;
      past_told = past;
      unwritten = λ d m b k j v x. unwritten d m b k j v (known_step f.ledger s p t closed m w x);
      owned = owned;
      called = λ tells. over_step (λ x. Called (ga.calls f.answerer) x) is_free false f.ledger s p t w taken (λ x. x) (h.called tells);
      past_called = h.past_called;
      says = λ tells. each_map (λ c. SaysTrue f.ledger closed c) (λ c. SaysTrue (record (with_part f.ledger s p t) { chains = cs }) closed c) (ga.calls f.answerer)
          (λ c x. (over_step (λ y. y.number ≡ c.number → Says y c) is_given true f.ledger s p t w g (λ y z. says_step (open_in (slot_at f.ledger s)) p t c w.1 o (y z)) x.0, x.1)) (h.says tells);
      no_other = h.no_other;
      answer_faults = h.answer_faults;
    }

-- the sinks stay: what is said of leaves doesn't depend on the stages of holds
pub sound_still : {I K A C D : Type 0} (gi : Intake.Ghosts I) (gk : Sink.Ghosts K) (ga : Answerer.Ghosts A) (gc : Clock.Ghosts C) (gd : Derive.Ghosts D) (f : FloorView I K A C D) (closed : List Past) (s p : ℕ) (t : Tree) (cs : List (List Entry))
    → Sound gi gk ga gc gd f closed → IsPart f.ledger s p → untried t ≡ untried (part_tree f.ledger s p) → is_open (outcome (part_tree f.ledger s p)) ≡ true → (Untouched (part_tree f.ledger s p) → Untouched t)
    → ((T : ℕ → ℕ → State → Type 0) → EachLeaf T (part_tree f.ledger s p) → EachLeaf T t)
    → Sound gi gk ga gc gd (record f { ledger = record (with_part f.ledger s p t) { chains = cs } }) closed
sound_still gi gk ga gc gd f closed s p t cs h w u o ut by =
    let g : is_given (slot_at f.ledger s) ≡ true = given_true (slot_at f.ledger s) p w.1 in
    sound_step gi gk ga gc gd f closed s p t cs f.sinks h w u o ut refl
    (λ d. over_step (λ x. Told gk f.sinks d x) is_given true f.ledger s p t w g
    (λ x b. elim (eqb_tells b p) [
      | inl i ↦ subst (λ k. EachLeaf (λ j m y. LeafTold gk f.sinks d (number_in (slot_at f.ledger s)) k j m y) (tree_of (with_tree (parts_in (slot_at f.ledger s)) p t) k)) (sym i.1)
          (subst (λ v. EachLeaf (λ j m y. LeafTold gk f.sinks d (number_in (slot_at f.ledger s)) p j m y) v) (sym (tree_same (parts_in (slot_at f.ledger s)) p t w.1)) (by (λ j m y. LeafTold gk f.sinks d (number_in (slot_at f.ledger s)) p j m y) (x p)))
      | inr i ↦ subst (λ v. EachLeaf (λ j m y. LeafTold gk f.sinks d (number_in (slot_at f.ledger s)) b j m y) v) (sym (tree_other (parts_in (slot_at f.ledger s)) p b t i.1)) (x b)
    ]) (h.told d))
    h.past_told
    h.unwritten
    (λ d. owned_map gk f.releases f.releases f.ledger (record (with_part f.ledger s p t) { chains = cs }) closed closed f.sinks d (λ k r. is_step f.releases f.ledger s p t cs closed k r w u) (h.owned d))

pub well_formed_at : (k m i : ℕ) (ps : List Part) (p : ℕ) → p < length ps → PartsFit k m i (untried_parts ps) → WellFormed k m (untried (tree_of ps p))
well_formed_at k m i [] p h f = absurd (omega arith)
well_formed_at k m i (q ∷ ps) zero h f = f.0.well_formed
well_formed_at k m i (q ∷ ps) (suc p) h f = well_formed_at k m i ps p (omega arith) f.1

none_below : (xs : List ℕ) → AllByRecursion (λ n. n < 0) xs → xs ≡ []
none_below [] h = refl
none_below (x ∷ xs) h = absurd (let a = h.0 in omega arith)

-- where a floor has no holds, no part of an open transaction has
pub part_plain : {I K A C D : Type 0} (gi : Intake.Ghosts I) (gk : Sink.Ghosts K) (ga : Answerer.Ghosts A) (gc : Clock.Ghosts C) (gd : Derive.Ghosts D) (f : FloorView I K A C D) (closed : List Past) (s p : ℕ) → Sound gi gk ga gc gd f closed → IsPart f.ledger s p → f.ledger.policies ≡ [] → nodes (untried (part_tree f.ledger s p)) ≡ []
part_plain gi gk ga gc gd f closed s p h w e =
    let formed = well_formed_at _ _ _ (parts_in (slot_at f.ledger s)) p w.1 (h.shaped s (given_true (slot_at f.ledger s) p w.1)) in
    let z : length (gd.policies f.outside.plan) ≡ 0 = ap (λ (x : List HoldPolicy). length x) (sym h.policies ∙ e) in
    none_below (nodes (untried (part_tree f.ledger s p))) (subst (λ j. AllByRecursion (λ n. n < j) (nodes (untried (part_tree f.ledger s p)))) z (recursion_from_All (λ n. n < length (gd.policies f.outside.plan)) (nodes (untried (part_tree f.ledger s p))) formed.holds_known))

-- the record that is put is its leaf's
record_put : (rs : List ℕ) (o : Open) (p l k : ℕ) (r : Record) {m n : ℕ} → WellFormed m n (untried (tree_of o.parts p)) → PutsAs rs l k r.batch (tree_of o.parts p) → Some r.bytes ≡ bytes_of l (tree_of o.parts p) → p < length o.parts → r.txn ≡ o.number → r.part ≡ p → r.leaf ≡ l → IsRecordOf rs k o r
record_put rs o p l k r formed puts bytes w en ep el =
    let differ : Differ (leaves (tree_of o.parts p)) = subst (λ ls. Differ ls) (leaves_untried (tree_of o.parts p)) formed.leaves_differ in
    let at = puts_at rs l k r.batch r.bytes (tree_of o.parts p) differ (flat_untried (tree_of o.parts p) formed.holds_flat) bytes puts in
    record {
      number = en;
      over = at.0;
      leaf = subst (λ q. LeafAt None q k r.bytes at.0 (tree_of (untried_parts o.parts) r.part)) (sym el) (subst (λ q. LeafAt None l k r.bytes at.0 (tree_of (untried_parts o.parts) q)) (sym ep) (subst (λ t. LeafAt None l k r.bytes at.0 t) (sym (untried_at o.parts p w)) at.1.0));
      batch = at.1.1;
    }

-- a leaf that is put
pub sound_put : {I K A C D : Type 0} (gi : Intake.Ghosts I) (gk : Sink.Ghosts K) (ga : Answerer.Ghosts A) (gc : Clock.Ghosts C) (gd : Derive.Ghosts D) (f : FloorView I K A C D) (closed : List Past) (s p lf k : ℕ) (r : Record) (ok : Bool) (us : List K)
    → Sound gi gk ga gc gd f closed → IsPart f.ledger s p → PutsAs f.releases lf k r.batch (part_tree f.ledger s p) → Some r.bytes ≡ bytes_of lf (part_tree f.ledger s p) → PutAt gk f.sinks us k r ok → r.txn ≡ number_in (slot_at f.ledger s) → r.part ≡ p → r.leaf ≡ lf
    → untried (settle lf (state_for ok) (part_tree f.ledger s p)) ≡ untried (part_tree f.ledger s p) → is_open (outcome (part_tree f.ledger s p)) ≡ true
    → Sound gi gk ga gc gd (record f { ledger = with_part f.ledger s p (settle lf (state_for ok) (part_tree f.ledger s p)); sinks = us }) closed
sound_put gi gk ga gc gd f closed s p lf k r ok us h w puts bytes put en ep el u o =
    let next : IsNext lf k (part_tree f.ledger s p) = puts_next f.releases lf k r.batch (part_tree f.ledger s p) puts in
    let t = settle lf (state_for ok) (part_tree f.ledger s p) in
    let n = number_in (slot_at f.ledger s) in
    let g : is_given (slot_at f.ledger s) ≡ true = given_true (slot_at f.ledger s) p w.1 in
    let taken = part_taken (slot_at f.ledger s) p w.1 in
    let is : is_of (number_in (slot_at f.ledger s)) p lf r ≡ true = subst (λ x. is_of x p lf r ≡ true) en (subst (λ x. is_of r.txn x lf r ≡ true) ep (subst (λ x. is_of r.txn r.part x r ≡ true) el (of_itself r))) in
    let formed = well_formed_at _ _ _ (parts_in (slot_at f.ledger s)) p w.1 (h.shaped s g) in
    let differ : Differ (leaves (part_tree f.ledger s p)) = subst (λ ls. Differ ls) (leaves_untried (part_tree f.ledger s p)) formed.leaves_differ in
    let sink = stands_sink lf k (part_tree f.ledger s p) (to_put_stands lf k (part_tree f.ledger s p) next) differ in
    sound_step gi gk ga gc gd f closed s p (settle lf (state_for ok) (part_tree f.ledger s p)) f.ledger.chains us h w u o (λ q. next-untouched lf k (state_for ok) (part_tree f.ledger s p) differ q next) put.same
    (λ d a v. elim (step_cases f.ledger s p (settle lf (state_for ok) (part_tree f.ledger s p)) a w) [
      | inl i ↦ subst (λ x. Told gk us d (open_in x)) (sym i.1) (λ b. elim (eqb_tells b p) [
        | inl j ↦ subst (λ q. EachLeaf (λ z m y. LeafTold gk us d (number_in (slot_at f.ledger s)) q z m y) (tree_of (with_tree (parts_in (slot_at f.ledger s)) p (settle lf (state_for ok) (part_tree f.ledger s p))) q)) (sym j.1)
            (subst (λ x. EachLeaf (λ z m y. LeafTold gk us d (number_in (slot_at f.ledger s)) p z m y) x) (sym (tree_same (parts_in (slot_at f.ledger s)) p (settle lf (state_for ok) (part_tree f.ledger s p)) w.1))
            (tree_put gk f.sinks us k r ok d (number_in (slot_at f.ledger s)) p lf (part_tree f.ledger s p) put is sink (to_put_by (λ z m y. LeafTold gk f.sinks d (number_in (slot_at f.ledger s)) p z m y) lf k (part_tree f.ledger s p) next (h.told d s g p)) (h.told d s g p)))
        | inr j ↦ subst (λ x. EachLeaf (λ z m y. LeafTold gk us d (number_in (slot_at f.ledger s)) b z m y) x) (sym (tree_other (parts_in (slot_at f.ledger s)) p b (settle lf (state_for ok) (part_tree f.ledger s p)) j.1))
            (tree_map (λ z m y. LeafTold gk f.sinks d (number_in (slot_at f.ledger s)) b z m y) (λ z m y. LeafTold gk us d (number_in (slot_at f.ledger s)) b z m y) (part_tree f.ledger s b)
            (λ z m y q. told_apart gk f.sinks us k r ok d (number_in (slot_at f.ledger s)) b z m y put (of_other (number_in (slot_at f.ledger s)) b m r (λ c e. j.1 (sym e ∙ ep))) q) (h.told d s g b))
      ])
      | inr i ↦ (let ga2 : is_given (slot_at f.ledger a) ≡ true = ap is_given (sym i.1) ∙ v in
          subst (λ x. Told gk us d (open_in x)) (sym i.1) (λ b. tree_map (λ z m y. LeafTold gk f.sinks d (number_in (slot_at f.ledger a)) b z m y) (λ z m y. LeafTold gk us d (number_in (slot_at f.ledger a)) b z m y) (part_tree f.ledger a b)
          (λ z m y q. told_apart gk f.sinks us k r ok d (number_in (slot_at f.ledger a)) b z m y put
          (of_other (number_in (slot_at f.ledger a)) b m r (λ c e. i.0 (sym (apart_by f.ledger.slots (number_in (slot_at f.ledger s)) _ _ s a (h.placed (number_in (slot_at f.ledger s))) taken (given_taken (slot_at f.ledger a) ga2) refl (sym c ∙ en))))) q)
          (h.told d a ga2 b)))
    ])
    (λ d. each_both (λ q. Told gk f.sinks d q.state) (λ q. q.state.number ≢ number_in (slot_at f.ledger s)) (λ q. Told gk us d q.state) closed
    (λ q x y b. tree_map (λ z m v. LeafTold gk f.sinks d q.state.number b z m v) (λ z m v. LeafTold gk us d q.state.number b z m v) (tree_of q.state.parts b)
    (λ z m v c. told_apart gk f.sinks us k r ok d q.state.number b z m v put (of_other q.state.number b m r (λ e i. y (sym e ∙ en))) c) (x b))
    (h.past_told d) (gone_by f.ledger.slots closed (number_in (slot_at f.ledger s)) _ s (h.placed (number_in (slot_at f.ledger s))) taken refl))
    (λ d m b z j v x. told_apart gk f.sinks us k r ok d m b z j Fresh put (of_other m b j r (λ e _. x.0 s g (sym en ∙ e))) (h.unwritten d m b z j (let q = put.same in omega arith) x))
    (λ d. owned_map gk f.releases f.releases f.ledger (with_part f.ledger s p (settle lf (state_for ok) (part_tree f.ledger s p))) closed closed us d (λ j x. is_step f.releases f.ledger s p (settle lf (state_for ok) (part_tree f.ledger s p)) f.ledger.chains closed j x w u)
    (owned_put gk f.releases f.ledger closed f.sinks us k r ok d put (inl (s, (g, record_put f.releases (open_in (slot_at f.ledger s)) p lf k r formed puts bytes w.1 en ep el))) (h.owned d)))

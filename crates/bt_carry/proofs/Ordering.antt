-- What a run leaves stays in order, turn by turn.
use Rattle.std.proofs.Common.{◌≡◌, ℕ, zero, suc, ◌+◌, ◌-◌, ◌^◌, ◌<◌, ◌≤◌, List, [], ◌∷◌, ◌++◌, length, get_or, slice_get, ◌⊎◌, inl, inr, arith, refl, sym, ap, ◌∙◌, subst, Result, Ok, Err, IfOk, IfErr, IsTrue}
use Rattle.std.specs.List.{AllByRecursion}
use Rattle.std.proofs.lemmas.Bool.Decides.{leb_tells}
use Rattle.bt_carry.specs.Calls.{ReadForEach, ReadsItems}
use Rattle.bt_carry.specs.Order.{AddsInTurn, AnsweredAs, AnsweredInOrder, InInputOrder, OrderedSoFar, Precedes, PutSoFar}
use Rattle.bt_carry.proofs.Carrying.{derived_by, some_same}
use Rattle.bt_demand.specs.Parts.{Part, parts_of}
use Rattle.bt_demand.specs.WellFormed.{leaves}
use Rattle.bt_demand.specs.declared.derive.Derive as Derive
use Rattle.bt_demand.specs.declared.routes.Routes.{Routes}
use Rattle.bt_duties.specs.Calls.{NothingSettled}
use Rattle.bt_floor.specs.Calls.{SameRun}
use Rattle.bt_ledger.specs.Open.{tree_of}
use Rattle.bt_ports.specs.Clock.{reading_at}
use Rattle.bt_ports.specs.Faults.{last_count}
use Rattle.bt_ports.specs.declared.NoMemory.{NoMemory}
use Rattle.bt_ports.specs.declared.outside.Answerer as Answerer
use Rattle.bt_ports.specs.declared.outside.Clock as Clock
use Rattle.bt_ports.specs.declared.outside.Intake as Intake
use Rattle.bt_ports.specs.declared.outside.Sink as Sink
use Rattle.bt_ports.specs.declared.parts.AnswerCall.{AnswerCall}
use Rattle.bt_ports.specs.declared.parts.Record.{Record}
use Rattle.bt_ports.specs.declared.parts.Txn.{Txn}
use Rattle.bt_sound.specs.Transactions.{IsTransaction}
use Rattle.bt_sound.specs.Turns.{AnswererAdds, CallsDelivered, DeliveredInTurn, LeavesInTurn, PutInTurn, RecordsInTurn, Refusals, RefusedInTurn, SinksAdd, StandsBefore}
use Rattle.bt_sound.specs.View.{FloorView, Outside}
use Rattle.bt_sound.proofs.Lists.{each_append, each_map}
use Rattle.bt_sound.proofs.Turns.{answers_map, sinks_same}

-- what became of the parts of a transaction
pub adds_of : {I K A C D : Type 0} (gk : Sink.Ghosts K) (ga : Answerer.Ghosts A) (n items : ℕ) (ps : List Part) (f g : FloorView I K A C D) (r : Result Routes NoMemory) → IfOk r (λ x. parts_of x.parts.list ≡ ps) → IfOk r (λ x. f.ledger.policies ≡ [] → DeliveredInTurn gk ga n (parts_of x.parts.list) f g) → IfErr r (λ _. RefusedInTurn ga n items f g)
    → f.ledger.policies ≡ [] → AddsInTurn gk ga n items ps f g
adds_of gk ga n items ps f g (Ok x) e h k q =
    let d = subst (λ qs. DeliveredInTurn gk ga n qs f g) e (h q) in
    record { sinks = d.sinks; answers = answers_map ga (CallsDelivered ps n) (λ cs. CallsDelivered ps n cs ⊎ Refusals n items cs) f.answerer g.answerer (λ cs w. inl w) d.answers }
adds_of gk ga n items ps f g (Err x) e h k q = record {
  sinks = subst (λ ks. SinksAdd gk (PutInTurn ps n 0 (length ps)) f.sinks ks) (sym k.sinks) (sinks_same gk (PutInTurn ps n 0 (length ps)) f.sinks (tt, tt));
  answers = answers_map ga (Refusals n items) (λ cs. CallsDelivered ps n cs ⊎ Refusals n items cs) f.answerer g.answerer (λ cs w. inr w) k.answers;
}

less_or : (a b : ℕ) → a ≤ b → (a < b) ⊎ (a ≡ b)
less_or a b w = elim (leb_tells b a) [
  | inl i ↦ inr (let x = i.1 in omega arith)
  | inr i ↦ inl (let x = i.1 in omega arith)
]

all_of : (n lo hi : ℕ) (rs : List Record) → RecordsInTurn n lo hi rs → AllByRecursion (λ r. r.txn ≡ n) rs
all_of n lo hi [] h = tt
all_of n lo hi (r ∷ rs) h = (h.0, all_of n r.part hi rs h.1.1.1)

module _ {I C D : Type 0} (gi : Intake.Ghosts I) (gc : Clock.Ghosts C) (gd : Derive.Ghosts D) where
  -- a transaction that was taken before is the same one later
  pub taken_before : (f g : Outside I C D) (t : Txn) → SameRun gi gc f g → IsTrue (gi.tells g.intake) → IsTrue (gc.tells g.clock) → ReadForEach gc f → ReadForEach gc g → t.number ≤ f.taken → IsTransaction gi gc g t → IsTransaction gi gc f t
  taken_before f g t run ti tc rf rg w h =
      let b : gi.given f.intake - f.taken + (t.number - 1) ≡ gi.given g.intake - g.taken + (t.number - 1) = ap (λ j. j + (t.number - 1)) (sym (run.before ti)) in
      let x = rf (run.clock_told tc) in
      let y = rg tc in
      let m : gc.made g.clock - g.taken + (t.number - 1) ≡ gc.made f.clock - f.taken + (t.number - 1) = (let u : gc.made g.clock - g.taken ≡ 0 = omega arith in let v : gc.made f.clock - f.taken ≡ 0 = omega arith in omega arith) in
      record {
        some = h.some;
        taken = w;
        batch = ap (λ j. slice_get (gi.batches f.intake) j) b ∙ (ap (λ (bs : List _). slice_get bs (gi.given g.intake - g.taken + (t.number - 1))) (sym (run.batches ti)) ∙ h.batch);
        moment = h.moment ∙ (ap (λ (rs : List ℕ). reading_at rs (gc.made g.clock - g.taken + (t.number - 1))) (run.readings tc) ∙ ap (λ j. reading_at (gc.readings f.clock) j) m);
      }

  precedes_later : (f g : Outside I C D) (r s : Record) → SameRun gi gc f g → IsTrue (gi.tells g.intake) → IsTrue (gc.tells g.clock) → ReadForEach gc f → ReadForEach gc g → r.txn ≤ f.taken → Precedes gi gc gd f r s → Precedes gi gc gd g r s
  precedes_later f g r s run ti tc rf rg w (inl h) = inl h
  precedes_later f g r s run ti tc rf rg w (inr (e, inl h)) = inr (e, inl h)
  precedes_later f g r s run ti tc rf rg w (inr (e, inr (p, h))) = inr (
    e,
    inr (
      p,
      (λ t is n.
          subst (λ x. StandsBefore r.leaf s.leaf (leaves (tree_of (gd.parts x t) r.part))) (sym run.plan) (h t (taken_before f g t run ti tc rf rg (subst (λ j. j ≤ f.taken) (sym n) w) is) n)),
    ),
  )

  order_later : (f g : Outside I C D) (rs : List Record) → SameRun gi gc f g → IsTrue (gi.tells g.intake) → IsTrue (gc.tells g.clock) → ReadForEach gc f → ReadForEach gc g → AllByRecursion (λ r. r.txn ≤ f.taken) rs → InInputOrder gi gc gd f rs → InInputOrder gi gc gd g rs
  order_later f g [] run ti tc rf rg b h = tt
  order_later f g (r ∷ rs) run ti tc rf rg b h = (each_map (λ s. Precedes gi gc gd f r s) (λ s. Precedes gi gc gd g r s) rs (λ s w. precedes_later f g r s run ti tc rf rg b.0 w) h.0, order_later f g rs run ti tc rf rg b.1 h.1)

  -- the parts of transaction n of a run and how many items it has, whichever transaction that is
  abbrev pub PartsAre : Outside I C D → (n items : ℕ) → List Part → Type 0
  PartsAre f n items ps = (t : Txn) → IsTransaction gi gc f t → t.number ≡ n → (gd.parts f.plan t ≡ ps) × (length t.items.list ≡ items)

  as_later : (f g : Outside I C D) (n : ℕ) (cs : List AnswerCall) → SameRun gi gc f g → IsTrue (gi.tells g.intake) → IsTrue (gc.tells g.clock) → ReadForEach gc f → ReadForEach gc g → n ≤ f.taken → AnsweredAs gi gc gd f n cs → AnsweredAs gi gc gd g n cs
  as_later f g n cs run ti tc rf rg w h = λ t is e. subst (λ x. CallsDelivered (gd.parts x t) n cs ⊎ Refusals n (length t.items.list) cs) (sym run.plan) (h t (taken_before f g t run ti tc rf rg (subst (λ j. j ≤ f.taken) (sym e) w) is) e)

  answers_later : (f g : Outside I C D) (n : ℕ) (cs : List AnswerCall) → SameRun gi gc f g → IsTrue (gi.tells g.intake) → IsTrue (gc.tells g.clock) → ReadForEach gc f → ReadForEach gc g → n ≤ f.taken → AnsweredInOrder gi gc gd f n cs → AnsweredInOrder gi gc gd g n cs
  answers_later f g zero cs run ti tc rf rg w h = h
  answers_later f g (suc n) cs run ti tc rf rg w h = (h.0, (h.1.0, (h.1.1.0, (answers_later f g n h.0 run ti tc rf rg (omega arith) h.1.1.1.0, as_later f g (suc n) h.1.0 run ti tc rf rg w h.1.1.1.1))))

  as_here : (f : Outside I C D) (n items : ℕ) (ps : List Part) (cs : List AnswerCall) → PartsAre f n items ps → CallsDelivered ps n cs ⊎ Refusals n items cs → AnsweredAs gi gc gd f n cs
  as_here f n items ps cs are (inl h) = λ t is e. inl (subst (λ xs. CallsDelivered xs n cs) (sym (are t is e).0) h)
  as_here f n items ps cs are (inr h) = λ t is e. inr (subst (λ i. Refusals n i cs) (sym (are t is e).1) h)

  -- the answers of one turn come behind those before
  answers_more : (f g : Outside I C D) (n items : ℕ) (ps : List Part) (xs zs : List AnswerCall) → SameRun gi gc f g → IsTrue (gi.tells g.intake) → IsTrue (gc.tells g.clock) → ReadForEach gc f → ReadForEach gc g → n ≡ f.taken + 1 → g.taken ≡ f.taken + 1 → PartsAre g n items ps → AnsweredInOrder gi gc gd f f.taken xs → (cs : List AnswerCall) × ((zs ≡ xs ++ cs) × (CallsDelivered ps n cs ⊎ Refusals n items cs)) → AnsweredInOrder gi gc gd g g.taken zs
  answers_more f g n items ps xs zs run ti tc rf rg en et are h k =
      let here = subst (λ j. AnsweredAs gi gc gd g j k.0) (let z : n ≡ suc f.taken = omega arith in z) (as_here g n items ps k.0 are k.1.1) in
      let all : AnsweredInOrder gi gc gd g (suc f.taken) zs = (xs, (k.0, (k.1.0, (answers_later f g f.taken xs run ti tc rf rg (omega arith) h, here)))) in
      subst (λ j. AnsweredInOrder gi gc gd g j zs) (let z : suc f.taken ≡ g.taken = omega arith in z) all

  turn_here : (f : Outside I C D) (n items : ℕ) (ps : List Part) (r : Record) (lo hi : ℕ) (rs : List Record) → PartsAre f n items ps → r.txn ≡ n → r.part ≤ lo → RecordsInTurn n lo hi rs → AllByRecursion (λ s. s.part ≡ r.part → StandsBefore r.leaf s.leaf (leaves (tree_of ps r.part))) rs → AllByRecursion (λ s. Precedes gi gc gd f r s) rs
  turn_here f n items ps r lo hi [] are e w h k = tt
  turn_here f n items ps r lo hi (s ∷ rs) are e w h k = (
    elim (less_or r.part s.part (let a = h.1.0 in omega arith)) [
      | inl q ↦ inr (e ∙ sym h.0, inl q)
      | inr q ↦ inr (e ∙ sym h.0, inr (q, (λ t is m. subst (λ xs. StandsBefore r.leaf s.leaf (leaves (tree_of xs r.part))) (sym (are t is (m ∙ e)).0) (k.0 (sym q)))))
    ],
    turn_here f n items ps r s.part hi rs are e (let a = h.1.0 in omega arith) h.1.1.1 k.1,
  )

  turn_order : (f : Outside I C D) (n items : ℕ) (ps : List Part) (lo hi : ℕ) (rs : List Record) → PartsAre f n items ps → RecordsInTurn n lo hi rs → LeavesInTurn ps rs → InInputOrder gi gc gd f rs
  turn_order f n items ps lo hi [] are h k = tt
  turn_order f n items ps lo hi (r ∷ rs) are h k = (turn_here f n items ps r r.part hi rs are h.0 (omega arith) h.1.1.1 k.0, turn_order f n items ps r.part hi rs are h.1.1.1 k.1)

  order_append : (f : Outside I C D) (n : ℕ) (xs ys : List Record) → InInputOrder gi gc gd f xs → AllByRecursion (λ r. r.txn ≤ n) xs → AllByRecursion (λ r. r.txn ≡ n + 1) ys → InInputOrder gi gc gd f ys → InInputOrder gi gc gd f (xs ++ ys)
  order_append f n [] ys h b e k = k
  order_append f n (x ∷ xs) ys h b e k = (
    each_append (λ s. Precedes gi gc gd f x s) xs ys h.0 (each_map (λ (r : Record). r.txn ≡ n + 1) (λ s. Precedes gi gc gd f x s) ys (λ r w. inl (let y = b.0 in omega arith)) e),
    order_append f n xs ys h.1 b.1 e k,
  )

  -- the records of one turn come behind those before
  put_later : (f g : Outside I C D) (n items hi : ℕ) (ps : List Part) (xs zs : List Record) → SameRun gi gc f g → IsTrue (gi.tells g.intake) → IsTrue (gc.tells g.clock) → ReadForEach gc f → ReadForEach gc g → n ≡ f.taken + 1 → g.taken ≡ f.taken + 1 → PartsAre g n items ps → PutSoFar gi gc gd f xs → (rs : List Record) × ((zs ≡ xs ++ rs) × PutInTurn ps n 0 hi rs) → PutSoFar gi gc gd g zs
  put_later f g n items hi ps xs zs run ti tc rf rg en et are h k =
      let own : AllByRecursion (λ (r : Record). r.txn ≡ f.taken + 1) k.0 = each_map (λ (r : Record). r.txn ≡ n) (λ (r : Record). r.txn ≡ f.taken + 1) k.0 (λ r w. w ∙ en) (all_of n 0 hi k.0 k.1.1.0) in
      subst (λ ys. PutSoFar gi gc gd g ys) (sym k.1.0) (
        order_append g f.taken xs k.0 (order_later f g xs run ti tc rf rg h.1 h.0) h.1 own (turn_order g n items ps 0 hi k.0 are k.1.1.0 k.1.1.1),
        each_append (λ (r : Record). r.txn ≤ g.taken) xs k.0 (each_map (λ (r : Record). r.txn ≤ f.taken) (λ (r : Record). r.txn ≤ g.taken) xs (λ r w. omega arith) h.1) (each_map (λ (r : Record). r.txn ≡ f.taken + 1) (λ (r : Record). r.txn ≤ g.taken) k.0 (λ r w. omega arith) own),
      )

  put_same : (f g : Outside I C D) (xs : List Record) → SameRun gi gc f g → IsTrue (gi.tells g.intake) → IsTrue (gc.tells g.clock) → ReadForEach gc f → ReadForEach gc g → f.taken ≤ g.taken → PutSoFar gi gc gd f xs → PutSoFar gi gc gd g xs
  put_same f g xs run ti tc rf rg w h = (order_later f g xs run ti tc rf rg h.1 h.0, each_map (λ (r : Record). r.txn ≤ f.taken) (λ (r : Record). r.txn ≤ g.taken) xs (λ r v. omega arith) h.1)

  same_items : (m : Outside I C D) (t u : Txn) → IsTransaction gi gc m t → IsTransaction gi gc m u → u.number ≡ t.number → u.items.list ≡ t.items.list
  same_items m t u h k e = some_same u.items.list t.items.list (slice_get (gi.batches m.intake) (gi.given m.intake - m.taken + (t.number - 1))) (ap (λ j. slice_get (gi.batches m.intake) (gi.given m.intake - m.taken + (j - 1))) (sym e) ∙ k.batch) h.batch

  -- the parts of the transaction that was taken last are those of each of its number
  pub parts_are : (m e : Outside I C D) (plan : D) (t : Txn) → SameRun gi gc m e → ReadForEach gc m → ReadForEach gc e → m.plan ≡ plan → ReadsItems gd plan → m.taken < 2 ^ 56 → t.number ≡ m.taken
      → (IsTrue (gi.tells m.intake) → IsTrue (gc.tells m.clock) → gc.made m.clock < last_count → IsTransaction gi gc m t) → IsTrue (gi.tells e.intake) → IsTrue (gc.tells e.clock) → PartsAre e t.number (length t.items.list) (gd.parts plan t)
  parts_are m e plan t run rm re over reads few number is ti tc = λ u iu nu.
      let b = taken_before m e u run ti tc rm re (omega arith) iu in
      let d = derived_by gi gc gd m plan t.number t (gd.parts plan t) over reads refl is refl in
      let made : gc.made m.clock < last_count = (let x = rm (run.clock_told tc) in omega arith) in (
        ap (λ p. gd.parts p u) run.plan ∙ sym (d (run.told ti) (run.clock_told tc) made u b nu),
        ap length (same_items m t u (is (run.told ti) (run.clock_told tc) made) b nu),
      )

module _ {I K A C D : Type 0} (gi : Intake.Ghosts I) (gk : Sink.Ghosts K) (ga : Answerer.Ghosts A) (gc : Clock.Ghosts C) (gd : Derive.Ghosts D) where
  -- a transaction was taken and delivered
  pub turn_ordered : (d m e : FloorView I K A C D) (n items : ℕ) (ps : List Part) → NothingSettled d m → AddsInTurn gk ga n items ps m e → SameRun gi gc d.outside e.outside → ReadForEach gc d.outside → ReadForEach gc e.outside → n ≡ d.outside.taken + 1 → e.outside.taken ≡ d.outside.taken + 1
      → (IsTrue (gi.tells e.outside.intake) → IsTrue (gc.tells e.outside.clock) → PartsAre gi gc gd e.outside n items ps) → e.ledger.policies ≡ gd.policies e.outside.plan → OrderedSoFar gi gk ga gc gd d → OrderedSoFar gi gk ga gc gd e
  turn_ordered d m e n items ps none adds run rd re en et are pol h =
      let plan : gd.policies e.outside.plan ≡ [] = ap gd.policies run.plan ∙ h.plan in
      let sinks = subst (λ ks. SinksAdd gk (PutInTurn ps n 0 (length ps)) ks e.sinks) none.sinks adds.sinks in
      let answers = subst (λ a. AnswererAdds ga (λ cs. CallsDelivered ps n cs ⊎ Refusals n items cs) a e.answerer) none.answerer adds.answers in
      record {
        plan = plan;
        unheld = pol ∙ plan;
        accepted = λ ti tc k x w t. (let s = sinks.1 k x in let many = sinks.0 in put_later gi gc gd d.outside e.outside n items (length ps) ps (gk.accepted (get_or d.sinks k x)) (gk.accepted (get_or e.sinks k x)) run ti tc rd re en et (are ti tc) (h.accepted (run.told ti) (run.clock_told tc) k x (omega arith) (s.told t)) (s.accepted t));
        refused = λ ti tc k x w t. (let s = sinks.1 k x in let many = sinks.0 in put_later gi gc gd d.outside e.outside n items (length ps) ps (gk.refused (get_or d.sinks k x)) (gk.refused (get_or e.sinks k x)) run ti tc rd re en et (are ti tc) (h.refused (run.told ti) (run.clock_told tc) k x (omega arith) (s.told t)) (s.refused t));
        answers = λ ti tc t. answers_more gi gc gd d.outside e.outside n items ps (ga.calls d.answerer) (ga.calls e.answerer) run ti tc rd re en et (are ti tc) (h.answers (run.told ti) (run.clock_told tc) (answers.told t)) (answers.calls t);
      }

  -- nothing was put or answered
  pub quiet_ordered : (d e : FloorView I K A C D) → NothingSettled d e → SameRun gi gc d.outside e.outside → ReadForEach gc d.outside → ReadForEach gc e.outside → e.outside.taken ≡ d.outside.taken → e.ledger.policies ≡ gd.policies e.outside.plan → OrderedSoFar gi gk ga gc gd d → OrderedSoFar gi gk ga gc gd e
  quiet_ordered d e none run rd re w pol h =
      let plan : gd.policies e.outside.plan ≡ [] = ap gd.policies run.plan ∙ h.plan in
      record {
        plan = plan;
        unheld = pol ∙ plan;
        accepted = λ ti tc k x v t. (let told : IsTrue (gk.tells (get_or d.sinks k x)) = subst (λ ks. IsTrue (gk.tells (get_or ks k x))) none.sinks t in
            subst (λ ks. PutSoFar gi gc gd e.outside (gk.accepted (get_or ks k x))) (sym none.sinks) (put_same gi gc gd d.outside e.outside (gk.accepted (get_or d.sinks k x)) run ti tc rd re (omega arith) (h.accepted (run.told ti) (run.clock_told tc) k x (subst (λ ks. k < length ks) none.sinks v) told)));
        refused = λ ti tc k x v t. (let told : IsTrue (gk.tells (get_or d.sinks k x)) = subst (λ ks. IsTrue (gk.tells (get_or ks k x))) none.sinks t in
            subst (λ ks. PutSoFar gi gc gd e.outside (gk.refused (get_or ks k x))) (sym none.sinks) (put_same gi gc gd d.outside e.outside (gk.refused (get_or d.sinks k x)) run ti tc rd re (omega arith) (h.refused (run.told ti) (run.clock_told tc) k x (subst (λ ks. k < length ks) none.sinks v) told)));
        answers = λ ti tc t. subst (λ a. AnsweredInOrder gi gc gd e.outside e.outside.taken (ga.calls a)) (sym none.answerer) (subst (λ j. AnsweredInOrder gi gc gd e.outside j (ga.calls d.answerer)) (sym w)
            (answers_later gi gc gd d.outside e.outside d.outside.taken (ga.calls d.answerer) run ti tc rd re (omega arith) (h.answers (run.told ti) (run.clock_told tc) (subst (λ a. IsTrue (ga.tells a)) none.answerer t))));
      }

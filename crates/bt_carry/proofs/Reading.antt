-- The account of a run that is over, from what is true of its floor.
use Rattle.std.proofs.Common.{◌≡◌, ◌≢◌, ℕ, zero, suc, ◌+◌, ◌<◌, ◌≤◌, Bool, true, false, cond, ◌&&◌, eqb, ltb, leb, List, [], ◌∷◌, length, get_or, ◌⊎◌, inl, inr, arith, refl, sym, ap, ◌∙◌, subst, Option, Some, None, zero-add}
use Rattle.std.specs.List.{AllByRecursion}
use Rattle.std.proofs.lemmas.Bool.Decides.{leb_tells}
use Rattle.bt_carry.specs.Account.{Account, AllTell, Answered, Became, Closed, HasBatch, IsPutFor, Put, verdict_on, why_on}
use Rattle.bt_carry.specs.Settled.{all_accepted, all_refused, settled, state_among, EachRecord}
use Rattle.bt_carry.proofs.Closing.{free_not_given, in_free_slots, one_past, of_past, past_counted, within, counts, all_answered}
use Rattle.bt_carry.proofs.Lists.{Among, each_among}
use Rattle.bt_carry.proofs.Sinks.{IsLeaf, leaf_counts, absent_counts, state_of, both_of, of_itself}
use Rattle.bt_carry.proofs.Trees.{agree_by, each_by, asked_times, at_recorded}
use Rattle.bt_carry.proofs.Verdicts.{Read, read_shift, settled_verdict, settled_why, tree_settled, tree_untried}
use Rattle.bt_demand.specs.Asked.{asked}
use Rattle.bt_demand.specs.Find.{tried}
use Rattle.bt_demand.specs.Holding.{is_open, one_if}
use Rattle.bt_demand.specs.Outcomes.{outcome, accepted, refused}
use Rattle.bt_demand.specs.Parts.{Part, PartsFit}
use Rattle.bt_demand.specs.Recorded.{Agree, recorded, untried, untried_in}
use Rattle.bt_demand.specs.Tree.{Tree, Trees, leaf, drop as nothing, reject, all, first, hold, none, more}
use Rattle.bt_demand.specs.Untouched.{Untouched}
use Rattle.bt_demand.specs.WellFormed.{leaves, sinks, sinks_in, Differ}
use Rattle.bt_demand.specs.declared.demand.State.{State}
use Rattle.bt_demand.specs.declared.derive.Derive as Derive
use Rattle.bt_demand.proofs.Lists.{InList, all-left, all-right}
use Rattle.bt_demand.proofs.Recorded.{recorded-untried}
use Rattle.bt_leaves.specs.EachLeaf.{EachLeaf, EachLeafIn}
use Rattle.bt_leaves.specs.LeafAt.{LeafAt, LeafIn}
use Rattle.bt_leaves.proofs.Kept.{leaves_untried}
use Rattle.bt_leaves.proofs.Standing.{at_untried}
use Rattle.bt_ledger.specs.Due.{times, open_parts, unanswered, AllSettled}
use Rattle.bt_ledger.specs.Ledger.{slot_at, is_free}
use Rattle.bt_ledger.specs.Open.{tree_of}
use Rattle.bt_ports.specs.Faults.{last_count}
use Rattle.bt_ports.specs.declared.outside.Answerer as Answerer
use Rattle.bt_ports.specs.declared.outside.Clock as Clock
use Rattle.bt_ports.specs.declared.outside.Intake as Intake
use Rattle.bt_ports.specs.declared.outside.Sink as Sink
use Rattle.bt_ports.specs.declared.parts.AnswerCall.{AnswerCall}
use Rattle.bt_ports.specs.declared.parts.Record.{Record}
use Rattle.bt_ports.specs.declared.parts.Verdict.{Verdict}
use Rattle.bt_sound.specs.Answers.{Called, PastSays, Says, calls_for}
use Rattle.bt_sound.specs.Owned.{BatchFits, IsOwned, IsRecordOf}
use Rattle.bt_sound.specs.Records.{LeafTold, Told, records_of}
use Rattle.bt_sound.specs.Sound.{Sound, SaysTrue, in_past}
use Rattle.bt_sound.specs.Transactions.{WasTaken, untried_parts}
use Rattle.bt_sound.specs.View.{FloorView, Past}
use Rattle.bt_sound.proofs.Lists.{each_map}
use Rattle.bt_sound.proofs.Taking.{known_at}

some_of : {K : Type 0} (ks : List K) → (ks ≡ []) ⊎ K
some_of [] = inl refl
some_of (k ∷ ks) = inr k

either : (b : Bool) → (b ≡ true) ⊎ (b ≡ false)
either true = inl refl
either false = inr refl

beyond : (ps : List Part) (p : ℕ) → length ps ≤ p → tree_of ps p ≡ nothing
beyond [] p h = refl
beyond (q ∷ ps) zero h = absurd (omega arith)
beyond (q ∷ ps) (suc p) h = beyond ps p (omega arith)

settles_at : (ps : List Part) (p : ℕ) → AllSettled ps → is_open (outcome (tree_of ps p)) ≡ false
settles_at ps p h = elim (leb_tells (p + 1) (length ps)) [
  | inl i ↦ h p (let a = i.1 in omega arith)
  | inr i ↦ ap (λ t. is_open (outcome t)) (beyond ps p (let a = i.1 in omega arith))
]

differ_at : (k m i : ℕ) (ps : List Part) (p : ℕ) → PartsFit k m i ps → Differ (leaves (tree_of ps p))
differ_at k m i [] p f = tt
differ_at k m i (q ∷ ps) zero f = f.0.well_formed.leaves_differ
differ_at k m i (q ∷ ps) (suc p) f = differ_at k m i ps p f.1

mutual
  sink_in : (P : ℕ → Type 0) (a : Option ℕ) (l k : ℕ) (b : List ℕ) (o : Option ℕ) (t : Tree) → AllByRecursion P (sinks t) → LeafAt a l k b o t → P k
  sink_in P a l k b o (leaf n j c x) s h = subst P h.1.0 s.0
  sink_in P a l k b o nothing s h = absurd h
  sink_in P a l k b o (reject w) s h = absurd h
  sink_in P a l k b o (all ts) s h = sink_in_each P a l k b o ts s h
  sink_in P a l k b o (first ts) s h = sink_in_each P a l k b o ts s h
  sink_in P a l k b o (hold n e z c g) s h = sink_in P (Some n) l k b o c s h

  sink_in_each : (P : ℕ → Type 0) (a : Option ℕ) (l k : ℕ) (b : List ℕ) (o : Option ℕ) (ts : Trees) → AllByRecursion P (sinks_in ts) → LeafIn a l k b o ts → P k
  sink_in_each P a l k b o none s h = absurd h
  sink_in_each P a l k b o (more t ts) s (inl h) = sink_in P a l k b o t (all-left P (sinks t) (sinks_in ts) s) h
  sink_in_each P a l k b o (more t ts) s (inr h) = sink_in_each P a l k b o ts (all-right P (sinks t) (sinks_in ts) s) h

mutual
  nothing_each : (t : Tree) → EachLeaf (λ k l x. Unit {0}) t
  nothing_each (leaf n k b x) = tt
  nothing_each nothing = tt
  nothing_each (reject w) = tt
  nothing_each (all ts) = nothing_each_in ts
  nothing_each (first ts) = nothing_each_in ts
  nothing_each (hold n e z c g) = nothing_each c

  nothing_each_in : (ts : Trees) → EachLeafIn (λ k l x. Unit {0}) ts
  nothing_each_in none = tt
  nothing_each_in (more t ts) = (nothing_each t, nothing_each_in ts)

mutual
  -- what is said of the leaf that stands there
  leaf_said : (T : ℕ → ℕ → State → Type 0) (a : Option ℕ) (l k : ℕ) (b : List ℕ) (o : Option ℕ) (t : Tree) → EachLeaf T t → LeafAt a l k b o (untried t) → (x : State) × T k l x
  leaf_said T a l k b o (leaf n j c x) e h = (x, subst (λ i. T i l x) h.1.0 (subst (λ i. T j i x) h.0 e))
  leaf_said T a l k b o nothing e h = absurd h
  leaf_said T a l k b o (reject w) e h = absurd h
  leaf_said T a l k b o (all ts) e h = leaf_said_in T a l k b o ts e h
  leaf_said T a l k b o (first ts) e h = leaf_said_in T a l k b o ts e h
  leaf_said T a l k b o (hold n i z c g) e h = leaf_said T (Some n) l k b o c e h

  leaf_said_in : (T : ℕ → ℕ → State → Type 0) (a : Option ℕ) (l k : ℕ) (b : List ℕ) (o : Option ℕ) (ts : Trees) → EachLeafIn T ts → LeafIn a l k b o (untried_in ts) → (x : State) × T k l x
  leaf_said_in T a l k b o none e h = absurd h
  leaf_said_in T a l k b o (more t ts) e (inl h) = leaf_said T a l k b o t e.0 h
  leaf_said_in T a l k b o (more t ts) e (inr h) = leaf_said_in T a l k b o ts e.1 h

of_some : (a b : Verdict) (c : Bool) → Some a ≡ cond c (Some b) None → a ≡ b
of_some a b true e = cc
of_some a b false e = cc

has_batch : (rs : List ℕ) (o : Option ℕ) (n : ℕ) → BatchFits rs o n → HasBatch o n
has_batch rs None n h = h
has_batch rs (Some m) n h = h.0

record_counted : (r : Record) (rs : List Record) → Among r rs → 1 ≤ records_of r.txn r.part r.leaf rs
record_counted r [] h = absurd h
record_counted r (x ∷ rs) (inl e) = subst (λ y. 1 ≤ records_of r.txn r.part r.leaf (y ∷ rs)) (sym e) (let a = ap one_if (of_itself r) in omega arith)
record_counted r (x ∷ rs) (inr h) = let a = record_counted r rs h in omega arith

all_none : (rs : List Record) → ((r : Record) → Among r rs → ⊥) → rs ≡ []
all_none [] h = refl
all_none (r ∷ rs) h = absurd (h r (inl refl))

module _ {I K A C D : Type 0} (gi : Intake.Ghosts I) (gk : Sink.Ghosts K) (ga : Answerer.Ghosts A) (gc : Clock.Ghosts C) (gd : Derive.Ghosts D) (f : FloorView I K A C D) (closed : List Past)
    (sound : Sound gi gk ga gc gd f closed) (free : (s : ℕ) → is_free (slot_at f.ledger s) ≡ true) (tell : AllTell gi gk ga gc f.outside f.sinks f.answerer) (early : gc.made f.outside.clock < last_count) where
  counted_once : (n : ℕ) → in_past n closed ≡ one_if (ltb 0 n && leb n f.outside.taken)
  counted_once n = let a = sound.placed n in let b = in_free_slots n f.ledger.slots free in omega arith

  of_closed : (k : ℕ) (r : Record) → IsOwned f.releases f.ledger closed k r → (p : Past) × (Among p closed × IsRecordOf f.releases k p.state r)
  of_closed k r (inl h) = absurd (free_not_given (slot_at f.ledger h.0) (free h.0) h.1.0)
  of_closed k r (inr h) = of_past f.releases k closed r h

  known : (k : ℕ) (r : Record) → IsOwned f.releases f.ledger closed k r → (1 ≤ r.txn) × (r.txn ≤ f.outside.taken)
  known k r h =
      let w = of_closed k r h in
      let c = past_counted w.0 closed w.1.0 in
      let e = counted_once w.0.state.number in
      subst (λ n. (1 ≤ n) × (n ≤ f.outside.taken)) (sym w.1.1.number) (within w.0.state.number f.outside.taken (omega arith))

  -- what is so of each owned record is so of each that a sink tells
  each_owned : (P : ℕ → Record → Type 0) → ((k : ℕ) (r : Record) → IsOwned f.releases f.ledger closed k r → P k r) → EachRecord gk f.sinks P
  each_owned P h k d w = let o = sound.owned d k w (tell.sinks k d w) in (
    each_map (λ r. IsOwned f.releases f.ledger closed k r) (P k) (gk.accepted (get_or f.sinks k d)) (h k) o.accepted,
    each_map (λ r. IsOwned f.releases f.ledger closed k r) (P k) (gk.refused (get_or f.sinks k d)) (h k) o.refused,
  )

  -- a record is refused only where its sink counted a fault
  no_refusal : (k : ℕ) (d : K) → k < length f.sinks → gk.faults (get_or f.sinks k d) ≡ 0 → (r : Record) → Among r (gk.refused (get_or f.sinks k d)) → ⊥
  no_refusal k d w z r i =
      let v = of_closed k r (each_among (λ x. IsOwned f.releases f.ledger closed k x) r (gk.refused (get_or f.sinks k d)) (sound.owned d k w (tell.sinks k d w)).refused i) in
      let t = each_among (λ (p : Past). Told gk f.sinks d p.state) v.0 closed (sound.past_told d) v.1.0 in
      let at = subst (λ u. LeafAt None r.leaf k r.bytes v.1.1.over u) (tree_untried v.0.state.parts r.part) v.1.1.leaf in
      let said = leaf_said (λ j l x. LeafTold gk f.sinks d v.0.state.number r.part j l x) None r.leaf k r.bytes v.1.1.over (tree_of v.0.state.parts r.part) (t r.part) at in
      let none_refused = ap one_if (said.1.1 z) in
      let count = (said.1.0 (tell.sinks k d w)).1 in
      let here = subst (λ n. 1 ≤ records_of n r.part r.leaf (gk.refused (get_or f.sinks k d))) v.1.1.number (record_counted r (gk.refused (get_or f.sinks k d)) i) in
      omega arith

  module _ (p : Past) (among : Among p closed) (only : (q : Past) → Among q closed → q.state.number ≡ p.state.number → q ≡ p) where
    abbrev n : ℕ
    n = p.state.number

    abbrev us : List Part
    us = untried_parts p.state.parts

    own : (k : ℕ) (r : Record) → IsOwned f.releases f.ledger closed k r → r.txn ≡ n → IsRecordOf f.releases k p.state r
    own k r h m = let v = of_closed k r h in subst (λ (x : Past). IsRecordOf f.releases k x.state r) (only v.0 v.1.0 (sym v.1.1.number ∙ m)) v.1.1

    own_leaves : EachRecord gk f.sinks (λ k r. r.txn ≡ n → IsLeaf k us r)
    own_leaves = each_owned (λ k r. r.txn ≡ n → IsLeaf k us r) (λ k r h m. (let v = own k r h m in (v.over, v.leaf)))

    told : (d : K) (q : ℕ) → EachLeaf (λ k l x. LeafTold gk f.sinks d n q k l x) (tree_of p.state.parts q)
    told d q = each_among (λ (x : Past). Told gk f.sinks d x.state) p closed (sound.past_told d) among q

    once : (i : ℕ) → calls_for n i (ga.calls f.answerer) ≡ one_if (ltb i (length p.state.answered))
    once i =
        let c = each_among (λ (x : Past). Called (ga.calls f.answerer) x.state) p closed (sound.past_called tell.answerer) among in
        let u = each_among (λ (x : Past). unanswered x.state.answered ≡ 0) p closed sound.past_answered among in
        c i ∙ ap one_if (all_answered p.state.answered i u)

    says : AllByRecursion (λ c. c.number ≡ n → PastSays p.memory p.state c) (ga.calls f.answerer)
    says = each_map (λ c. SaysTrue f.ledger closed c) (λ c. c.number ≡ n → PastSays p.memory p.state c) (ga.calls f.answerer)
        (λ c h m. each_among (λ (x : Past). x.state.number ≡ c.number → PastSays x.memory x.state c) p closed h.1 among (sym m)) (sound.says tell.answerer)

    was : WasTaken gi gc gd f.outside p
    was = each_among (λ x. WasTaken gi gc gd f.outside x) p closed sound.past_taken among

    module _ (e : p.memory ≡ false) where
      fits : PartsFit (gd.sinks f.outside.plan) (length (gd.policies f.outside.plan)) (length p.state.answered) us
      fits = was.shaped e

      differ : (q : ℕ) → Differ (leaves (tree_of us q))
      differ q = differ_at (gd.sinks f.outside.plan) (length (gd.policies f.outside.plan)) (length p.state.answered) us q fits

      at_us : (q l k : ℕ) (b : List ℕ) (o : Option ℕ) → LeafAt None l k b o (tree_of p.state.parts q) → LeafAt None l k b o (tree_of us q)
      at_us q l k b o h = subst (λ t. LeafAt None l k b o t) (sym (tree_untried p.state.parts q)) (at_untried None l k b o (tree_of p.state.parts q) h)

      sink_known : (q l k : ℕ) (b : List ℕ) (o : Option ℕ) → LeafAt None l k b o (tree_of us q) → k < length f.sinks
      sink_known q l k b o h = let a = sink_in (λ j. j < gd.sinks f.outside.plan) None l k b o (tree_of us q) (known_at (gd.sinks f.outside.plan) (length (gd.policies f.outside.plan)) (length p.state.answered) us q fits) h in let s = sound.sinks in omega arith

      counts_of : (d : K) (q l k : ℕ) (b : List ℕ) (o : Option ℕ) (x : State) → LeafAt None l k b o (tree_of p.state.parts q) → LeafTold gk f.sinks d n q k l x
          → (records_of n q l (all_accepted gk f.sinks) ≡ one_if (accepted x)) × (records_of n q l (all_refused gk f.sinks) ≡ one_if (refused x))
      counts_of d q l k b o x at h =
          let there = at_us q l k b o at in
          let w = sink_known q l k b o there in
          leaf_counts gk f.sinks n us own_leaves d q l k b o x (differ q) there w (h.0 (tell.sinks k d w))

      -- what is so of each leaf by its records
      by_records : (U : ℕ → ℕ → State → Type 0) (q : ℕ) → ((l k : ℕ) (x : State) → records_of n q l (all_accepted gk f.sinks) ≡ one_if (accepted x) → records_of n q l (all_refused gk f.sinks) ≡ one_if (refused x) → U k l x)
          → EachLeaf U (tree_of p.state.parts q)
      by_records U q h = elim (some_of f.sinks) [
        | inl z ↦ each_by (λ k l x. Unit {0}) U None (tree_of p.state.parts q) (nothing_each (tree_of p.state.parts q)) (λ k l b o x at _.
            (let w = sink_known q l k b o (at_us q l k b o at) in let y = ap length z in absurd (omega arith)))
        | inr d ↦ each_by (λ k l x. LeafTold gk f.sinks d n q k l x) U None (tree_of p.state.parts q) (told d q) (λ k l b o x at t.
            (let c = counts_of d q l k b o x at t in h l k x c.0 c.1))
      ]

      agree : (q : ℕ) → Agree (state_among (all_accepted gk f.sinks) (all_refused gk f.sinks) n q) (tree_of p.state.parts q)
      agree q = agree_by (λ k l x. x ≡ state_among (all_accepted gk f.sinks) (all_refused gk f.sinks) n q l) (state_among (all_accepted gk f.sinks) (all_refused gk f.sinks) n q) None (tree_of p.state.parts q)
          (by_records (λ k l x. x ≡ state_among (all_accepted gk f.sinks) (all_refused gk f.sinks) n q l) q (λ l k x a b. state_of (all_accepted gk f.sinks) (all_refused gk f.sinks) n q l x a b))
          (λ k l b o x at h. h)

      settles : (q : ℕ) → is_open (outcome (tree_of p.state.parts q)) ≡ false
      settles q = settles_at p.state.parts q (each_among (λ (x : Past). AllSettled x.state.parts) p closed sound.past_done among)

      reads : (j : ℕ) → Read (all_accepted gk f.sinks) (all_refused gk f.sinks) n (0 + j) (tree_of p.state.parts j)
      reads j = read_shift (all_accepted gk f.sinks) (all_refused gk f.sinks) n j (0 + j) (tree_of p.state.parts j) (sym (zero-add j)) (record { agree = agree j; settles = settles j })

      absent : (q l : ℕ) → (InList l (leaves (tree_of p.state.parts q)) → ⊥) → records_of n q l (all_accepted gk f.sinks) + records_of n q l (all_refused gk f.sinks) ≡ 0
      absent q l w = elim (some_of f.sinks) [
        | inl z ↦ subst (λ ks. records_of n q l (all_accepted gk ks) + records_of n q l (all_refused gk ks) ≡ 0) (sym z) refl
        | inr d ↦
            (let same : leaves (tree_of us q) ≡ leaves (tree_of p.state.parts q) = ap leaves (tree_untried p.state.parts q) ∙ leaves_untried (tree_of p.state.parts q) in
            let c = absent_counts gk f.sinks n us own_leaves d q l (λ i. w (subst (λ ls. InList l ls) same i)) in
            let a = c.0 in let b = c.1 in omega arith)
      ]

      tree_is : (q : ℕ) → tree_of (settled gk f.sinks n us) q ≡ recorded (state_among (all_accepted gk f.sinks) (all_refused gk f.sinks) n q) (tree_of us q)
      tree_is q = tree_settled (all_accepted gk f.sinks) (all_refused gk f.sinks) n 0 us q ∙ ap (λ j. recorded (state_among (all_accepted gk f.sinks) (all_refused gk f.sinks) n j) (tree_of us q)) (zero-add q)

      put : Put gk f.sinks n (settled gk f.sinks n us)
      put = record {
        each = λ q l.
            (let look = state_among (all_accepted gk f.sinks) (all_refused gk f.sinks) n q in
            let sum = records_of n q l (all_accepted gk f.sinks) + records_of n q l (all_refused gk f.sinks) in
            let same : tree_of (settled gk f.sinks n us) q ≡ recorded look (tree_of p.state.parts q) = tree_is q ∙ (ap (recorded look) (tree_untried p.state.parts q) ∙ recorded-untried look (tree_of p.state.parts q)) in
            let apart = subst (λ ls. Differ ls) (ap leaves (tree_untried p.state.parts q) ∙ leaves_untried (tree_of p.state.parts q)) (differ q) in
            let untouched = each_among (λ (x : Past). (i : ℕ) → Untouched (tree_of x.state.parts i)) p closed sound.past_untouched among q in
            let leaf_by : EachLeaf (λ k m x. m ≡ l → sum ≡ one_if (tried x)) (tree_of p.state.parts q) = by_records (λ k m x. m ≡ l → sum ≡ one_if (tried x)) q
            (λ m k x a b i. subst (λ z. records_of n q z (all_accepted gk f.sinks) + records_of n q z (all_refused gk f.sinks) ≡ one_if (tried x)) i (both_of _ _ x a b)) in
            asked_times look l sum (tree_of p.state.parts q) (agree q) untouched (settles q) apart leaf_by (absent q l) ∙ ap (λ t. times l (asked t)) (sym same));
        own = each_owned (λ k r. r.txn ≡ n → IsPutFor k (settled gk f.sinks n us) r) (λ k r h m.
            (let v = own k r h m in
            record {
              over = v.over;
              leaf = subst (λ t. LeafAt None r.leaf k r.bytes v.over t) (sym (tree_is r.part)) (at_recorded (state_among (all_accepted gk f.sinks) (all_refused gk f.sinks) n r.part) None r.leaf k r.bytes v.over (tree_of us r.part) v.leaf);
              batch = has_batch f.releases v.over r.batch v.batch;
            }));
      }

      said : (c : AnswerCall) → Says p.state c → (c.verdict ≡ verdict_on (settled gk f.sinks n us) c.item) × (c.why ≡ why_on (settled gk f.sinks n us) c.item)
      said c s = (
        of_some c.verdict (verdict_on p.state.parts c.item) (eqb (open_parts c.item p.state.parts) 0) s.verdict ∙ settled_verdict (all_accepted gk f.sinks) (all_refused gk f.sinks) n c.item p.state.parts reads,
        s.why ∙ settled_why (all_accepted gk f.sinks) (all_refused gk f.sinks) n c.item p.state.parts reads,
      )

      answered_so : Answered n (length p.state.answered) (verdict_on (settled gk f.sinks n us)) (why_on (settled gk f.sinks n us)) (ga.calls f.answerer)
      answered_so = record {
        once = once;
        says = each_map (λ c. c.number ≡ n → PastSays p.memory p.state c) (λ c. c.number ≡ n → (c.verdict ≡ verdict_on (settled gk f.sinks n us) c.item) × (c.why ≡ why_on (settled gk f.sinks n us) c.item)) (ga.calls f.answerer)
            (λ c h m. said c (subst (λ v. PastSays v p.state c) e (h m))) says;
      }

      with_parts : Closed gi gk ga gc gd f.outside f.sinks f.answerer n
      with_parts =
          let w = was.planned e tell.intake tell.clock early in
          record {
            txn = w.0;
            is = w.1.taken.is;
            number = w.1.taken.number;
            without_memory = false;
            became = subst (λ ps. Became gk ga f.sinks f.answerer n (length w.0.items.list) ps false) w.1.parts (subst (λ k. Became gk ga f.sinks f.answerer n k us false) (sym w.1.taken.items) (answered_so, put));
          }

    module _ (e : p.memory ≡ true) where
      no_leaf : (k : ℕ) (r : Record) → IsOwned f.releases f.ledger closed k r → r.txn ≢ n
      no_leaf k r h = λ m. (let v = own k r h m in let none_there = was.without e in subst (λ ps. LeafAt None r.leaf k r.bytes v.over (tree_of (untried_parts ps) r.part)) none_there v.leaf)

      without_parts : Closed gi gk ga gc gd f.outside f.sinks f.answerer n
      without_parts =
          let w = was.refused e tell.intake tell.clock early in
          record {
            txn = w.0;
            is = w.1.is;
            number = w.1.number;
            without_memory = true;
            became = (
              record {
                once = λ i. once i ∙ ap (λ k. one_if (ltb i k)) (sym w.1.items);
                says = each_map (λ c. c.number ≡ n → PastSays p.memory p.state c) (λ c. c.number ≡ n → PastSays true p.state c) (ga.calls f.answerer) (λ c h m. subst (λ v. PastSays v p.state c) e (h m)) says;
              },
              each_owned (λ k r. r.txn ≢ n) no_leaf,
            );
          }

    closed_so : Closed gi gk ga gc gd f.outside f.sinks f.answerer n
    closed_so = elim (either p.memory) [ inl e ↦ without_parts e | inr e ↦ with_parts e ]

  closed_at : (n : ℕ) → 1 ≤ n → n ≤ f.outside.taken → Closed gi gk ga gc gd f.outside f.sinks f.answerer n
  closed_at n h k =
      let w = one_past n closed (counted_once n ∙ counts n f.outside.taken h k) in
      subst (λ m. Closed gi gk ga gc gd f.outside f.sinks f.answerer m) w.1.1.0 (closed_so w.0 w.1.0 (λ q i m. w.1.1.1 q i (m ∙ w.1.1.0)))

  pub account : Account gi gk ga gc gd f.outside f.sinks f.answerer f.counts
  account = record {
    closed = closed_at;
    records = each_owned (λ k r. (1 ≤ r.txn) × (r.txn ≤ f.outside.taken)) known;
    calls = sound.no_other tell.answerer;
    faults = λ k d w z. all_none (gk.refused (get_or f.sinks k d)) (no_refusal k d w z);
    answer_faults = sound.answer_faults tell.answerer;
    counted = sound.counted tell.answerer;
  }

-- The intake gives one batch more, or says how the run ends.
use Rattle.std.proofs.Common.{◌≡◌, ℕ, ◌+◌, ◌-◌, ◌<◌, ◌≤◌, ◌^◌, ◌⊎◌, inl, inr, arith, refl, sym, ap, ◌∙◌, subst, List, length, IsTrue, Option, Some, None}
use Rattle.std.specs.Prelude.{slice_get}
use Rattle.std.proofs.lemmas.Bool.Decides.{leb_tells}
use Rattle.bt_demand.specs.declared.derive.Derive as Derive
use Rattle.bt_ledger.specs.Open.{Open}
use Rattle.bt_ports.specs.Clock.{reading_at}
use Rattle.bt_ports.specs.Faults.{one_more, last_count}
use Rattle.bt_ports.specs.Intake.{InputStop, stop_of, NextFaults, NextLowers, NextGives, NextStops}
use Rattle.bt_ports.specs.declared.outside.Clock as Clock
use Rattle.bt_ports.specs.declared.outside.Intake as Intake
use Rattle.bt_ports.specs.declared.parts.Item.{Item}
use Rattle.bt_ports.specs.declared.parts.Next.{Next}
use Rattle.bt_ports.specs.declared.parts.Next.TheVariants as next
use Rattle.bt_ports.specs.declared.parts.Txn.{Txn}
use Rattle.bt_sound.specs.Course.{Course, ending_of, GaveAll, IsStop, FaultCounted}
use Rattle.bt_sound.specs.Transactions.{IsTransaction, Taken, Planned}
use Rattle.bt_sound.specs.View.{Outside}
use Rattle.bt_sound.specs.declared.counts.Ending.{Ending}

-- intake, clock and number of taken transactions some calls later: as many batches and readings more as transactions
pub record Later {I C D : Type 0} (gi : Intake.Ghosts I) (gc : Clock.Ghosts C) (f : Outside I C D) (i : I) (c : C) (k : ℕ) : Type 0 where
  pub more : f.taken ≤ k
  pub told : IsTrue (gi.tells i) → IsTrue (gi.tells f.intake)
  pub batches : IsTrue (gi.tells i) → gi.batches i ≡ gi.batches f.intake
  pub before : IsTrue (gi.tells i) → gi.given i - k ≡ gi.given f.intake - f.taken
  pub ticks : IsTrue (gc.tells c) → IsTrue (gc.tells f.clock)
  pub readings : IsTrue (gc.tells c) → gc.readings c ≡ gc.readings f.clock
  pub made : IsTrue (gc.tells c) → gc.made c < last_count → (gc.made f.clock < last_count) × (gc.made c - k ≡ gc.made f.clock - f.taken)

is_later : {I C D : Type 0} (gi : Intake.Ghosts I) (gc : Clock.Ghosts C) (f : Outside I C D) (i : I) (c : C) (k : ℕ) (e : Option Ending) (r : ℕ) (t : Txn) → Later gi gc f i c k → IsTrue (gi.tells i) → IsTrue (gc.tells c) → gc.made c < last_count
    → IsTransaction gi gc f t → IsTransaction gi gc (record f { intake = i; clock = c; taken = k; ending = e; refused_memory = r }) t
is_later gi gc f i c k e r t l x y z h =
    let b = l.batches x in
    let p = l.before x in
    let reads = l.readings y in
    let q = (l.made y z).1 in
    record {
      some = h.some;
      taken = (let a = h.taken in let m = l.more in omega arith);
      batch = rw (b, p) h.batch;
      moment = rw (reads, q) h.moment;
    }

pub taken_later : {I C D : Type 0} (gi : Intake.Ghosts I) (gc : Clock.Ghosts C) (f : Outside I C D) (i : I) (c : C) (k : ℕ) (e : Option Ending) (r : ℕ) (number moment items : ℕ) → Later gi gc f i c k
    → Taken gi gc f number moment items → Taken gi gc (record f { intake = i; clock = c; taken = k; ending = e; refused_memory = r }) number moment items
taken_later gi gc f i c k e r number moment items l h = λ x y z.
    let w = h (l.told x) (l.ticks y) (l.made y z).0 in
    (w.0, record { is = is_later gi gc f i c k e r w.0 l x y z w.1.is; number = w.1.number; moment = w.1.moment; items = w.1.items })

pub planned_later : {I C D : Type 0} (gi : Intake.Ghosts I) (gc : Clock.Ghosts C) (gd : Derive.Ghosts D) (f : Outside I C D) (i : I) (c : C) (k : ℕ) (e : Option Ending) (r : ℕ) (o : Open) → Later gi gc f i c k
    → Planned gi gc gd f o → Planned gi gc gd (record f { intake = i; clock = c; taken = k; ending = e; refused_memory = r }) o
planned_later gi gc gd f i c k e r o l h = λ x y z.
    let w = h (l.told x) (l.ticks y) (l.made y z).0 in
    let a = w.1.taken in
    (w.0, record { taken = record { is = is_later gi gc f i c k e r w.0 l x y z a.is; number = a.number; moment = a.moment; items = a.items }; parts = w.1.parts })

below_last : (a b : ℕ) → b ≡ one_more a → b < last_count → (b ≡ a + 1) × (a < last_count)
below_last a b e h = ((let k = e in omega arith), (let k = e in omega arith))

read_more : (t a b : ℕ) → t ≤ a → b ≡ one_more a → (t + 1 ≤ b) ⊎ (b ≡ last_count)
read_more t a b h e = elim (leb_tells (t + 1) b) [ inl i ↦ inl i.1 | inr i ↦ (let k = i.1 in let d = e in inr (omega arith)) ]

-- the next batch, and a reading for it
pub record TakesNext {I C D : Type 0} (gi : Intake.Ghosts I) (gc : Clock.Ghosts C) (f : Outside I C D) (i : I) (c : C) (t : Txn) : Type 0 where
  pub told : IsTrue (gi.tells i) → IsTrue (gi.tells f.intake)
  pub batches : IsTrue (gi.tells i) → gi.batches i ≡ gi.batches f.intake
  pub gives : IsTrue (gi.tells i) → (gi.given i ≡ gi.given f.intake + 1) × (slice_get (gi.batches f.intake) (gi.given f.intake) ≡ Some t.items.list)
  pub lowers : (1 ≤ length t.items.list) × (length t.items.list < 2 ^ 32) × (gi.left i + length t.items.list ≤ gi.left f.intake)
  pub stops : gi.stopped i ≡ None
  pub ticks : IsTrue (gc.tells c) → IsTrue (gc.tells f.clock)
  pub readings : IsTrue (gc.tells c) → gc.readings c ≡ gc.readings f.clock
  pub made : IsTrue (gc.tells c) → gc.made c ≡ one_more (gc.made f.clock)
  pub now : IsTrue (gc.tells c) → t.moment ≡ reading_at (gc.readings f.clock) (gc.made f.clock)
  pub number : t.number ≡ f.taken + 1

pub next_later : {I C D : Type 0} (gi : Intake.Ghosts I) (gc : Clock.Ghosts C) (f : Outside I C D) (i : I) (c : C) (t : Txn) → TakesNext gi gc f i c t → Later gi gc f i c (f.taken + 1)
next_later gi gc f i c t n = record {
  more = omega arith;
  told = n.told;
  batches = n.batches;
  before = λ x. (let a = (n.gives x).0 in omega arith);
  ticks = n.ticks;
  readings = n.readings;
  made = λ y z. (let m = below_last (gc.made f.clock) (gc.made c) (n.made y) z in (m.1, (let a = m.0 in omega arith)));
}

-- it is the next transaction of the run
pub next_is : {I C D : Type 0} (gi : Intake.Ghosts I) (gc : Clock.Ghosts C) (f : Outside I C D) (i : I) (c : C) (t : Txn) → Course gi gc f → TakesNext gi gc f i c t → IsTrue (gi.tells i) → IsTrue (gc.tells c) → gc.made c < last_count
    → IsTransaction gi gc (record f { intake = i; clock = c; taken = f.taken + 1 }) t
next_is gi gc f i c t h n x y z =
    let m = below_last (gc.made f.clock) (gc.made c) (n.made y) z in
    let below : gc.made f.clock < last_count = m.1 in
    let g = h.given (n.told x) in
    let made : f.taken ≤ gc.made f.clock = elim (h.read (n.ticks y)) [ inl a ↦ a | inr a ↦ (let k : gc.made f.clock ≡ last_count = a in absurd (omega arith)) ] in
    let b = (n.gives x).0 in
    let v = m.0 in
    let tn = n.number in
    let p : gi.given i - (f.taken + 1) + (t.number - 1) ≡ gi.given f.intake = omega arith in
    let q : gc.made c - (f.taken + 1) + (t.number - 1) ≡ gc.made f.clock = omega arith in
    record {
      some = omega arith;
      taken = omega arith;
      batch = ap (λ bs. slice_get bs (gi.given i - (f.taken + 1) + (t.number - 1))) (n.batches x) ∙ (ap (slice_get (gi.batches f.intake)) p ∙ (n.gives x).1);
      moment = n.now y ∙ (sym (ap (reading_at (gc.readings f.clock)) q) ∙ sym (ap (λ rs. reading_at rs (gc.made c - (f.taken + 1) + (t.number - 1))) (n.readings y)));
    }

pub course_next : {I C D : Type 0} (gi : Intake.Ghosts I) (gc : Clock.Ghosts C) (f : Outside I C D) (i : I) (c : C) (t : Txn) → Course gi gc f → f.ending ≡ None → TakesNext gi gc f i c t → Course gi gc (record f { intake = i; clock = c; taken = f.taken + 1 })
course_next gi gc f i c t h e n = record {
  given = λ x. (let a = h.given (n.told x) in let b = (n.gives x).0 in omega arith);
  read = λ y. (let b = n.made y in elim (h.read (n.ticks y)) [ inl a ↦ read_more f.taken (gc.made f.clock) (gc.made c) a b | inr a ↦ inr (let d : gc.made f.clock ≡ last_count = a in omega arith) ]);
  bounded = (let a = h.bounded in let u = n.lowers.0 in let v = n.lowers.2 in omega arith);
  ended = e ∙ sym (ap ending_of n.stops);
  goes = λ _. n.stops;
  whole = λ x. subst (λ q. GaveAll q (gi.given i) (length (gi.batches i))) (sym e) tt;
  stop = λ x. subst (λ q. IsStop q (gi.stop i) (gi.bound i)) (sym e) tt;
  fault = subst (λ q. FaultCounted q (gi.faults i)) (sym e) tt;
}

-- an answer other than a batch
pub record Stops {I C D : Type 0} (gi : Intake.Ghosts I) (f : Outside I C D) (i : I) (r : Next) : Type 0 where
  pub told : IsTrue (gi.tells i) → IsTrue (gi.tells f.intake)
  pub batches : IsTrue (gi.tells i) → gi.batches i ≡ gi.batches f.intake
  pub gives : IsTrue (gi.tells i) → NextGives r (gi.batches f.intake) (gi.given f.intake) (gi.given i)
  pub lowers : NextLowers r (gi.left f.intake) (gi.left i)
  pub stops : gi.stopped i ≡ stop_of r
  pub same : IsTrue (gi.tells i) → gi.stop i ≡ gi.stop f.intake
  pub ends : IsTrue (gi.tells i) → NextStops r (gi.stop f.intake) (gi.bound i)
  pub failed : NextFaults r (gi.faults f.intake) (gi.faults i)
  pub ending : Ending
  pub is : ending_of (stop_of r) ≡ Some ending

none_given : (r : Next) (e : Ending) (bs : List (List Item)) (a b : ℕ) → ending_of (stop_of r) ≡ Some e → NextGives r bs a b → b ≡ a
none_given (next.Batch x) e bs a b i g = cc
none_given next.End e bs a b i g = g.0
none_given next.Failed e bs a b i g = g
none_given (next.LongLine n) e bs a b i g = g.0
none_given next.Bound e bs a b i g = g.0
none_given next.NoMemory e bs a b i g = g

none_left : (r : Next) (e : Ending) (a b : ℕ) → ending_of (stop_of r) ≡ Some e → NextLowers r a b → b ≤ a
none_left (next.Batch x) e a b i g = cc
none_left next.End e a b i g = g
none_left next.Failed e a b i g = g
none_left (next.LongLine n) e a b i g = g
none_left next.Bound e a b i g = g
none_left next.NoMemory e a b i g = g

gave_all : (r : Next) (e : Ending) (bs : List (List Item)) (a b : ℕ) → ending_of (stop_of r) ≡ Some e → NextGives r bs a b → GaveAll (ending_of (stop_of r)) b (length bs)
gave_all (next.Batch x) e bs a b i g = tt
gave_all next.End e bs a b i g = g.0 ∙ sym g.1
gave_all next.Failed e bs a b i g = tt
gave_all (next.LongLine n) e bs a b i g = g.0 ∙ sym g.1
gave_all next.Bound e bs a b i g = g.0 ∙ sym g.1
gave_all next.NoMemory e bs a b i g = tt

is_stop : (r : Next) (s : InputStop) (b : ℕ) → NextStops r s b → IsStop (ending_of (stop_of r)) s b
is_stop (next.Batch x) s b h = tt
is_stop next.End s b h = h
is_stop next.Failed s b h = tt
is_stop (next.LongLine n) s b h = h
is_stop next.Bound s b h = h
is_stop next.NoMemory s b h = tt

fault_counted : (r : Next) (a b : ℕ) → NextFaults r a b → FaultCounted (ending_of (stop_of r)) b
fault_counted (next.Batch x) a b h = tt
fault_counted next.End a b h = tt
fault_counted next.Failed a b h = (let k = h in omega arith)
fault_counted (next.LongLine n) a b h = tt
fault_counted next.Bound a b h = tt
fault_counted next.NoMemory a b h = tt

some_none : (e : Ending) (o : Option Ending) → o ≡ Some e → o ≡ None → ⊥
some_none e o i j = cc

pub stop_later : {I C D : Type 0} (gi : Intake.Ghosts I) (gc : Clock.Ghosts C) (f : Outside I C D) (i : I) (r : Next) → Stops gi f i r → Later gi gc f i f.clock f.taken
stop_later gi gc f i r s = record {
  more = omega arith;
  told = s.told;
  batches = s.batches;
  before = λ x. ap (λ n. n - f.taken) (none_given r s.ending (gi.batches f.intake) (gi.given f.intake) (gi.given i) s.is (s.gives x));
  ticks = λ y. y;
  readings = λ y. refl;
  made = λ y z. (z, refl);
}

pub course_stop : {I C D : Type 0} (gi : Intake.Ghosts I) (gc : Clock.Ghosts C) (f : Outside I C D) (i : I) (r : Next) (s : Stops gi f i r) → Course gi gc f → Course gi gc (record f { intake = i; ending = Some s.ending })
course_stop gi gc f i r s h = record {
  given = λ x. (let a = h.given (s.told x) in let b = none_given r s.ending (gi.batches f.intake) (gi.given f.intake) (gi.given i) s.is (s.gives x) in omega arith);
  read = h.read;
  bounded = (let a = h.bounded in let b = none_left r s.ending (gi.left f.intake) (gi.left i) s.is s.lowers in omega arith);
  ended = sym s.is ∙ sym (ap ending_of s.stops);
  goes = λ e. absurd (some_none s.ending (Some s.ending) refl e);
  whole = λ x. subst (λ bs. GaveAll (Some s.ending) (gi.given i) (length bs)) (sym (s.batches x)) (subst (λ q. GaveAll q (gi.given i) (length (gi.batches f.intake))) s.is (gave_all r s.ending (gi.batches f.intake) (gi.given f.intake) (gi.given i) s.is (s.gives x)));
  stop = λ x. subst (λ q. IsStop (Some s.ending) q (gi.bound i)) (sym (s.same x)) (subst (λ q. IsStop q (gi.stop f.intake) (gi.bound i)) s.is (is_stop r (gi.stop f.intake) (gi.bound i) (s.ends x)));
  fault = subst (λ q. FaultCounted q (gi.faults i)) s.is (fault_counted r (gi.faults f.intake) (gi.faults i) s.failed);
}

-- nothing was taken yet
pub course_make : {I C D : Type 0} (gi : Intake.Ghosts I) (gc : Clock.Ghosts C) (plan : D) (i : I) (c : C) → gi.stopped i ≡ None → gi.left i < 2 ^ 56 → Course gi gc (record { plan = plan; intake = i; clock = c; taken = 0; ending = None; refused_memory = 0 })
course_make gi gc plan i c e b = record {
  given = λ x. omega arith;
  read = λ x. inl (omega arith);
  bounded = omega arith;
  ended = sym (ap ending_of e);
  goes = λ _. e;
  whole = λ _. tt;
  stop = λ _. tt;
  fault = tt;
}

pub same_later : {I C D : Type 0} (gi : Intake.Ghosts I) (gc : Clock.Ghosts C) (f : Outside I C D) → Later gi gc f f.intake f.clock f.taken
same_later gi gc f = record { more = omega arith; told = λ x. x; batches = λ x. refl; before = λ x. refl; ticks = λ y. y; readings = λ y. refl; made = λ y z. (z, refl) }

pub course_same : {I C D : Type 0} (gi : Intake.Ghosts I) (gc : Clock.Ghosts C) (f : Outside I C D) (r : ℕ) → Course gi gc f → Course gi gc (record f { refused_memory = r })
course_same gi gc f r h = record { given = h.given; read = h.read; bounded = h.bounded; ended = h.ended; goes = h.goes; whole = h.whole; stop = h.stop; fault = h.fault }

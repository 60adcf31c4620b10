-- The calls at the answerer, by transaction and item.
use Rattle.std.specs.Prelude.{◌≡◌, ℕ, ◌+◌, ◌≤◌, Bool, true, false, eqb, ◌&&◌, List, [], ◌∷◌, ◌++◌, length, get_or, IsTrue, Some}
use Rattle.std.specs.List.{AllByRecursion}
use Rattle.bt_demand.specs.Holding.{one_if}
use Rattle.bt_ledger.specs.Due.{open_parts}
use Rattle.bt_ledger.specs.Open.{Open}
use Rattle.bt_ledger.specs.Verdicts.{verdict_of, why_of}
use Rattle.bt_ports.specs.declared.outside.Answerer as Answerer
use Rattle.bt_ports.specs.declared.parts.AnswerCall.{AnswerCall}
use Rattle.bt_ports.specs.declared.parts.Cause.TheVariants.{NoMemory}
use Rattle.bt_ports.specs.declared.parts.Verdict.TheVariants.{Refused}
use Rattle.bt_sound.specs.Counting.{answer_with, counts_after}
use Rattle.bt_sound.specs.declared.counts.Counts.{Counts}

-- a call is for this item of this transaction
abbrev pub is_for : ℕ → ℕ → AnswerCall → Bool
is_for n i c = eqb c.number n && eqb c.item i

-- how many calls are
abbrev pub calls_for : ℕ → ℕ → List AnswerCall → ℕ
calls_for n i [] = 0
calls_for n i (c ∷ cs) = one_if (is_for n i c) + calls_for n i cs

-- each item of a transaction has one call where it is answered, and else none
abbrev pub Called : List AnswerCall → Open → Type 0
Called cs o = (i : ℕ) → calls_for o.number i cs ≡ one_if (get_or o.answered i false)

-- of each answered item all parts are met or lost
abbrev pub AnsweredSettled : Open → Type 0
AnsweredSettled o = (i : ℕ) → get_or o.answered i false ≡ true → open_parts i o.parts ≡ 0

-- a call for an item carries the verdict of the parts from the item, and the text that says why
pub record Says (o : Open) (c : AnswerCall) : Type 0 where
  pub answered : get_or o.answered c.item false ≡ true
  pub verdict : Some c.verdict ≡ verdict_of o c.item
  pub why : c.why ≡ why_of o c.item

-- or that there was no memory
abbrev pub PastSays : Bool → Open → AnswerCall → Type 0
PastSays true o c = (c.verdict ≡ Refused NoMemory) × (c.why ≡ [])
PastSays false o c = Says o c

-- a call that refuses this item for want of memory
pub record IsRefusal (n i : ℕ) (c : AnswerCall) : Type 0 where
  pub number : c.number ≡ n
  pub item : c.item ≡ i
  pub verdict : c.verdict ≡ Refused NoMemory
  pub why : c.why ≡ []

-- the calls refuse, one after another, the items from this one on
abbrev pub RefusalsFrom : ℕ → ℕ → List AnswerCall → Type 0
RefusalsFrom n i [] = Unit {0}
RefusalsFrom n i (c ∷ cs) = IsRefusal n i c × RefusalsFrom n (i + 1) cs

-- So many items of a transaction were refused for want of memory, one call for each in order: `added` are these calls. The
-- counts say so too. A call failed only where the answerer counted a fault.
pub record RefusedAll {A : Type 0} (g : Answerer.Ghosts A) (j k : A) (c d : Counts) (n items : ℕ) (added : List AnswerCall) : Type 0 where
  pub place : g.place k ≡ g.place j
  pub faults : g.faults j ≤ g.faults k
  pub fine : g.faults k ≡ 0 → AllByRecursion (λ x. x.failed ≡ false) added
  pub many : length added ≡ items
  pub each : RefusalsFrom n 0 added
  pub told : IsTrue (g.tells k) → IsTrue (g.tells j)
  pub calls : IsTrue (g.tells k) → g.calls k ≡ g.calls j ++ added
  pub counted : d ≡ counts_after added c

-- one item was refused so
pub record RefusedOne {A : Type 0} (g : Answerer.Ghosts A) (j k : A) (c d : Counts) (n i : ℕ) (call : AnswerCall) : Type 0 where
  pub place : g.place k ≡ g.place j
  pub faults : g.faults j ≤ g.faults k
  pub fine : g.faults k ≡ 0 → call.failed ≡ false
  pub is : IsRefusal n i call
  pub told : IsTrue (g.tells k) → IsTrue (g.tells j)
  pub calls : IsTrue (g.tells k) → g.calls k ≡ g.calls j ++ call ∷ []
  pub counted : d ≡ answer_with call.verdict call.failed c

-- What is true of a floor between any two moves.
use Rattle.std.specs.Prelude.{◌≡◌, ◌≢◌, ℕ, ◌+◌, ◌<◌, ◌≤◌, ◌^◌, true, false, eqb, ltb, leb, not, ◌&&◌, List, [], ◌∷◌, length, IsTrue}
use Rattle.std.specs.List.{AllByRecursion}
use Rattle.bt_demand.specs.Holding.{one_if}
use Rattle.bt_demand.specs.Untouched.{Untouched}
use Rattle.bt_demand.specs.declared.demand.State.TheVariants.{Untried}
use Rattle.bt_demand.specs.declared.derive.Derive as Derive
use Rattle.bt_ledger.specs.Due.{unanswered, AllSettled}
use Rattle.bt_ledger.specs.Ledger.{Ledger, slot_at, part_tree, number_in, moment_in, items_in, is_free, is_given, open_in}
use Rattle.bt_ledger.specs.Open.{tree_of}
use Rattle.bt_ledger.specs.declared.slot.Slot.{Slot}
use Rattle.bt_moves.specs.Moves.{is_out}
use Rattle.bt_ports.specs.declared.outside.Answerer as Answerer
use Rattle.bt_ports.specs.declared.outside.Clock as Clock
use Rattle.bt_ports.specs.declared.outside.Intake as Intake
use Rattle.bt_ports.specs.declared.outside.Sink as Sink
use Rattle.bt_ports.specs.declared.parts.AnswerCall.{AnswerCall}
use Rattle.bt_sound.specs.Answers.{AnsweredSettled, Called, Says, PastSays}
use Rattle.bt_sound.specs.Counting.{AnswersCounted, ReleasesSum}
use Rattle.bt_sound.specs.Course.{Course}
use Rattle.bt_sound.specs.Owned.{Owned}
use Rattle.bt_sound.specs.Records.{LeafTold, Told}
use Rattle.bt_sound.specs.Transactions.{Taken, Planned, Shaped, WasTaken}
use Rattle.bt_sound.specs.View.{FloorView, Past}

-- whether a slot is taken by that number, as a count
abbrev pub here : ℕ → Slot → ℕ
here n x = one_if (not (is_free x) && eqb (number_in x) n)

-- how many slots are
abbrev pub in_slots : ℕ → List Slot → ℕ
in_slots n [] = 0
in_slots n (x ∷ xs) = here n x + in_slots n xs

-- how many closed transactions have that number
abbrev pub in_past : ℕ → List Past → ℕ
in_past n [] = 0
in_past n (p ∷ ps) = one_if (eqb p.state.number n) + in_past n ps

-- a call says what the parts of its transaction say, be that open or closed
abbrev pub SaysTrue : Ledger → List Past → AnswerCall → Type 0
SaysTrue l closed c =
    ((s : ℕ) → is_given (slot_at l s) ≡ true → number_in (slot_at l s) ≡ c.number → Says (open_in (slot_at l s)) c)
    × AllByRecursion (λ p. p.state.number ≡ c.number → PastSays p.memory p.state c) closed

-- no open transaction, and no closed one that had parts, has that number
abbrev pub Unknown : Ledger → List Past → ℕ → Type 0
Unknown l closed n = ((s : ℕ) → is_given (slot_at l s) ≡ true → number_in (slot_at l s) ≢ n) × AllByRecursion (λ q. q.memory ≡ false → q.state.number ≢ n) closed

-- A floor is sound beside the transactions that are closed.
pub record Sound {I K A C D : Type 0} (gi : Intake.Ghosts I) (gk : Sink.Ghosts K) (ga : Answerer.Ghosts A) (gc : Clock.Ghosts C) (gd : Derive.Ghosts D) (f : FloorView I K A C D) (closed : List Past) : Type 0 where
  -- the taken transactions are 1 to g: each is in one slot or closed once, and no other is
  pub placed : (n : ℕ) → in_slots n f.ledger.slots + in_past n closed ≡ one_if (ltb 0 n && leb n f.outside.taken)
  -- the intake and the clock went so
  pub course : Course gi gc f.outside
  -- a transaction that is out is one of the run
  pub expected : (s : ℕ) → is_out (slot_at f.ledger s) ≡ true → Taken gi gc f.outside (number_in (slot_at f.ledger s)) (moment_in (slot_at f.ledger s)) (items_in (slot_at f.ledger s))
  -- an open one is too, and its origins and trees are the plan's but for states and stages
  pub planned : (s : ℕ) → is_given (slot_at f.ledger s) ≡ true → Planned gi gc gd f.outside (open_in (slot_at f.ledger s))
  pub shaped : (s : ℕ) → is_given (slot_at f.ledger s) ≡ true → Shaped gd f.outside (open_in (slot_at f.ledger s))
  -- so was each that is closed, and all its items are answered
  pub past_taken : AllByRecursion (λ p. WasTaken gi gc gd f.outside p) closed
  pub past_answered : AllByRecursion (λ p. unanswered p.state.answered ≡ 0) closed
  -- of an answered item all parts are met or lost, and so are all parts of a closed transaction
  pub done : (s : ℕ) → is_given (slot_at f.ledger s) ≡ true → AnsweredSettled (open_in (slot_at f.ledger s))
  pub past_done : AllByRecursion (λ p. AllSettled p.state.parts) closed
  -- what isn't asked is untouched
  pub untouched : (s p : ℕ) → Untouched (part_tree f.ledger s p)
  pub past_untouched : AllByRecursion (λ q. (p : ℕ) → Untouched (tree_of q.state.parts p)) closed
  -- each leaf has the records of its state at its own sink, and no list has a record of another transaction
  pub told : (d : K) (s : ℕ) → is_given (slot_at f.ledger s) ≡ true → Told gk f.sinks d (open_in (slot_at f.ledger s))
  pub past_told : (d : K) → AllByRecursion (λ p. Told gk f.sinks d p.state) closed
  pub unwritten : (d : K) (n p k l : ℕ) → k < length f.sinks → Unknown f.ledger closed n → LeafTold gk f.sinks d n p k l Untried
  -- each record is one of a leaf of the plan: its sink, its bytes, and a batch number that fits the hold over it
  pub owned : (d : K) → Owned gk f.releases f.ledger closed f.sinks d
  -- each item has one call where it is answered, else none; a call says what the parts say; all calls are of these
  pub called : IsTrue (ga.tells f.answerer) → (s : ℕ) → is_free (slot_at f.ledger s) ≡ false → Called (ga.calls f.answerer) (open_in (slot_at f.ledger s))
  pub past_called : IsTrue (ga.tells f.answerer) → AllByRecursion (λ p. Called (ga.calls f.answerer) p.state) closed
  pub says : IsTrue (ga.tells f.answerer) → AllByRecursion (λ c. SaysTrue f.ledger closed c) (ga.calls f.answerer)
  pub no_other : IsTrue (ga.tells f.answerer) → AllByRecursion (λ c. (1 ≤ c.number) × (c.number ≤ f.outside.taken)) (ga.calls f.answerer)
  -- a call failed only where the answerer counted a fault
  pub answer_faults : IsTrue (ga.tells f.answerer) → ga.faults f.answerer ≡ 0 → AllByRecursion (λ c. c.failed ≡ false) (ga.calls f.answerer)
  -- the counts are the numbers of answers and of releases
  pub counted : IsTrue (ga.tells f.answerer) → AnswersCounted (ga.calls f.answerer) f.counts
  pub summed : ReleasesSum f.releases f.counts
  pub refusals : f.outside.refused_memory ≡ f.counts.refused_memory
  -- holds and sinks are the plan's, and the pool has at least as many entries as a part may have holds
  pub policies : f.ledger.policies ≡ gd.policies f.outside.plan
  pub sinks : length f.sinks ≡ gd.sinks f.outside.plan
  pub releases : length f.releases ≡ length f.ledger.policies
  pub few : length f.releases < 2 ^ 32
  pub wide : 64 ≤ f.ledger.entries
  pub entries : f.entries ≡ f.ledger.entries

-- it is, beside some list of them
abbrev pub IsSound : {I K A C D : Type 0} → Intake.Ghosts I → Sink.Ghosts K → Answerer.Ghosts A → Clock.Ghosts C → Derive.Ghosts D → FloorView I K A C D → Type 0
IsSound gi gk ga gc gd f = (closed : List Past) × Sound gi gk ga gc gd f closed

-- What became of the items of a run, and the lists that follow from it.
use Rattle.std.specs.Prelude.{ℕ, ◌+◌, List, [], ◌∷◌, ◌++◌, map, filter, not, Bool, false, if◌then◌else◌}
use Rattle.bt_ports.specs.declared.parts.Item.{Item}
use Rattle.bt_ports.specs.declared.parts.Record.{Record}
use Rattle.bt_ports.specs.declared.parts.AnswerCall.{AnswerCall}
use Rattle.bt_ports.specs.declared.parts.Verdict.{Verdict}
use Rattle.bt_ports.specs.declared.parts.Verdict.TheVariants.{Ack, Refused}
use Rattle.bt_ports.specs.declared.parts.Cause.TheVariants.{SinkFault}

-- a thing with the number of its transaction and its own number there
pub record Numbered (T : Type 0) : Type 0 where
  pub txn : ℕ
  pub number : ℕ
  pub value : T

-- the things of transaction n, from number i on
abbrev pub numbered_items : {T : Type 0} → ℕ → ℕ → List T → List (Numbered T)
numbered_items n i [] = []
numbered_items n i (x ∷ rest) = record { txn = n; number = i; value = x } ∷ numbered_items n (i + 1) rest

-- the things of the transactions from number n on, in order. In each they are numbered from 0
abbrev pub numbered_from : {T : Type 0} → ℕ → List (List T) → List (Numbered T)
numbered_from n [] = []
numbered_from n (txn ∷ rest) = numbered_items n 0 txn ++ numbered_from (n + 1) rest

-- the things of all transactions, which are numbered from 1
abbrev pub numbered : {T : Type 0} → List (List T) → List (Numbered T)
numbered txns = numbered_from 1 txns

-- an item that was delivered, whether the sink accepted its record, and whether its answer failed.
-- A history is the list of the delivered transactions, each the list of its items
pub record Settled : Type 0 where
  pub item : Item
  pub accepted : Bool
  pub answer_failed : Bool

-- the transactions of a history as they were taken
abbrev pub items_of : List (List Settled) → List (List Item)
items_of history = map (λ txn. map (λ (s : Settled). s.item) txn) history

-- an item of a history as it was taken
abbrev pub item_of : Numbered Settled → Numbered Item
item_of p = record { txn = p.txn; number = p.number; value = p.value.item }

abbrev pub was_accepted : Numbered Settled → Bool
was_accepted p = p.value.accepted

abbrev pub was_refused : Numbered Settled → Bool
was_refused p = not p.value.accepted

abbrev pub has_failed_answer : Numbered Settled → Bool
has_failed_answer p = p.value.answer_failed

-- an item's record: it is one part, with its own number, under leaf 0 and in batch 0
abbrev pub record_of : Numbered Item → Record
record_of p = record { txn = p.txn; part = p.number; leaf = 0; batch = 0; bytes = p.value.bytes }

-- an item's call at the answerer that carries this verdict and no text
abbrev pub answer_with : Verdict → Bool → Numbered Item → AnswerCall
answer_with verdict failed p = record { number = p.txn; item = p.number; verdict = verdict; why = []; failed = failed }

-- an item is acknowledged where its record was accepted, and refused for the sink's fault where it was refused
abbrev pub verdict_of : Numbered Settled → Verdict
verdict_of p = (if p.value.accepted then Ack else Refused (SinkFault 0 p.number))

-- the records that a sink accepted and those that it refused
abbrev pub accepted_records : List (Numbered Settled) → List Record
accepted_records ps = map (λ p. record_of (item_of p)) (filter was_accepted ps)

abbrev pub refused_records : List (Numbered Settled) → List Record
refused_records ps = map (λ p. record_of (item_of p)) (filter was_refused ps)

-- the calls at the answerer, one for each item
abbrev pub answers : List (Numbered Settled) → List AnswerCall
answers ps = map (λ p. answer_with (verdict_of p) p.value.answer_failed (item_of p)) ps

-- one record for each item of these transactions, in order
abbrev pub records_of : List (List Item) → List Record
records_of txns = map record_of (numbered txns)

-- one acknowledgement for each item of these transactions, in order, none of which failed
abbrev pub acks_of : List (List Item) → List AnswerCall
acks_of txns = map (answer_with Ack false) (numbered txns)

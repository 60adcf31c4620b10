-- What the objects in memory show. Each has the numbers of the calls that fail, counted from 1, and how many calls were made.
use Rattle.std.specs.Prelude.{ℕ, Bool, List, nat_eq}
use Rattle.std.specs.List.{list_any}
use Rattle.bt_ports.specs.declared.parts.AnswerCall.{AnswerCall}
use Rattle.bt_ports.specs.declared.parts.Record.{Record}

-- a source: its bytes, how many of them were taken, and how many a read gives at most
pub record SourceView : Type 0 where
  pub faults : ℕ
  pub place : ℕ
  pub bytes : List ℕ
  pub taken : ℕ
  pub piece : ℕ
  pub failing : List ℕ
  pub made : ℕ

-- a sink: the records that it accepted and those that it refused
pub record SinkView : Type 0 where
  pub faults : ℕ
  pub place : ℕ
  pub tells : Bool
  pub accepted : List Record
  pub refused : List Record
  pub failing : List ℕ
  pub made : ℕ

-- an answerer: the calls at it
pub record AnswererView : Type 0 where
  pub faults : ℕ
  pub place : ℕ
  pub tells : Bool
  pub answers : List AnswerCall
  pub failing : List ℕ
  pub made : ℕ

-- a clock: its readings, and how many were made
pub record ClockView : Type 0 where
  pub readings : List ℕ
  pub made : ℕ

-- a printer: its bytes
pub record PrinterView : Type 0 where
  pub faults : ℕ
  pub place : ℕ
  pub tells : Bool
  pub bytes : List ℕ
  pub failing : List ℕ
  pub made : ℕ

-- whether a list of numbers of calls names call n
abbrev pub is_named : List ℕ → ℕ → Bool
is_named calls n = list_any (λ call. nat_eq call n) calls

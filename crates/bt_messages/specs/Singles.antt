-- Messages as batches of their own: `try`, `for_each` and `catch` by one function.
use Rattle.std.specs.Prelude.{ℕ, List, Option, Some}
use Rattle.bt_value.specs.declared.message.Msg.{Msg}
use Rattle.bt_messages.specs.Steps.{Step, alone, tried, caught}
use Rattle.bt_messages.specs.declared.steps.Single.{Single}
use Rattle.bt_messages.specs.declared.steps.Single.TheVariants.{Try, ForEach, Catch}

abbrev pub gives : Single → List Step → ℕ → Msg → Option Msg
gives Try fs moment x = tried fs moment (Some x)
gives ForEach fs moment x = alone fs moment x
gives Catch fs moment x = caught fs moment x

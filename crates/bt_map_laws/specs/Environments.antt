-- Environments of maps, and what of them a query asks for.
use Rattle.std.specs.Prelude.{◌≡◌, ℕ, List, []}
use Rattle.std.specs.List.{Contains}
use Rattle.bt_value.specs.declared.val.Val.{Val}
use Rattle.bt_value.specs.declared.val.Val.TheVariants as v
use Rattle.bt_value.specs.declared.message.Msg.{Msg}
use Rattle.bt_value.specs.declared.message.Out.{Out}
use Rattle.bt_value.specs.declared.message.Out.TheVariants.{Value}
use Rattle.bt_tree.specs.declared.tree.Query.{Query}
use Rattle.bt_tree.specs.declared.tree.Word.{Word}
use Rattle.bt_findings.specs.Found.{findings}
use Rattle.bt_findings.specs.declared.finding.Finding.TheVariants as found
use Rattle.bt_meaning.specs.Contexts.{Where}
use Rattle.bt_meaning.specs.declared.message.Spot.{Spot}

-- what the map of each name gives of a value
abbrev pub Environment : Type 0
Environment = List ℕ → Val → Out

-- the same place with these maps
abbrev pub with_maps : Environment → Where → Where
with_maps f c = record c { apply = f }

-- where the body of a map begins to run on a value: it has no named context, no variables and no root
abbrev pub inside : Environment → Msg → Spot → Val → Where
inside f msg spot x = record { this = Value x; names = []; vars = []; root = Value v.Null; msg = msg; spot = spot; apply = f }

-- each call in a query has arguments that it takes, so that `apply` is only given literal names
abbrev pub HasRightArguments : Query → Type 0
HasRightArguments q = (at : ℕ) → Contains (findings q) (found.WrongArguments at) → ⊥

-- two environments agree on each map that a query applies
abbrev pub AgreeFor : Query → Environment → Environment → Type 0
AgreeFor q f g = (w : Word) → Contains (findings q) (found.Apply w) → (x : Val) → f w.text x ≡ g w.text x

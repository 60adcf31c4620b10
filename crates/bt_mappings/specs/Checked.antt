-- What a check says: it passes, it doesn't, or it fails with a text.
use Rattle.std.specs.Prelude.{ℕ, Bool, List, Result, Ok, Err}
use Rattle.bt_value.specs.declared.message.Msg.{Msg}
use Rattle.bt_value.specs.declared.message.Out.{Out}
use Rattle.bt_value.specs.declared.message.Out.TheVariants.{Value, Failed, Deleted, Nothing}
use Rattle.bt_tree.specs.declared.tree.Mapping.{Mapping}
use Rattle.bt_meaning.specs.Mapped.{query_in, top}
use Rattle.bt_meaning.specs.Outcomes.{passes}
use Rattle.bt_meaning.specs.declared.message.Spot.{Spot}

-- what an outcome says: only the value true passes
abbrev pub answer : Out → Result Bool (List ℕ)
answer (Failed t) = Err t
answer (Value x) = Ok (passes (Value x))
answer Deleted = Ok (passes Deleted)
answer Nothing = Ok (passes Nothing)

-- what a mapping that is one query says at its top
abbrev pub checked : Mapping → Msg → Spot → Result Bool (List ℕ)
checked m msg spot = answer (query_in m (top m msg spot))

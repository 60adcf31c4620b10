-- A context as contracts see it.
use denote.Ref.{Bor}
use Rattle.std.specs.Prelude.{[], ◌∷◌, Option, Some, None}
use Rattle.bt_value.specs.declared.val.Val.TheVariants as v
use Rattle.bt_value.specs.declared.message.Msg.{Msg}
use Rattle.bt_value.specs.declared.message.Out.{Out}
use Rattle.bt_value.specs.declared.message.Out.TheVariants.{Value, Failed}
use Rattle.bt_meaning.specs.Contexts.{Where, Pairs}
use Rattle.bt_meaning.specs.Contents.{this_of}
use Rattle.bt_meaning.specs.Maps.{applied}
use Rattle.bt_contexts.specs.declared.context.Names.{Names, fold-Names}
use Rattle.bt_contexts.specs.declared.context.Names.TheOpen.{Names-F}
use Rattle.bt_contexts.specs.declared.context.Read.{Read}
use Rattle.bt_contexts.specs.declared.context.Read.TheVariants as read
use Rattle.bt_contexts.specs.declared.context.This.{This}
use Rattle.bt_contexts.specs.declared.context.This.TheVariants as this
use Rattle.bt_contexts.specs.declared.context.Got.{Got}
use Rattle.bt_contexts.specs.declared.context.Got.TheVariants as got
use Rattle.bt_contexts.specs.declared.context.Ctx.{Ctx}

-- a name with its value, before those that were in force
abbrev pub names_step : Names-F Pairs → Pairs
names_step (Names-F.First name x) = (name.now, x.now) ∷ []
names_step (Names-F.More name x more) = (name.now, x.now) ∷ more.now

-- names as pairs, the last first
abbrev pub names_seen : Names → Pairs
names_seen = fold-Names Pairs names_step

-- none where no context is named
abbrev pub all_names : Option (Bor Names) → Pairs
all_names None = []
all_names (Some n) = names_seen n.now

-- what a document that was read gives
abbrev pub read_seen : Read → Out
read_seen (read.Known x) = Value x.now
read_seen (read.Failed t) = Failed t.now

-- what `this` gives
abbrev pub this_seen : This → Msg → Out
this_seen this.Content msg = this_of msg.content
this_seen (this.Known x) msg = Value x.now
this_seen (this.Failed t) msg = Failed t.now

-- what `root` gives
abbrev pub root_seen : Option Read → Out
root_seen None = Value v.Null
root_seen (Some r) = read_seen r

-- what a query gave, borrowed or not
abbrev pub out_of : Got → Out
out_of (got.Known x) = Value x.now
out_of (got.Made o) = o

-- the variables, of which there are none at the top
abbrev pub vars_seen : Option (Bor Pairs) → Pairs
vars_seen None = []
vars_seen (Some m) = m.now

-- the context of the definitions
abbrev pub seen : Ctx → Where
seen c = record { this = this_seen c.this c.msg.now; names = all_names c.names; vars = vars_seen c.vars; root = root_seen c.root; msg = c.msg.now; spot = c.spot; apply = applied c.left c.maps.now c.msg.now c.spot }

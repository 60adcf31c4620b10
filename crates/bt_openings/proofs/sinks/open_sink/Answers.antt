use Rattle.std.proofs.Common.{◌++◌, ◌∷◌, [], ◌∙◌, ap}
use Rattle.std.proofs.Common.{Some}
use Rattle.bt_commands.specs.Calls.{asked}
use Rattle.bt_ports.specs.declared.parts.What.TheVariants.{Sink}
use Rattle.bt_openings.proofs.Steps.{opens_failed, opens_wanted}
use Rattle.bt_openings.proofs.sinks.open_sink.Goals as goal

pub returns-in-Failed-clause-opens : goal.returns-in-Failed-clause-opens
returns-in-Failed-clause-opens g c =
    let opened = c.open_sink.ensures in
    let failed = c.in-Failed.ensures in
    let said = c.err.ensures in
    opens_failed g.W.World (asked Sink (Some c.args.name.now) (Some c.args.end.now)) c.args.world.now c.open_sink.new.self c.err.new.self opened.told opened.others.0 opened.others.1 opened.counted failed.failed failed.asks
    (record { told = said.told; counts = said.steady; only = said.same; said = λ t. said.adds t ∙ ap (λ l. (g.W.World.tale c.open_sink.new.self).lines ++ l ∷ []) (c.as_bytes.ensures.value ∙ c.in-Ok.ensures) })

pub returns-clause-opens : goal.returns-clause-opens
returns-clause-opens g c =
    let opened = c.open_sink.ensures in
    let wanted = c.in-NoMemory.ensures in
    opens_wanted g.W.World (asked Sink (Some c.args.name.now) (Some c.args.end.now) ∷ []) c.without_memory-in-NoMemory.result c.args.world.now c.open_sink.new.self c.without_memory-in-NoMemory.new.world c.without_memory-in-NoMemory.ensures.stop opened.told opened.others.0 opened.others.1 opened.counted wanted.asks c.without_memory-in-NoMemory.ensures.says

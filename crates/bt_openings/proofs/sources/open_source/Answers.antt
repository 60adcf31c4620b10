use Rattle.std.proofs.Common.{◌++◌, ◌∷◌, [], ◌∙◌, ap}
use Rattle.bt_openings.specs.Plan.{opening_of}
use Rattle.bt_openings.proofs.Steps.{opens_failed, opens_wanted}
use Rattle.bt_openings.proofs.sources.open_source.Goals as goal

pub returns-in-Failed-clause-opens : goal.returns-in-Failed-clause-opens
returns-in-Failed-clause-opens g c =
    let opened = c.open_source.ensures in
    let failed = c.in-Failed.ensures in
    let said = c.err.ensures in
    opens_failed g.W.World (opening_of c.args.name.now) c.args.world.now c.open_source.new.self c.err.new.self opened.told opened.others.0 opened.others.1 opened.counted failed.failed failed.asks
    (record { told = said.told; counts = said.steady; only = said.same; said = λ t. said.adds t ∙ ap (λ l. (g.W.World.tale c.open_source.new.self).lines ++ l ∷ []) (c.as_bytes.ensures.value ∙ c.in-Ok.ensures) })

pub returns-clause-opens : goal.returns-clause-opens
returns-clause-opens g c =
    let opened = c.open_source.ensures in
    let wanted = c.in-NoMemory.ensures in
    opens_wanted g.W.World (opening_of c.args.name.now ∷ []) c.without_memory-in-NoMemory.result c.args.world.now c.open_source.new.self c.without_memory-in-NoMemory.new.world c.without_memory-in-NoMemory.ensures.stop opened.told opened.others.0 opened.others.1 opened.counted wanted.asks c.without_memory-in-NoMemory.ensures.says

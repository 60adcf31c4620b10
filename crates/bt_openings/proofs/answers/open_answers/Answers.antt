use Rattle.std.proofs.Common.{◌++◌, ◌∷◌, [], ◌∙◌, ap}
use Rattle.std.proofs.Common.{List, ℕ, Bor, option_map}
use Rattle.bt_openings.specs.Plan.{answers_opening}
use Rattle.bt_openings.proofs.Steps.{opens_failed, opens_wanted}
use Rattle.bt_openings.proofs.answers.open_answers.Goals as goal

pub returns-in-Failed-clause-opens : goal.returns-in-Failed-clause-opens
returns-in-Failed-clause-opens g c =
    let opened = c.open_answers.ensures in
    let failed = c.in-Failed.ensures in
    let said = c.err.ensures in
    opens_failed g.W.World (answers_opening (option_map {T = Bor (List ℕ)} (λ p. p.now) c.args.path)) c.args.world.now c.open_answers.new.self c.err.new.self opened.told opened.others.0 opened.others.1 opened.counted failed.failed failed.asks
    (record { told = said.told; counts = said.steady; only = said.same; said = λ t. said.adds t ∙ ap (λ l. (g.W.World.tale c.open_answers.new.self).lines ++ l ∷ []) (c.as_bytes.ensures.value ∙ c.in-Ok.ensures) })

pub returns-clause-opens : goal.returns-clause-opens
returns-clause-opens g c =
    let opened = c.open_answers.ensures in
    let wanted = c.in-NoMemory.ensures in
    opens_wanted g.W.World (answers_opening (option_map {T = Bor (List ℕ)} (λ p. p.now) c.args.path) ∷ []) c.without_memory-in-NoMemory.result c.args.world.now c.open_answers.new.self c.without_memory-in-NoMemory.new.world c.without_memory-in-NoMemory.ensures.stop opened.told opened.others.0 opened.others.1 opened.counted wanted.asks c.without_memory-in-NoMemory.ensures.says

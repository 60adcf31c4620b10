use Rattle.std.proofs.Common.{◌+◌, ◌∷◌, [], ◌∙◌, ℕ, List, Bor, option_map, length, arith}
use Rattle.bt_openings.specs.Plan.{answers_opening, sink_openings, source_openings}
use Rattle.bt_openings.proofs.Rows.{all_length, made_files, made_length, sources_at}
use Rattle.bt_openings.proofs.Steps.{opens_early, opens_stopped, opens_then}
use Rattle.bt_openings.proofs.opening.open_run.Goals as goal

pub returns-in-Err-clause-opens : goal.returns-in-Err-clause-opens
returns-in-Err-clause-opens g c =
    let sinks = sink_openings c.args.names.now c.args.ends.now in
    let answers = answers_opening (option_map {T = Bor (List ℕ)} (λ p. p.now) c.args.answers) in
    let sources = source_openings (option_map {T = Bor (List (List ℕ))} (λ f. f.now) c.args.files) in
    opens_early g.W.World sinks (answers ∷ sources) c.in-Err.stop c.args.world.now c.open_sinks.new.world c.in-Err.ensures.opens

pub returns-in-Err-open_answers-clause-opens : goal.returns-in-Err-open_answers-clause-opens
returns-in-Err-open_answers-clause-opens g c =
    let sinks = sink_openings c.args.names.now c.args.ends.now in
    let answers = answers_opening (option_map {T = Bor (List ℕ)} (λ p. p.now) c.args.answers) in
    let sources = source_openings (option_map {T = Bor (List (List ℕ))} (λ f. f.now) c.args.files) in
    opens_stopped g.W.World {U = ℕ} sinks (answers ∷ sources) c.in-Ok.sinks c.in-Err-open_answers.stop c.args.world.now c.open_sinks.new.world c.open_answers.new.world c.in-Ok.ensures.opens
    (opens_early g.W.World (answers ∷ []) sources c.in-Err-open_answers.stop c.open_sinks.new.world c.open_answers.new.world c.in-Err-open_answers.ensures.opens)

pub returns-in-Err-open_sources-clause-opens : goal.returns-in-Err-open_sources-clause-opens
returns-in-Err-open_sources-clause-opens g c =
    let sinks = sink_openings c.args.names.now c.args.ends.now in
    let answers = answers_opening (option_map {T = Bor (List ℕ)} (λ p. p.now) c.args.answers) in
    let sources = source_openings (option_map {T = Bor (List (List ℕ))} (λ f. f.now) c.args.files) in
    opens_stopped g.W.World {U = ℕ} sinks (answers ∷ sources) c.in-Ok.sinks c.in-Err-open_sources.stop c.args.world.now c.open_sinks.new.world c.open_sources.new.world c.in-Ok.ensures.opens
    (opens_stopped g.W.World (answers ∷ []) sources c.in-Ok-open_answers.answerer c.in-Err-open_sources.stop c.open_sinks.new.world c.open_answers.new.world c.open_sources.new.world c.in-Ok-open_answers.ensures.opens c.in-Err-open_sources.ensures.opens)

pub returns-in-Ok-open_sources-clause-opens : goal.returns-in-Ok-open_sources-clause-opens
returns-in-Ok-open_sources-clause-opens g c =
    let sinks = sink_openings c.args.names.now c.args.ends.now in
    let answers = answers_opening (option_map {T = Bor (List ℕ)} (λ p. p.now) c.args.answers) in
    let sources = source_openings (option_map {T = Bor (List (List ℕ))} (λ f. f.now) c.args.files) in
    opens_then g.W.World {U = ℕ} sinks (answers ∷ sources) c.in-Ok.sinks 0 _ c.args.world.now c.open_sinks.new.world c.open_sources.new.world c.in-Ok.ensures.opens
    (opens_then g.W.World (answers ∷ []) sources c.in-Ok-open_answers.answerer c.in-Ok-open_sources.sources 0 c.open_sinks.new.world c.open_answers.new.world c.open_sources.new.world c.in-Ok-open_answers.ensures.opens c.in-Ok-open_sources.ensures.opens)

pub returns-in-Ok-open_sources-clause-are : goal.returns-in-Ok-open_sources-clause-are
returns-in-Ok-open_sources-clause-are g c = λ t.
    let a = g.W.World.tale c.args.world.now in
    let b = g.W.World.tale c.open_sinks.new.world in
    let d = g.W.World.tale c.open_answers.new.world in
    let sinks = sink_openings c.args.names.now c.args.ends.now in
    let answers = answers_opening (option_map {T = Bor (List ℕ)} (λ p. p.now) c.args.answers) in
    let files = option_map {T = Bor (List (List ℕ))} (λ f. f.now) c.args.files in
    let t2 = c.in-Ok-open_sources.ensures.opens.told.0 t in
    let t1 = c.in-Ok-open_answers.ensures.opens.told.0 t2 in
    let first = c.in-Ok.ensures.opens.tells t1 in
    let second = c.in-Ok-open_answers.ensures.opens.tells t2 in
    let many = all_length c.args.names.now c.args.ends.now c.requires in
    let before = made_length sinks a b first in
    let after = made_length (answers ∷ []) b d second in
    let placed = c.in-Ok-open_answers.ensures.placed t2 in
    record {
      sinks = c.in-Ok.ensures.placed t1;
      answerer = omega arith;
      sources = sources_at g.W.S.Source (length d.calls + 1) (length a.calls + length c.args.names.now + 2) d a files c.in-Ok-open_sources.sources.list (omega arith)
          (c.open_answers.ensures.stdin t2 ∙ c.open_sinks.ensures.stdin t1) (made_files (answers ∷ []) b d second ∙ made_files sinks a b first) (c.in-Ok-open_sources.ensures.are t);
    }

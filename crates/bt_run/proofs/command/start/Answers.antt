use Rattle.std.proofs.Common.{[], ℕ, List, option_map, Bor, refl, ap, ◌∙◌, arith}
use Rattle.std.proofs.lemmas.Result.{err_from_is_err_and}
use Rattle.bt_commands.specs.Calls.{source_opening}
use Rattle.bt_run.specs.Inside.{Reached}
use Rattle.bt_config_file.specs.Reading.{config_reading}
use Rattle.bt_run.specs.Plan.{plan, sink_opening, answers_opening}
use Rattle.bt_run.proofs.Plans.{reached-first, reached-then, reached-length, starts-halted, starts-unread, starts-out_of_memory, starts-ready, form-behind}
use Rattle.bt_run.proofs.Tales.{clock-then}
use Rattle.bt_run.proofs.command.start.Given.{Over}
use Rattle.bt_run.proofs.command.start.Goals as goal
use Rattle.bt_run.proofs.command.start.Goals.{In_ok-read_config, In_ok-sink, In_ok-answerer, In_ok-source}

-- the calls that were answered, one behind the other
read : (g : Over) (c : In_ok-read_config g) → Reached g.W.World 1 (plan c.args.config.now (option_map {T = Bor (List ℕ)} (λ p. p.now) c.args.answers)) (g.W.World.tale c.args.world.now).stdin c.args.world.now c.read_config.new.world
read g c = reached-first g.W.World c.args.config.now _ _ (config_reading c.args.config.now) _ _ _ refl c.in_ok-read_config.ensures.makes

sink : (g : Over) (c : In_ok-sink g) → Reached g.W.World 2 (plan c.args.config.now (option_map {T = Bor (List ℕ)} (λ p. p.now) c.args.answers)) (g.W.World.tale c.read_config.new.world).stdin c.args.world.now c.open_sink.new.world
sink g c = reached-then g.W.World c.args.config.now _ 1 _ sink_opening _ _ _ _ _ refl (reached-first g.W.World c.args.config.now _ _ (config_reading c.args.config.now) _ _ _ refl c.in_ok-read_config.ensures.makes) c.in_ok-sink.ensures.makes

answered : (g : Over) (c : In_ok-answerer g) → Reached g.W.World 3 (plan c.args.config.now (option_map {T = Bor (List ℕ)} (λ p. p.now) c.args.answers)) (g.W.World.tale c.open_sink.new.world).stdin c.args.world.now c.open_answers.new.world
answered g c = reached-then g.W.World c.args.config.now _ 2 _ (answers_opening (option_map {T = Bor (List ℕ)} (λ p. p.now) c.args.answers)) _ _ _ _ _ refl (reached-then g.W.World c.args.config.now _ 1 _ sink_opening _ _ _ _ _ refl (reached-first g.W.World c.args.config.now _ _ (config_reading c.args.config.now) _ _ _ refl c.in_ok-read_config.ensures.makes) c.in_ok-sink.ensures.makes) c.in_ok-answerer.ensures.makes

all : (g : Over) (c : In_ok-source g) → Reached g.W.World 4 (plan c.args.config.now (option_map {T = Bor (List ℕ)} (λ p. p.now) c.args.answers)) [] c.args.world.now c.open_source.new.world
all g c = reached-then g.W.World c.args.config.now _ 3 _ source_opening _ _ _ _ _ refl (reached-then g.W.World c.args.config.now _ 2 _ (answers_opening (option_map {T = Bor (List ℕ)} (λ p. p.now) c.args.answers)) _ _ _ _ _ refl (reached-then g.W.World c.args.config.now _ 1 _ sink_opening _ _ _ _ _ refl (reached-first g.W.World c.args.config.now _ _ (config_reading c.args.config.now) _ _ _ refl c.in_ok-read_config.ensures.makes) c.in_ok-sink.ensures.makes) c.in_ok-answerer.ensures.makes) c.in_ok-source.ensures.makes

pub returns-in_err-read_config-clause-starts : goal.returns-in_err-read_config-clause-starts
returns-in_err-read_config-clause-starts g c =
    let p = err_from_is_err_and c.from_residual.result c.from_residual.ensures.1 in
    rw (p.1, p.2) (starts-unread g.W.World c.args.config.now _ (config_reading c.args.config.now) _ _ _ _ refl c.in_err-read_config.ensures.makes c.in_err-read_config.ensures.form)

pub returns-in_err-sink-clause-starts : goal.returns-in_err-sink-clause-starts
returns-in_err-sink-clause-starts g c =
    let p = err_from_is_err_and c.from_residual-in_err-sink.result c.from_residual-in_err-sink.ensures.1 in
    let made = c.in_err-sink.ensures.makes in
    rw (p.1, p.2)
    (starts-halted g.W.World c.args.config.now _ 1 sink_opening _ _ _ _ _ _ refl (read g (goal.at.returns-in_err-sink-clause-starts g c).In_ok-read_config) made
    (λ t. form-behind 0 sink_opening _ _ _ _ (made.tells t) (c.in_ok-read_config.ensures.form (made.told.0 t))))

pub returns-in_err-answerer-clause-starts : goal.returns-in_err-answerer-clause-starts
returns-in_err-answerer-clause-starts g c =
    let p = err_from_is_err_and c.from_residual-in_err-answerer.result c.from_residual-in_err-answerer.ensures.1 in
    let made = c.in_err-answerer.ensures.makes in
    rw (p.1, p.2)
    (starts-halted g.W.World c.args.config.now _ 2 (answers_opening (option_map {T = Bor (List ℕ)} (λ p. p.now) c.args.answers)) _ _ _ _ _ _ refl (sink g (goal.at.returns-in_err-answerer-clause-starts g c).In_ok-sink) made
    (λ t. form-behind 1 (answers_opening (option_map {T = Bor (List ℕ)} (λ p. p.now) c.args.answers)) _ _ _ _ (made.tells t) (c.in_ok-read_config.ensures.form (c.in_ok-sink.ensures.makes.told.0 (made.told.0 t)))))

pub returns-in_err-source-clause-starts : goal.returns-in_err-source-clause-starts
returns-in_err-source-clause-starts g c =
    let p = err_from_is_err_and c.from_residual-in_err-source.result c.from_residual-in_err-source.ensures.1 in
    let made = c.in_err-source.ensures.makes in
    rw (p.1, p.2)
    (starts-halted g.W.World c.args.config.now _ 3 source_opening _ _ _ _ _ _ refl (answered g (goal.at.returns-in_err-source-clause-starts g c).In_ok-answerer) made
    (λ t. form-behind 2 source_opening _ _ _ _ (made.tells t) (c.in_ok-read_config.ensures.form (c.in_ok-sink.ensures.makes.told.0 (c.in_ok-answerer.ensures.makes.told.0 (made.told.0 t))))))

pub returns-in-Err-clause-starts : goal.returns-in-Err-clause-starts
returns-in-Err-clause-starts g c =
    let clock = c.take_clock-clock.ensures in
    starts-out_of_memory g.W.World c.args.config.now _ _ _ _ _ _ _ c.without_memory.ensures.halt (all g (goal.at.returns-in-Err-clause-starts g c).In_ok-source) clock.told clock.steady clock.takes c.without_memory.ensures.says

pub returns-in-Ok-clause-starts : goal.returns-in-Ok-clause-starts
returns-in-Ok-clause-starts g c =
    let clock = c.take_clock-clock.ensures in
    starts-ready g.W.World c.args.config.now _ _ _ _ _ _ (all g (goal.at.returns-in-Ok-clause-starts g c).In_ok-source) clock.told clock.steady clock.takes

pub returns-in-Ok-clause-started : goal.returns-in-Ok-clause-started
returns-in-Ok-clause-started g c = λ t.
    let at = goal.at.returns-in-Ok-clause-started g c in
    let clock = c.take_clock-clock.ensures in
    let first = read g at.In_ok-read_config in
    let second = sink g at.In_ok-sink in
    let third = answered g at.In_ok-answerer in
    let fourth = all g at.In_ok-source in
    let t4 = clock.told.0 t in
    let t3 = c.in_ok-source.ensures.makes.told.0 t4 in
    let t2 = c.in_ok-answerer.ensures.makes.told.0 t3 in
    let t1 = c.in_ok-sink.ensures.makes.told.0 t2 in
    record {
      opening = _;
      clock = _;
      begun = c.in-Ok.ensures;
      fresh = c.in_ok-source.ensures.fresh.0;
      placed =
          record {
            sink = omega (arith, c.in_ok-sink.ensures.placed t2, reached-length g.W.World c.args.config.now _ 1 _ _ _ refl first t1);
            answerer = omega (arith, c.in_ok-answerer.ensures.placed t3, reached-length g.W.World c.args.config.now _ 2 _ _ _ refl second t2);
            source = omega (arith, c.in_ok-source.ensures.placed t4, reached-length g.W.World c.args.config.now _ 3 _ _ _ refl third t3);
            input = λ s.
                c.in_ok-source.ensures.bytes t4 s ∙ ap (λ u. u.stdin) (third.tells t3) ∙ ap (λ u. u.stdin) (second.tells t2) ∙ ap (λ u. u.stdin) (first.tells t1);
          };
      readings = λ s. clock.gives t s ∙ ap (λ u. u.clock) (fourth.tells t4);
      form = c.in_ok-read_config.ensures.form t1;
      only = clock-then (g.W.World.tale c.args.world.now) (g.W.World.tale c.open_source.new.world) (g.W.World.tale c.take_clock-clock.new.self) _ _ (fourth.tells t4) (clock.takes t);
    }

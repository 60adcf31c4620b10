use Rattle.std.proofs.Common.{◌≡◌, ℕ, ◌+◌, Ok, Err, ◌++◌, ◌∷◌, [], ◌∙◌, Some, take, drop, ap, sym, subst, arith, length, length-append}
use Rattle.bt_commands.specs.Calls.{asked}
use Rattle.bt_openings.specs.Openings.{Opens}
use Rattle.bt_openings.specs.Plan.{sink_openings}
use Rattle.bt_openings.proofs.Rows.{openings_next, openings_rest, openings_length, placed_next, fresh_next, made_length}
use Rattle.bt_openings.proofs.Steps.{opens_then, opens_stopped, opens_early}
use Rattle.bt_ports.specs.Contents.{Contents}
use Rattle.bt_ports.specs.declared.parts.What.TheVariants.{Sink}
use Rattle.bt_openings.proofs.sinks.open_sinks.Goals as goal

pub returns-in-Err-open_sink-clause-opens : goal.returns-in-Err-open_sink-clause-opens
returns-in-Err-open_sink-clause-opens g c =
    let ns = c.args.names.now in
    let es = c.args.ends.now in
    let i = c.sinks.i in
    let now = sink_openings (take i ns) (take i es) in
    let call = asked Sink (Some c.as_str.result.now) (Some c.as_slice.result.now) in
    let next : sink_openings (take (i + 1) ns) (take (i + 1) es) ≡ now ++ call ∷ [] = openings_next ns es i c.as_str.result.now c.as_slice.result.now c.index-names-i.result c.index-ends-i.result c.requires c.sinks-test.true (c.as_str.ensures ∙ c.index-names-i.is) (c.as_slice.ensures ∙ c.index-ends-i.is) in
    let rest = sink_openings (drop (i + 1) ns) (drop (i + 1) es) in
    let whole : sink_openings ns es ≡ (now ++ call ∷ []) ++ rest = openings_rest ns es (i + 1) c.requires ∙ ap (λ cs. cs ++ rest) next in
    subst (λ cs. Opens {T = Contents g.row.W-K.Denot} g.W.World cs (Err c.in-Err-open_sink.stop) c.args.world.now c.open_sink.new.world) (sym whole)
    (opens_early g.W.World (now ++ call ∷ []) rest c.in-Err-open_sink.stop c.args.world.now c.open_sink.new.world
    (opens_stopped g.W.World {V = ℕ} now (call ∷ []) 0 c.in-Err-open_sink.stop c.args.world.now c.sinks.world c.open_sink.new.world c.sinks.invariant.opens c.in-Err-open_sink.ensures.opens))

pub sinks-preserved : goal.sinks-preserved
sinks-preserved g c =
    let ns = c.args.names.now in
    let es = c.args.ends.now in
    let i = c.sinks.i in
    let now = sink_openings (take i ns) (take i es) in
    let call = asked Sink (Some c.as_str.result.now) (Some c.as_slice.result.now) in
    let next : sink_openings (take (i + 1) ns) (take (i + 1) es) ≡ now ++ call ∷ [] = openings_next ns es i c.as_str.result.now c.as_slice.result.now c.index-names-i.result c.index-ends-i.result c.requires c.sinks-test.true (c.as_str.ensures ∙ c.index-names-i.is) (c.as_slice.ensures ∙ c.index-ends-i.is) in
    record {
      many = ap length c.push_reserved.ensures.list ∙ (length-append c.sinks.sinks.list (c.in-Ok.sink ∷ []) ∙ ap (λ n. n + 1) c.sinks.invariant.many);
      room = let a = c.push_reserved.ensures.spare in let b = c.sinks.invariant.room in omega arith;
      opens = subst (λ cs. Opens {T = ℕ} g.W.World cs (Ok 0) c.args.world.now c.open_sink.new.world) (sym next)
          (opens_then g.W.World now (call ∷ []) 0 c.in-Ok.sink 0 c.args.world.now c.sinks.world c.open_sink.new.world c.sinks.invariant.opens c.in-Ok.ensures.opens);
      placed = λ t.
          (let u = c.in-Ok.ensures.opens.told.0 t in
          let before = made_length now (g.W.World.tale c.args.world.now) (g.W.World.tale c.sinks.world) (c.sinks.invariant.opens.tells u) in
          let many = openings_length ns es i c.requires (let h = c.sinks-test.true in omega arith) in
          let here = c.in-Ok.ensures.placed t in
          let ks = c.sinks.invariant.many in
          placed_next g.W.K.Sink (length (g.W.World.tale c.args.world.now).calls + 1) c.sinks.sinks.list c.push_reserved.new.self.list c.in-Ok.sink c.push_reserved.ensures.list (c.sinks.invariant.placed u) (omega arith));
      stdin = λ t. c.open_sink.ensures.stdin t ∙ c.sinks.invariant.stdin (c.in-Ok.ensures.opens.told.0 t);
      fresh = fresh_next g.W.K.Sink c.sinks.sinks.list c.push_reserved.new.self.list c.in-Ok.sink c.push_reserved.ensures.list c.sinks.invariant.fresh c.in-Ok.ensures.fresh;
    }

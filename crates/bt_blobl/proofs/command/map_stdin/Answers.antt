use Rattle.bt_blobl.proofs.Whole.{went-mapped}
use Rattle.bt_blobl.proofs.command.map_stdin.Goals as goal

pub returns-clause-went : goal.returns-clause-went
returns-clause-went g c = λ t text reads.
    let t2 = c.keep_input.ensures.told.0 t in
    let t1 = c.map_lines-pass.ensures.told.0 t2 in
    went-mapped g.W.S.Source text c.args.flags _ reads _ _ _ _ _ _ _ _ _ _ _ _ _ c.keep_input.ensures.told.1 c.keep_input.ensures.told.2
    c.in-Ok.ensures.fresh (c.in-Ok.ensures.opens t1) c.map_lines-pass.ensures.kept c.map_lines-pass.ensures.bound c.map_lines-pass.ensures.standing
    c.map_lines-pass.ensures.faults c.map_lines-pass.ensures.passed (c.map_lines-pass.ensures.only t2) c.into_sources.ensures.sources (c.keep_input.ensures.keeps t) t2

use Rattle.std.proofs.Common.{None, ◌∙◌}
use Rattle.bt_openings.proofs.Rows.{fresh_source_only}
use Rattle.bt_openings.proofs.sources.open_stdin.Goals as goal

pub returns-in-Ok-clause-fresh : goal.returns-in-Ok-clause-fresh
returns-in-Ok-clause-fresh g c = fresh_source_only g.W.S.Source c.reserve.new.self.list c.push_reserved.new.self.list (record { path = None; source = c.in-Ok.source }) c.push_reserved.ensures.list (c.reserve.ensures.list ∙ c.new-sources.ensures.list) c.in-Ok.ensures.fresh

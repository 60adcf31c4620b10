use Rattle.std.proofs.Common.{sym, subst}
use Rattle.bt_demand.specs.WellFormed.{WellFormed}
use Rattle.bt_ledger_cases.proofs.Fitting.{well_formed}
use Rattle.bt_ledger_cases.proofs.shapes.routed.Goals as goal

pub returns : goal.returns
returns c = record {
  some = c.in_ok-from.ensures.some;
  rising = c.in_ok-from.ensures.rising;
  known = c.in_ok-from.ensures.known;
  well_formed = subst (WellFormed 2 3) (sym c.in_ok-demand.ensures) (well_formed c.args.part.shape c.args.part.ends c.args.part.size _ _);
}

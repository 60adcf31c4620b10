use Rattle.std.proofs.Common.{◌∷◌, [], arith, ap, length, length-append}
use Rattle.bt_ledger_cases.proofs.Fitting.{fits_more}
use Rattle.bt_ledger_cases.proofs.shapes.routes.Goals as goal

pub loop-part-preserved : goal.loop-part-preserved
loop-part-preserved c =
    let e = c.in_ok-push.ensures.ok in
    record {
      fits = rw e (fits_more c.args.items c.loop-part.routes.parts.list c.in_ok-routed.routed c.loop-part.invariant.fits c.in_ok-routed.ensures);
      len = (let a = ap length e in let b = length-append c.loop-part.routes.parts.list (c.in_ok-routed.routed ∷ []) in let d = c.loop-part.invariant.len in omega arith);
      none = c.loop-part.invariant.none;
      room = c.loop-part.invariant.room;
    }

use Rattle.std.proofs.Common.{sym, subst, false}
use Rattle.std.proofs.Common.{List}
use Rattle.bt_duties.specs.Standing.{Standing}
use Rattle.bt_duties.specs.declared.duty.Duty.{Duty}
use Rattle.bt_duties.proofs.Standings.{standing_made}
use Rattle.bt_duties.proofs.desk.Desk.make.Goals as goal

pub invariant_of-result : goal.invariant_of-result
invariant_of-result g c =
    let b = c.in-Ok-make.ensures.begins in
    subst (λ (ds : List Duty). Standing (record { floor = c.in-Ok-make.floor; duties = ds; window = c.args.window; finished = false })) (sym c.in-Ok.ensures)
    (standing_made c.in-Ok-make.floor _ _ _ c.args.window _ c.args.duties b c.requires.window)

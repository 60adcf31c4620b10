-- How a desk's fields show what it is.
use Rattle.bt_duties.specs.DeskView.{DeskView}
use Rattle.bt_duties.specs.declared.desk.Desk.TheInside.{Inside}

abbrev pub shown : {I K A C D : Type 0} → Inside I K A C D → DeskView I K A C D
shown d = record { floor = d.floor; duties = d.duties.items; window = d.window; finished = d.finished }

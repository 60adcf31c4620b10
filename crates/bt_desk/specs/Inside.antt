-- How a desk's fields show what it is.
use Rattle.bt_desk.specs.DeskView.{DeskView}
use Rattle.bt_desk.specs.declared.desk.Desk.TheInside.{Inside}

abbrev pub shown : {I K A C : Type 0} → Inside I K A C → DeskView I K A C
shown d =
    record {
      intake = d.intake;
      sinks = d.sinks;
      answerer = d.answerer;
      clock = d.clock;
      out = d.out.items;
      report = d.report;
      finished = d.finished;
    }

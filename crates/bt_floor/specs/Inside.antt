-- How a floor's fields show what it is.
use Rattle.bt_sound.specs.View.{FloorView}
use Rattle.bt_floor.specs.declared.floor.Floor.TheInside.{Inside}

abbrev pub shown : {I K A C D : Type 0} → Inside I K A C D → FloorView I K A C D
shown f =
    record {
      ledger = f.ledger;
      sinks = f.sinks.items;
      answerer = f.answerer;
      releases = f.releases.items;
      counts = f.counts;
      entries = f.entries;
      outside = record { plan = f.plan.value; intake = f.intake; clock = f.clock; taken = f.taken; ending = f.ending; refused_memory = f.counts.refused_memory };
    }

-- What contracts see of an intake of lines, and what holds inside it.
use Rattle.std.specs.Prelude.{◌≡◌, Option, None, false}
use Rattle.bt_ports.specs.declared.parts.Next.{Next}
use Rattle.bt_ports.specs.declared.outside.Source as Source
use Rattle.bt_intake.specs.declared.batches.Batches.{Batches}
use Rattle.bt_intake.specs.Sources.{all_tell, told}
use Rattle.bt_intake.specs.Answers.{StopSays}
use Rattle.bt_intake.specs.Gathering.{BatchesHold, items_given}
use Rattle.bt_intake.specs.View.{LineView}

abbrev pub view_of : {S : Type 0} → Batches S → Option Next → LineView S
view_of b stopped = record {
  sources = b.reader.sources;
  delimiter = b.reader.delimiter;
  policy = b.policy;
  bound = b.reader.bound;
  taken = b.reader.taken;
  given = b.given;
  items = items_given b;
  stopped = stopped;
}

pub record Holds {S : Type 0} (g : Source.Ghosts S) (b : Batches S) (stopped : Option Next) : Type 0 where
  pub stands : BatchesHold g b
  pub alive : stopped ≡ None → b.lost ≡ false
  pub says : StopSays stopped b.reader.delimiter b.policy b.reader.bound b.reader.taken b.given (all_tell g b.reader.sources.list) (told g b.reader.sources.list)

-- What contracts see of an input of lines, and what holds inside it.
use Rattle.std.specs.Prelude.{◌≡◌}
use Rattle.bt_intake.specs.View.{LineView}
use Rattle.bt_commands.specs.Input.{line_feed, single}
use Rattle.bt_commands.specs.View.{InputView}

abbrev pub view_of : {S : Type 0} → LineView S → InputView S
view_of i = record { sources = i.sources; bound = i.bound; taken = i.taken; given = i.given; stopped = i.stopped }

pub record Holds {S : Type 0} (i : LineView S) : Type 0 where
  pub delimiter : i.delimiter ≡ line_feed
  pub policy : i.policy ≡ single
  pub one_each : i.items ≡ i.given

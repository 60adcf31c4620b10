use Rattle.std.proofs.Common.{◌≡◌, ◌++◌, drop}
use Rattle.std.specs.List.{flat_map}
use Rattle.bt_units.specs.Text.{lines_of}
use Rattle.bt_units.proofs.text.push_ends.Given as goal

abbrev pub invariant-loop-end : goal.invariant-loop-end
invariant-loop-end l = l.lines ++ flat_map lines_of (drop l.end-index l.ends) ≡ l.initial.lines ++ flat_map lines_of l.ends

-- Outputs that reject nothing.
use Rattle.std.specs.Prelude.{◌&&◌, not, List, [], ◌∷◌, map, Bool, true, false}
use Rattle.bt_outputs.specs.declared.output.Output.{Output, fold-Output}
use Rattle.bt_outputs.specs.declared.output.Output.TheOpen.{Output-F}

abbrev pub all_of : List Bool → Bool
all_of [] = true
all_of (b ∷ bs) = b && all_of bs

abbrev pub rejects_nothing_of : Output-F Bool → Bool
rejects_nothing_of (Output-F.Leaf n sink) = true
rejects_nothing_of Output-F.Drop = true
rejects_nothing_of (Output-F.Reject text) = false
rejects_nothing_of (Output-F.RejectErrored b) = false
rejects_nothing_of (Output-F.Broker bs) = all_of bs
rejects_nothing_of (Output-F.Hold n check b) = b
rejects_nothing_of (Output-F.Switch ks strict) = not strict && all_of (map (λ k. k.output) ks)
rejects_nothing_of (Output-F.Fallback bs) = all_of bs
rejects_nothing_of (Output-F.Retry n leaves holds b) = b
rejects_nothing_of (Output-F.DropOn error b) = b

-- there is no `reject`, no `reject_errored` and no `strict_mode` in it
abbrev pub rejects_nothing : Output → Bool
rejects_nothing = fold-Output Bool rejects_nothing_of

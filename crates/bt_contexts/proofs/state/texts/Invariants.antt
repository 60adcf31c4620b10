use Rattle.std.proofs.Common.{◌≡◌, ◌++◌, drop, map}
use Rattle.bt_meaning.specs.Outcomes.{key_text}
use Rattle.bt_contexts.proofs.state.texts.Given as goal

abbrev pub invariant-loop-key : goal.invariant-loop-key
invariant-loop-key l = map key_text l.keys ≡ l.got.items ++ map key_text (drop l.key-index l.keys)

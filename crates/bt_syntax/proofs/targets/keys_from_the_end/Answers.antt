use Rattle.std.proofs.Common.{sym, ◌∙◌}
use Rattle.bt_syntax.proofs.KeyTurns.{from_end_go, from_end_none}
use Rattle.bt_syntax.proofs.targets.keys_from_the_end.Goals as goal

pub loop-suffix-preserved : goal.loop-suffix-preserved
loop-suffix-preserved c =
    rw c.in_ok-push-in-Some-key_of.ensures.ok (from_end_go c.args.suffixes c.loop-suffix.suffixes c.pop.new.self c.in-Some.suffix c.loop-suffix.keys c.in-Some-key_of.key c.loop-suffix.invariant (c.in-Some.ensures {u = tt}) (sym c.key_of.ensures ∙ c.in-Some-key_of.is))

pub unreachable-requires : goal.unreachable-requires
unreachable-requires c = from_end_none c.args.suffixes c.loop-suffix.suffixes c.pop.new.self c.in-Some.suffix c.loop-suffix.keys c.loop-suffix.invariant (c.in-Some.ensures {u = tt}) (sym c.key_of.ensures ∙ c.in-None.is) c.requires

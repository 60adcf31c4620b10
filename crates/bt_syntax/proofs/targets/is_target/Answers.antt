use Rattle.bt_syntax.proofs.KeyTurns.{item_is_target}
use Rattle.bt_syntax.proofs.targets.is_target.Goals as goal

pub returns-then-is_root : goal.returns-then-is_root
returns-then-is_root c = item_is_target _ _ _ _ _ _ _ c.in-Item.is c.get.ensures c.as_slice.ensures c.is_root.ensures c.if-is_root.true c.are_keys.ensures

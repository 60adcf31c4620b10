use Rattle.std.proofs.lemmas.Iterator.Consumers.{map_from_collect}
use Rattle.std.proofs.lemmas.Iterator.Splits.{YieldsList-from_str_split}
use Rattle.std.proofs.Common.{lit<, Ok}
use Rattle.std.specs.declared.alloc.AllocError.{AllocError}
use Rattle.bt_objects.proofs.objects.parts.Goals as goal

pub returns-in-Ok : goal.returns-in-Ok
returns-in-Ok c = map_from_collect {E = AllocError} (Ok c.in-Ok.parts) c.in-Ok.ensures.ran (YieldsList-from_str_split 46 c.args.path.now (lit< tt) c.split.ensures.text c.split.ensures.has_more c.split.ensures.pattern)

use Rattle.std.proofs.Common.{sym}
use Rattle.bt_chains.proofs.Walks.{length_walk}
use Rattle.bt_chains.proofs.Moves.{sound}
use Rattle.bt_chains.proofs.Pool.free.Goals as goal

pub returns-clause-value : goal.returns-clause-value
returns-clause-value c = rw (← c.self.view_is) (sym (length_walk c.self.inside.vacant_len c.self.inside.links.items c.self.inside.vacant))

pub returns-clause-sound : goal.returns-clause-sound
returns-clause-sound c = rw (← c.self.view_is) (sound _ _ _ _ _ c.self.invariant)

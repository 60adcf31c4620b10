use Rattle.std.proofs.Common.{map, drop}
use Rattle.json.specs.Tape.{node_token}
use Rattle.bt_doc.specs.Doc.{Settled}
use Rattle.bt_doc.proofs.doc.is_settled.Given as goal

-- what settles the rest settles all
abbrev pub invariant-loop-node : goal.invariant-loop-node
invariant-loop-node l = Settled l.level (map node_token (drop l.node-index l.nodes)) → Settled 0 (map node_token l.nodes)

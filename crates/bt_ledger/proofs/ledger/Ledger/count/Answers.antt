use Rattle.std.proofs.Common.{ap, sym, ◌∙◌, length, arith}
use Rattle.bt_ledger.specs.Ledger.{Ledger, chain_at}
use Rattle.bt_ledger.proofs.Shown.{chains_length, chain_length}
use Rattle.bt_ledger.proofs.ledger.Ledger.count.Goals as goal

pub len-requires : goal.len-requires
len-requires c = let n = chains_length c.self.inside.pool in let v = ap (λ (x : Ledger). length x.policies) c.self.view_is in let r = c.requires in let same = c.self.invariant.book.chains in omega arith

pub returns : goal.returns
returns c = c.len.ensures ∙ sym (chain_length c.self.inside.pool c.args.node) ∙ ap (λ (x : Ledger). length (chain_at x c.args.node)) c.self.view_is

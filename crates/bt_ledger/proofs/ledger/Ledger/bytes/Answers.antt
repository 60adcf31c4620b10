use Rattle.std.proofs.Common.{ap, ◌∙◌, length, arith, ◌<◌}
use Rattle.std.proofs.lemmas.List.{get_or_default}
use Rattle.bt_ledger.specs.Kept.{no_tally}
use Rattle.bt_ledger.specs.Ledger.{Ledger, chain_at, sizes}
use Rattle.bt_ledger.specs.declared.tally.Tally.{Tally}
use Rattle.bt_ledger.proofs.ledger.Ledger.bytes.Goals as goal

pub index-requires : goal.index-requires
index-requires c = let v = ap (λ (x : Ledger). length x.policies) c.self.view_is in let r = c.requires in let same = c.self.invariant.book.chains in let each = c.self.invariant.tallied.each in omega arith

pub returns : goal.returns
returns c =
    let within : c.args.node < length c.self.inside.tallies.items = (let v = ap (λ (x : Ledger). length x.policies) c.self.view_is in let r = c.requires in let same = c.self.invariant.book.chains in let each = c.self.invariant.tallied.each in omega arith) in
    ap (λ (t : Tally). t.bytes) (c.index.ensures ∙ get_or_default c.self.inside.tallies.items c.args.node c.index.result.now no_tally within) ∙ c.self.invariant.tallied.bytes c.args.node ∙ ap (λ (x : Ledger). sizes (chain_at x c.args.node)) c.self.view_is

use Rattle.std.proofs.Common.{◌≡◌, ap, sym, ◌∙◌, length, arith, ◌<◌}
use Rattle.std.proofs.lemmas.List.{get_or_default}
use Rattle.bt_ledger.specs.Calls.{last_ends}
use Rattle.bt_ledger.specs.Kept.{no_tally}
use Rattle.bt_ledger.specs.Ledger.{Ledger, chain_at}
use Rattle.bt_ledger.specs.Pooled.{ledger_of}
use Rattle.bt_ledger.specs.declared.tally.Tally.{Tally}
use Rattle.bt_ledger.proofs.Shown.{chains_length, chain_length, empty_ends}
use Rattle.bt_ledger.proofs.ledger.Ledger.ends.Goals as goal

pub len-requires : goal.len-requires
len-requires c = let n = chains_length c.self.inside.pool in let v = ap (λ (x : Ledger). length x.policies) c.self.view_is in let r = c.requires in let same = c.self.invariant.book.chains in omega arith

pub index-requires : goal.index-requires
index-requires c = let v = ap (λ (x : Ledger). length x.policies) c.self.view_is in let r = c.requires in let same = c.self.invariant.book.chains in let each = c.self.invariant.tallied.each in omega arith

pub returns-then-len-eq0 : goal.returns-then-len-eq0
returns-then-len-eq0 c =
    let l = ledger_of c.self.inside.slots.items c.self.inside.policies.items c.self.inside.pool in
    let a = chain_length c.self.inside.pool c.args.node in
    let e : length (chain_at l c.args.node) ≡ 0 = (let b = c.len.ensures in let d = c.if-len-eq0.true in omega arith) in
    sym (empty_ends l (chain_at l c.args.node) e) ∙ ap (λ (x : Ledger). last_ends x (chain_at x c.args.node)) c.self.view_is

pub returns : goal.returns
returns c =
    let l = ledger_of c.self.inside.slots.items c.self.inside.policies.items c.self.inside.pool in
    let within : c.args.node < length c.self.inside.tallies.items = (let v = ap (λ (x : Ledger). length x.policies) c.self.view_is in let r = c.requires in let same = c.self.invariant.book.chains in let each = c.self.invariant.tallied.each in omega arith) in
    let a = chain_length c.self.inside.pool c.args.node in
    ap (λ (t : Tally). t.ends) (c.index.ensures ∙ get_or_default c.self.inside.tallies.items c.args.node c.index.result.now no_tally within)
    ∙ c.self.invariant.tallied.ends c.args.node (λ e. let z : length (chain_at l c.args.node) ≡ 0 = ap length e in let b = c.len.ensures in let d = c.if-len-eq0.false in absurd (omega arith))
    ∙ ap (λ (x : Ledger). last_ends x (chain_at x c.args.node)) c.self.view_is

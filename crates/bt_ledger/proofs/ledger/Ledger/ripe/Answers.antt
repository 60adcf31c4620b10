use Rattle.std.proofs.Common.{◌≡◌, ap, ◌∙◌, length, arith, ◌<◌, refl}
use Rattle.std.proofs.lemmas.List.{get_or_default}
use Rattle.bt_ledger.specs.Calls.{policy_at, no_policy, front_moment}
use Rattle.bt_ledger.specs.Ledger.{Ledger, chain_at}
use Rattle.bt_ledger.proofs.Shown.{chains_length}
use Rattle.bt_ledger.proofs.ledger.Ledger.ripe.Goals as goal

pub front_moment-front-requires : goal.front_moment-front-requires
front_moment-front-requires c = let n = chains_length c.self.inside.pool in let v = ap (λ (x : Ledger). length x.policies) c.self.view_is in let r = c.requires in let same = c.self.invariant.book.chains in omega arith

pub returns : goal.returns
returns c =
    let within : c.args.node < length c.self.inside.policies.items = (let v = ap (λ (x : Ledger). length x.policies) c.self.view_is in let r = c.requires in omega arith) in
    let p : c.index-policy.result.now ≡ policy_at c.args.self.now c.args.node = c.index-policy.ensures ∙ get_or_default c.self.inside.policies.items c.args.node c.index-policy.result.now no_policy within ∙ ap (λ (x : Ledger). policy_at x c.args.node) c.self.view_is in
    let f : c.front_moment-front.result ≡ front_moment (chain_at c.args.self.now c.args.node) = c.front_moment-front.ensures ∙ ap (λ (x : Ledger). front_moment (chain_at x c.args.node)) c.self.view_is in
    c.reason_by.ensures ∙ rw (p, c.count-count.ensures, c.bytes-bytes.ensures, c.ends-ends.ensures, f) refl

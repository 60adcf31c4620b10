use Rattle.std.proofs.Common.{List, [], ap, sym, ◌∙◌, length, get_or, ltb}
use Rattle.bt_chains.specs.declared.Entry.{Entry}
use Rattle.bt_ledger.specs.Ledger.{Ledger, chain_at}
use Rattle.bt_ledger.proofs.Shown.{chain_length}
use Rattle.bt_sound.specs.View.{FloorView}
use Rattle.bt_floor.proofs.floor.Floor.waits_in.Goals as goal

pub returns : goal.returns
returns g c =
    let l = ap (λ (v : FloorView _ _ _ _ _). v.ledger) c.self.view_is in
    ap (λ n. ltb 0 n) (c.len.ensures ∙ (sym (chain_length c.pool.result.now c.args.node) ∙ (ap (λ (cs : List (List Entry)). length (get_or cs c.args.node [])) c.pool.ensures.chains ∙ ap (λ (x : Ledger). length (chain_at x c.args.node)) l)))

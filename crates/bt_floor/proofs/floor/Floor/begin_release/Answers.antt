use Rattle.std.proofs.Common.{ℕ, ◌<◌, arith, sym, ap, ◌∙◌, subst, length, set, get_or, get_or-set_same}
use Rattle.bt_ledger.specs.Ledger.{Ledger}
use Rattle.bt_sound.specs.Owned.{ReleasesRise}
use Rattle.bt_sound.specs.View.{FloorView}
use Rattle.bt_sound.specs.declared.counts.Counts.{Counts}
use Rattle.bt_sound.proofs.Answered.{sound_memory}
use Rattle.bt_sound.proofs.Counting.{release_memory}
use Rattle.bt_sound.proofs.Owned.{one_more_rises}
use Rattle.bt_sound.proofs.Popping.{sound_release}
use Rattle.bt_floor.proofs.floor.Floor.begin_release.Goals as goal

pub invariant_of-self : goal.invariant_of-self
invariant_of-self g c =
    let l = ap (λ (v : FloorView _ _ _ _ _). v.ledger) c.self.view_is in
    let s = c.self.invariant.1 in
    let many = s.releases in
    let e = ap (λ (k : Ledger). length k.policies) l in
    let w : c.args.node < length c.self.inside.releases.items = (let r = c.requires in omega arith) in
    let same = sym (ap (λ (x : Counts). x.refused_memory) c.count_reason.ensures ∙ release_memory c.args.why c.self.inside.counts) in (
      c.self.invariant.0,
      sound_memory _ _ _ _ _ _ _ c.count_reason.new.counts.refused_memory same (sound_release _ _ _ _ _ _ c.self.invariant.0 c.args.node c.args.why c.count_reason.new.counts _ c.self.invariant.1 w c.count_reason.ensures (c.count_release.ensures.releases ∙ ap (set c.self.inside.releases.items c.args.node) c.count_release.ensures.number)
          (subst (λ rs. ReleasesRise c.self.inside.releases.items rs) (sym c.count_release.ensures.releases) (one_more_rises c.self.inside.releases.items c.args.node c.count_release.result w c.count_release.ensures.rises))),
    )

pub returns-clause-outside : goal.returns-clause-outside
returns-clause-outside g c =
    let same = sym (ap (λ (x : Counts). x.refused_memory) c.count_reason.ensures ∙ release_memory c.args.why c.self.inside.counts) in
    ap (λ (k : ℕ). record { plan = c.self.inside.plan.value; intake = c.self.inside.intake; clock = c.self.inside.clock; taken = c.self.inside.taken; ending = c.self.inside.ending; refused_memory = k }) (sym same) ∙ ap (λ (v : FloorView _ _ _ _ _). v.outside) c.self.view_is

pub returns-clause-rise : goal.returns-clause-rise
returns-clause-rise g c =
    let l = ap (λ (v : FloorView _ _ _ _ _). v.ledger) c.self.view_is in
    let many = c.self.invariant.1.releases in
    let e = ap (λ (k : Ledger). length k.policies) l in
    let w : c.args.node < length c.self.inside.releases.items = (let r = c.requires in omega arith) in
    subst (λ (v : FloorView _ _ _ _ _). ReleasesRise v.releases c.count_release.new.releases.items) c.self.view_is
    (subst (λ rs. ReleasesRise c.self.inside.releases.items rs) (sym c.count_release.ensures.releases) (one_more_rises c.self.inside.releases.items c.args.node c.count_release.result w c.count_release.ensures.rises))

pub returns-clause-fits : goal.returns-clause-fits
returns-clause-fits g c =
    let l = ap (λ (v : FloorView _ _ _ _ _). v.ledger) c.self.view_is in
    let many = c.self.invariant.1.releases in
    let e = ap (λ (k : Ledger). length k.policies) l in
    let w : c.args.node < length c.self.inside.releases.items = (let r = c.requires in omega arith) in
    let here = ap (λ rs. get_or rs c.args.node 0) c.count_release.ensures.releases ∙ get_or-set_same c.self.inside.releases.items c.args.node c.count_release.result 0 w in
    let n = c.count_release.ensures.number in
    (omega arith, omega arith)

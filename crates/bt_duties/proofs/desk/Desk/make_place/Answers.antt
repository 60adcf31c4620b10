use Rattle.std.proofs.Common.{[], ◌≡◌, ◌≢◌, arith, refl, sym, ◌∙◌, subst}
use Rattle.bt_duties.specs.DeskView.{DeskView}
use Rattle.bt_duties.specs.Duties.{duty_at}
use Rattle.bt_duties.proofs.Standings.{any_out, none_busy, place_flushed}
use Rattle.bt_ledger.specs.Ledger.{opened}
use Rattle.bt_duties.proofs.desk.Desk.make_place.Goals as goal

pub returns-then-is_out-clause-full : goal.returns-then-is_out-clause-full
returns-then-is_out-clause-full g c = λ _.
    let some = any_out c.self.inside.duties.items (sym c.is_out.ensures ∙ c.if-is_out.true) in
    let w = c.self.invariant.window in
    let a = c.opened.ensures.exact in
    let b = c.opened.ensures.bound in
    let full : opened c.self.inside.floor.ledger ≡ c.self.inside.window = omega arith in
    record {
      full = subst (λ (v : DeskView _ _ _ _ _). opened v.floor.ledger ≡ v.window) c.self.view_is full;
      busy = some.0;
      out = subst (λ (v : DeskView _ _ _ _ _). (duty_at v.duties some.0).number ≢ 0) c.self.view_is some.1;
      same = refl;
    }

pub returns-clause-place : goal.returns-clause-place
returns-clause-place g c = λ _.
    let idle = none_busy c.self.inside.duties.items (sym c.is_out.ensures ∙ c.if-is_out.false) in
    let none = place_flushed c.self.inside.floor.ledger c.flush_all.new.self.ledger c.self.inside.duties.items c.self.invariant.dutiful c.flush_all.ensures.outs idle c.flush_all.ensures.closed in
    let n = c.flush_all.ensures.slots in
    let w = c.self.invariant.window in
    let s = c.self.invariant.some in
    omega arith

pub returns-clause-room : goal.returns-clause-room
returns-clause-room g c = λ _.
    let idle = none_busy c.self.inside.duties.items (sym c.is_out.ensures ∙ c.if-is_out.false) in
    let none = place_flushed c.self.inside.floor.ledger c.flush_all.new.self.ledger c.self.inside.duties.items c.self.invariant.dutiful c.flush_all.ensures.outs idle c.flush_all.ensures.closed in
    let n = c.flush_all.ensures.slots in
    let w = c.self.invariant.window in
    let s = c.self.invariant.some in
    omega arith

pub returns-clause-unheld : goal.returns-clause-unheld
returns-clause-unheld g c = subst (λ (v : DeskView _ _ _ _ _). v.floor.ledger.policies ≡ [] → c.flush_all.new.self ≡ v.floor) c.self.view_is c.flush_all.ensures.unheld

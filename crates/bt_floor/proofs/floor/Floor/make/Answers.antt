use Rattle.std.proofs.Common.{ℕ, List, [], arith, refl, sym, ap, ◌∙◌, subst, length}
use Rattle.std.specs.Prelude.{replicate}
use Rattle.std.proofs.lemmas.List.{length-replicate}
use Rattle.bt_demand.specs.declared.routes.HoldPolicy.{HoldPolicy}
use Rattle.bt_floor.specs.Calls.{NothingPut}
use Rattle.bt_ledger.specs.Ledger.{Ledger}
use Rattle.bt_sound.specs.Counting.{AnswersCounted, ReleasesSum}
use Rattle.bt_sound.proofs.Counting.{counted_none, summed_none}
use Rattle.bt_sound.proofs.Course.{course_make, course_same}
use Rattle.bt_sound.proofs.Taking.{sound_make}
use Rattle.bt_floor.proofs.floor.Floor.make.Goals as goal

pub invariant_of-result : goal.invariant_of-result
invariant_of-result g c =
    let l = c.in-Ok.ensures.ledger in
    let r = c.in-Ok.ensures.releases in
    let k = c.none.ensures in
    let s = c.into_vec.ensures.items in
    let many = ap (λ (xs : List ℕ). length xs) r ∙ length-replicate _ _ in
    let d = ap g.D.Derive.policies c.deref.ensures in
    let policies = ap (λ (x : Ledger). x.policies) l in
    let entries = ap (λ (x : Ledger). x.entries) l in
    let e = ap (λ (xs : List HoldPolicy). length xs) d in
    let few = c.in-Ok.ensures.few in
    let wide = c.requires.wide in (
      [],
      sound_make _ _ _ _ _ _ c.args.window
          (ap (λ (x : Ledger). x.slots) l)
          (policies ∙ d)
          (ap length s ∙ c.requires.sinks)
          (many ∙ sym (ap length policies))
          (omega arith)
          (omega arith)
          (sym entries)
          refl
          (course_same g.I.Intake g.C.Clock _ c.none.result.refused_memory (course_make g.I.Intake g.C.Clock c.args.plan.value c.args.parts.intake c.args.parts.clock c.requires.goes c.requires.bounded))
          (subst (λ x. AnswersCounted [] x) (sym k) counted_none)
          (subst (λ x. ReleasesSum x c.none.result) (sym r) (subst (λ x. ReleasesSum (replicate (length (g.D.Derive.policies c.deref.result.now)) 0) x) (sym k) (summed_none (length (g.D.Derive.policies c.deref.result.now)))))
          refl
          (subst (λ ks. NothingPut g.K.Sink ks) (sym s) c.requires.unwritten)
          c.requires.unanswered,
    )

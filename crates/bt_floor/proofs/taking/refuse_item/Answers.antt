use Rattle.std.proofs.Common.{◌≡◌, refl, subst}
use Rattle.bt_ports.specs.declared.parts.Cause.TheVariants.{NoMemory}
use Rattle.bt_ports.specs.declared.parts.Verdict.TheVariants.{Refused}
use Rattle.bt_sound.specs.Counting.{answer_with}
use Rattle.bt_sound.proofs.Answered.{fine_answer}
use Rattle.bt_floor.proofs.taking.refuse_item.Goals as goal

pub returns : goal.returns
returns g c = (
  _,
  record {
    place = c.answer.ensures.placed;
    faults = c.answer.ensures.counted;
    fine = fine_answer _ _ _ c.answer.ensures.failed;
    is = record { number = refl; item = refl; verdict = refl; why = refl };
    told = c.answer.ensures.told;
    calls = c.answer.ensures.adds;
    counted = subst (λ b. c.count_answer.new.counts ≡ answer_with (Refused NoMemory) b c.args.counts.now) c.is_err-failed.ensures.value c.count_answer.ensures;
  },
)

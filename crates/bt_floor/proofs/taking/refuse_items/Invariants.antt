use Rattle.std.proofs.Common.{List}
use Rattle.bt_ports.specs.declared.parts.AnswerCall.{AnswerCall}
use Rattle.bt_sound.specs.Answers.{RefusedAll}
use Rattle.bt_floor.proofs.taking.refuse_items.Given as goal

abbrev pub invariant-loop-item : goal.invariant-loop-item
invariant-loop-item g l = (added : List AnswerCall) × RefusedAll g.A.Answerer l.initial.answerer l.answerer l.initial.counts l.counts l.number l.item added

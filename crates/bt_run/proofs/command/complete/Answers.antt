use denote.Param.Send.{sendable}
use Rattle.std.proofs.Common.{refl}
use Rattle.bt_commands.proofs.Crosses.{LineInput-send, LineInput-sync}
use Rattle.bt_commands.specs.Outside.{over}
use Rattle.bt_run.proofs.HandedBack.{hands-back-copy}
use Rattle.bt_run.proofs.command.complete.Goals as goal

pub carry-requires-send-I : goal.carry-requires-send-I
carry-requires-send-I g c κs within = search (sendable, LineInput-send) depth 20 fits 10000

pub carry-requires-sync-I : goal.carry-requires-sync-I
carry-requires-sync-I g c κs within = search (sendable, LineInput-sync) depth 20 fits 10000

pub report-report-requires-send-I : goal.report-report-requires-send-I
report-report-requires-send-I g c κs within = search (sendable, LineInput-send) depth 20 fits 10000

pub report-report-requires-sync-I : goal.report-report-requires-sync-I
report-report-requires-sync-I g c κs within = search (sendable, LineInput-sync) depth 20 fits 10000

pub returns-clause-keeps : goal.returns-clause-keeps
returns-clause-keeps g c = λ t.
    let ran = c.carry.ensures in
    let stands = c.hand_back.ensures.stands in
    record {
      ends = _;
      keeps = c.hand_back.ensures.keeps t;
      hands_back = λ opening clock begun fresh.
          hands-back-copy (over g.W.World g.W.S.Source g.W.K.Sink g.W.A.Answerer g.W.C.Clock) _ (λ i. refl) (λ i. refl) (λ i. refl) (λ i. refl) (λ i. refl) (λ i. refl) (λ i. refl) (λ i. refl)
          opening clock _ c.carry.new.desk begun fresh ran.run ran.faults ran.places ran.idle c.hand_back.ensures.standing stands.0 stands.1 c.report-report.result c.report-report.ensures.report;
    }

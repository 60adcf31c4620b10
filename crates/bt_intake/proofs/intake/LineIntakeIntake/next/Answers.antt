use Rattle.std.proofs.Common.{◌≡◌, ◌≤◌, IsTrue, subst}
use Rattle.bt_ports.specs.Intake.{NextGives, NextStops}
use Rattle.bt_lines.specs.Lines.{stop}
use Rattle.bt_intake.specs.Batches.{batches}
use Rattle.bt_intake.specs.Sources.{all_tell, told, openings, inputs, fault_count}
use Rattle.bt_intake.proofs.SourceLists.{faults-kept, tell-kept, openings-kept, inputs-kept}
use Rattle.bt_intake.proofs.Told.{same_batches, same_stop, answers-gives, answers-ends}
use Rattle.bt_intake.proofs.intake.LineIntakeIntake.next.Goals as goal

-- each fact is one of the batches, read through the view

pub returns-clause-counted : goal.returns-clause-counted
returns-clause-counted g c =
    let s = c.self.inside.batches.reader in
    let t = c.next-answer.new.self.reader in
    subst (λ v. fault_count g.S.Source v.sources.list ≤ fault_count g.S.Source t.sources.list) c.self.view_is
    (faults-kept g.S.Source s.sources.list t.sources.list c.next-answer.ensures.gathers.kept)

pub returns-clause-told : goal.returns-clause-told
returns-clause-told g c =
    let s = c.self.inside.batches.reader in
    let t = c.next-answer.new.self.reader in
    subst (λ v. IsTrue (all_tell g.S.Source t.sources.list) → IsTrue (all_tell g.S.Source v.sources.list)) c.self.view_is
    (tell-kept g.S.Source s.sources.list t.sources.list c.next-answer.ensures.gathers.kept)

pub returns-clause-placed : goal.returns-clause-placed
returns-clause-placed g c =
    let s = c.self.inside.batches.reader in
    let t = c.next-answer.new.self.reader in
    subst (λ v. openings g.S.Source t.sources.list ≡ openings g.S.Source v.sources.list) c.self.view_is
    (openings-kept g.S.Source s.sources.list t.sources.list c.next-answer.ensures.gathers.kept)

pub returns-clause-same : goal.returns-clause-same
returns-clause-same g c =
    let b = c.self.inside.batches in
    let d = c.next-answer.new.self in
    let t = d.reader in
    subst (λ v. IsTrue (all_tell g.S.Source t.sources.list) → batches t.delimiter d.policy t.bound (told g.S.Source t.sources.list) ≡ batches v.delimiter v.policy v.bound (told g.S.Source v.sources.list)) c.self.view_is
    (same_batches g.S.Source b d c.next-answer.ensures.gathers)

pub returns-clause-read : goal.returns-clause-read
returns-clause-read g c =
    let s = c.self.inside.batches.reader in
    let t = c.next-answer.new.self.reader in
    subst (λ v. IsTrue (all_tell g.S.Source t.sources.list) → inputs g.S.Source t.sources.list ≡ inputs g.S.Source v.sources.list) c.self.view_is
    (inputs-kept g.S.Source s.sources.list t.sources.list c.next-answer.ensures.gathers.kept)

pub returns-clause-stays : goal.returns-clause-stays
returns-clause-stays g c =
    let b = c.self.inside.batches in
    let d = c.next-answer.new.self in
    let t = d.reader in
    subst (λ v. IsTrue (all_tell g.S.Source t.sources.list) → stop t.delimiter t.bound (told g.S.Source t.sources.list) ≡ stop v.delimiter v.bound (told g.S.Source v.sources.list)) c.self.view_is
    (same_stop g.S.Source b d c.next-answer.ensures.gathers)

pub returns-clause-gives : goal.returns-clause-gives
returns-clause-gives g c =
    let b = c.self.inside.batches in
    let d = c.next-answer.new.self in
    let t = d.reader in
    subst (λ v. IsTrue (all_tell g.S.Source t.sources.list) → NextGives c.next-answer.result (batches v.delimiter v.policy v.bound (told g.S.Source v.sources.list)) v.given d.given) c.self.view_is
    (answers-gives g.S.Source b d c.next-answer.ensures.gathers c.next-answer.result c.next-answer.ensures.answers)

pub returns-clause-ends : goal.returns-clause-ends
returns-clause-ends g c =
    let b = c.self.inside.batches in
    let d = c.next-answer.new.self in
    let t = d.reader in
    subst (λ v. IsTrue (all_tell g.S.Source t.sources.list) → NextStops c.next-answer.result (stop v.delimiter v.bound (told g.S.Source v.sources.list)) t.bound) c.self.view_is
    (answers-ends g.S.Source b d c.next-answer.ensures.gathers c.next-answer.result c.next-answer.ensures.answers)

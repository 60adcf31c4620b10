-- A desk stands at its beginning, with an empty history.
use Rattle.std.proofs.Common.{◌≡◌, inl, ◌^◌, ◌<◌, List, [], length, refl, ap, sym, subst, arith, false, None}
use Rattle.bt_ports.specs.Contents.{Contents}
use Rattle.bt_ports.specs.declared.outside.Sink as Sink
use Rattle.bt_ports.specs.declared.outside.Intake as Intake
use Rattle.bt_ports.specs.declared.outside.Answerer as Answerer
use Rattle.bt_ports.specs.declared.outside.Clock as Clock
use Rattle.bt_desk.specs.declared.report.Report.{Report}
use Rattle.bt_desk.specs.declared.report.Out.{Out}
use Rattle.bt_desk.specs.DeskView.{DeskView}
use Rattle.bt_desk.specs.Stands.{StandsWith, ending_of, report_of}
use Rattle.bt_desk.specs.Calls.{IsUnwritten, IsUnanswered, IsUnread}

module _ {I K A C : Type 0} (gi : Intake.Ghosts I) (gk : Sink.Ghosts K) (ga : Answerer.Ghosts A) (gc : Clock.Ghosts C) (i : I) (sinks : Contents K) (a : A) (c : C)
    (one_sink : length sinks.list ≡ 1) (goes : gi.stopped i ≡ None) (few : gi.left i < 2 ^ 56)
    (unwritten : IsUnwritten gk sinks.list) (unanswered : IsUnanswered ga a) (unread : IsUnread gc c) where
  new : List Out → Report → DeskView I K A C
  new out report = record { intake = i; sinks = sinks; answerer = a; clock = c; out = out; report = report; finished = false }

  begins : StandsWith gi gk ga gc (new [] (report_of 0 [] None)) []
  unfolding new
  begins = record {
    taken = refl;
    out = inl refl;
    given = λ t. omega arith;
    items = λ t. refl;
    read = unread;
    one_sink = one_sink;
    accepted = λ k e t. (unwritten k e t).0;
    refused = λ k e t. (unwritten k e t).1;
    answered = unanswered;
    sink_fault = λ k e z. refl;
    answer_fault = λ z. refl;
    report = refl;
    ending = sym (ap ending_of goes);
    goes = λ z. goes;
    whole = λ t. tt;
    stop = λ t. tt;
    read_fault = tt;
    finished = λ f. absurd (cc);
    few = omega (arith, few);
    bounded = omega (arith, few);
  }

  pub stands-begun : (out : List Out) (report : Report) → out ≡ [] → report ≡ report_of 0 [] None
      → StandsWith gi gk ga gc (record { intake = i; sinks = sinks; answerer = a; clock = c; out = out; report = report; finished = false }) []
  unfolding new
  stands-begun out report idle zeros =
      subst (λ (o : List Out). StandsWith gi gk ga gc (new o report) []) (sym idle)
      (subst (λ (r : Report). StandsWith gi gk ga gc (new [] r) []) (sym zeros) begins)

-- What a run that was carried to its end gives back, by what stands of its desk and of its intake.
use Rattle.std.proofs.Common.{◌≡◌, ℕ, List, [], ◌∷◌, length, take, drop, Option, Some, None, IsTrue, IsSome, slice_get, refl, ap, sym, subst, ◌∙◌, arith, Bool, true, false, add-zero}
use Rattle.std.specs.List.{list_all}
use Rattle.bt_ports.specs.declared.outside.Source as Source
use Rattle.bt_ports.specs.declared.outside.Intake as Intake
use Rattle.bt_ports.specs.declared.parts.Item.{Item}
use Rattle.bt_ports.specs.declared.parts.Named.{Named}
use Rattle.bt_ports.specs.declared.parts.Next.{Next}
use Rattle.bt_ports.specs.declared.parts.Next.TheVariants as next
use Rattle.bt_ports.specs.Intake.{line_too_long}
use Rattle.bt_desk.specs.Calls.{SameRun}
use Rattle.bt_desk.specs.DeskView.{DeskView, run_of, given_before}
use Rattle.bt_desk.specs.History.{Settled, numbered, items_of}
use Rattle.bt_desk.specs.Stands.{StandsWith, report_of, ending_of, TakesWhole}
use Rattle.bt_desk.specs.declared.report.Ending.{Ending}
use Rattle.bt_desk.specs.declared.report.Ending.TheVariants as ending
use Rattle.bt_desk.specs.declared.report.Report.{Report}
use Rattle.bt_commands.specs.Inputs.{Standing, StopSays}
use Rattle.bt_commands.specs.Input.{batches}
use Rattle.bt_lines.specs.Lines.{SourceBytes}
use Rattle.bt_intake.specs.Sources.{openings, inputs, all_tell, told, taken_count, fault_count}
use Rattle.bt_commands.specs.View.{InputView}
use Rattle.bt_commands.specs.Outside.{Outside}
use Rattle.bt_run.specs.Inside.{Begun, SamePlaces, CarryFaults, HandsBack}
use Rattle.bt_desk.proofs.Clean.{accepted-clean, answered-clean}
use Rattle.bt_commands.specs.Input.{input_of, transactions}
use Rattle.bt_run.specs.Promise.{EndingFaults, EndingSays, Leaves}
use Rattle.bt_commands.specs.declared.limits.TheConstants.{INPUT_BOUND}
use Rattle.bt_run.specs.declared.openings.Opening.{Opening}

and-true : (b : Bool) → list_all (λ (c : Bool). c) (b ∷ []) ≡ b
and-true true = refl
and-true false = refl

-- a list of one
pub one-member : {K : Type 0} (ks : List K) → length ks ≡ 1 → (k : K) × (ks ≡ k ∷ [])
one-member [] e = absurd (omega arith)
one-member (k ∷ []) e = (k, refl)
one-member (k ∷ j ∷ ks) e = absurd (omega arith)

-- sources with one opening are one source
pub one-source : {S : Type 0} (g : Source.Ghosts S) (ns : List (Named S)) (path : Option (List ℕ)) (place : ℕ) → openings g ns ≡ (path, place) ∷ []
    → (s : S) × (ns ≡ record { path = path; source = s } ∷ []) × (g.place s ≡ place)
one-source g [] path place e = cc
one-source g (n ∷ []) path place e =
    let here : Option (List ℕ) × ℕ = (n.path, g.place n.source) in
    let wanted : Option (List ℕ) × ℕ = (path, place) in
    let same : here ≡ wanted = cc in
    let is : n.path ≡ path = ap (λ p. p.0) same in
    (n.source, ap (λ q. record { path = q; source = n.source } ∷ []) is, ap (λ p. p.1) same)
one-source g (n ∷ m ∷ ns) path place e = cc

-- how the run ended, by what its intake answered and what its desk took
pub ending-says : (e : Option Ending) (s : Option Next) (count given bytes_taken : ℕ) (bytes : List ℕ)
    → IsSome e → e ≡ ending_of s → StopSays s INPUT_BOUND bytes_taken given true (input_of bytes) → TakesWhole e count (length (transactions bytes))
    → count ≡ given → EndingSays e count bytes_taken bytes
ending-says None s count given taken bytes some is says whole same = cc
ending-says (Some e) None count given taken bytes some is says whole same = cc
ending-says (Some e) (Some (next.Batch items)) count given taken bytes some is says whole same = cc
ending-says (Some ending.Ended) (Some next.End) count given taken bytes some is says whole same = (whole, says.1 refl)
ending-says (Some ending.ReadFault) (Some next.End) count given taken bytes some is says whole same = cc
ending-says (Some (ending.LongLine n)) (Some next.End) count given taken bytes some is says whole same = cc
ending-says (Some ending.Bound) (Some next.End) count given taken bytes some is says whole same = cc
ending-says (Some ending.NoMemory) (Some next.End) count given taken bytes some is says whole same = tt
ending-says (Some ending.Ended) (Some next.Failed) count given taken bytes some is says whole same = cc
ending-says (Some ending.ReadFault) (Some next.Failed) count given taken bytes some is says whole same =
    rw same (says refl)
ending-says (Some (ending.LongLine n)) (Some next.Failed) count given taken bytes some is says whole same = cc
ending-says (Some ending.Bound) (Some next.Failed) count given taken bytes some is says whole same = cc
ending-says (Some ending.NoMemory) (Some next.Failed) count given taken bytes some is says whole same = tt
ending-says (Some ending.Ended) (Some (next.LongLine n)) count given taken bytes some is says whole same = cc
ending-says (Some ending.ReadFault) (Some (next.LongLine n)) count given taken bytes some is says whole same = cc
ending-says (Some (ending.LongLine m)) (Some (next.LongLine n)) count given taken bytes some is says whole same =
    let line : n ≡ m = cc in
    (whole, says.0 refl ∙ ap line_too_long line)
ending-says (Some ending.Bound) (Some (next.LongLine n)) count given taken bytes some is says whole same = cc
ending-says (Some ending.NoMemory) (Some (next.LongLine n)) count given taken bytes some is says whole same = tt
ending-says (Some ending.Ended) (Some next.Bound) count given taken bytes some is says whole same = cc
ending-says (Some ending.ReadFault) (Some next.Bound) count given taken bytes some is says whole same = cc
ending-says (Some (ending.LongLine n)) (Some next.Bound) count given taken bytes some is says whole same = cc
ending-says (Some ending.Bound) (Some next.Bound) count given taken bytes some is says whole same = (whole, says.1 refl, says.0)
ending-says (Some ending.NoMemory) (Some next.Bound) count given taken bytes some is says whole same = tt
ending-says (Some ending.Ended) (Some next.NoMemory) count given taken bytes some is says whole same = cc
ending-says (Some ending.ReadFault) (Some next.NoMemory) count given taken bytes some is says whole same = cc
ending-says (Some (ending.LongLine n)) (Some next.NoMemory) count given taken bytes some is says whole same = cc
ending-says (Some ending.Bound) (Some next.NoMemory) count given taken bytes some is says whole same = cc
ending-says (Some ending.NoMemory) (Some next.NoMemory) count given taken bytes some is says whole same = tt

-- whether one source tells
all_tell-one : {S : Type 0} (g : Source.Ghosts S) (path : Option (List ℕ)) (s : S) (ns : List (Named S)) → ns ≡ record { path = path; source = s } ∷ [] → all_tell g ns ≡ g.tells s
all_tell-one g path s ns is = ap (all_tell g) is ∙ and-true (g.tells s)

-- a whole run under other names
takes-whole : (e : Option Ending) (n m : ℕ) (run txns : List (List Item)) → run ≡ txns → m ≡ n → TakesWhole e n (length run) → TakesWhole e m (length txns)
takes-whole e n m run txns same count whole = rw (count, sym same) whole

-- the source's faults, by those of the intake, which had none when the run began
pub ending-faults : (e : Option Ending) (f f' : ℕ) → f ≡ 0 → CarryFaults e f f' → EndingFaults e f'
ending-faults None f f' z c = c
ending-faults (Some ending.Ended) f f' z c = c ∙ z
ending-faults (Some ending.ReadFault) f f' z c = omega (arith, c)
ending-faults (Some (ending.LongLine n)) f f' z c = c ∙ z
ending-faults (Some ending.Bound) f f' z c = c ∙ z
ending-faults (Some ending.NoMemory) f f' z c = tt

-- a run that was carried to its end has an ending
pub has-ending : (e : Option Ending) (f f' : ℕ) → CarryFaults e f f' → IsSome e
has-ending None f f' c = absurd c
has-ending (Some e) f f' c = refl

stop-says : (s : Option Next) (bound bound' taken taken' given : ℕ) (tells tells' : Bool) (ss ss' : List SourceBytes)
    → bound ≡ bound' → taken ≡ taken' → tells ≡ tells' → ss ≡ ss' → StopSays s bound taken given tells ss → StopSays s bound' taken' given tells' ss'
stop-says s bound bound' taken taken' given tells tells' ss ss' p q r u says = rw (sym p, sym q, sym r, sym u) says

-- a desk that began over what was opened and was carried to its end. The intake tells what its sources do
module _ {W S K A C : Type 0} (o : Outside W S K A C) (gi : Intake.Ghosts (InputView S))
    (tells-is : (i : InputView S) → gi.tells i ≡ all_tell o.source i.sources.list)
    (batches-is : (i : InputView S) → gi.batches i ≡ batches i.bound (told o.source i.sources.list))
    (given-is : (i : InputView S) → gi.given i ≡ i.given)
    (stopped-is : (i : InputView S) → gi.stopped i ≡ i.stopped)
    (faults-is : (i : InputView S) → gi.faults i ≡ fault_count o.source i.sources.list)
    (openings-is : (i : InputView S) → gi.openings i ≡ openings o.source i.sources.list)
    (inputs-is : (i : InputView S) → gi.inputs i ≡ inputs o.source i.sources.list)
    (bounds-is : (i : InputView S) → gi.bounds i ≡ i.bound ∷ [])
    (opening : Opening S K A) (c : C) (d e : DeskView (InputView S) K A C) (b : Begun opening c d) (fresh : o.source.faults opening.source ≡ 0)
    (r : SameRun gi o.clock d e) (rose : CarryFaults e.report.ending (gi.faults d.intake) (gi.faults e.intake)) (p : SamePlaces o.sink o.answerer d e)
    (idle : e.out ≡ []) (i : Standing o.source e.intake) (h : List (List Settled)) (st : StandsWith gi o.sink o.answerer o.clock e h) where
  source : (s : S) × (e.intake.sources.list ≡ record { path = None; source = s } ∷ []) × (o.source.place s ≡ o.source.place opening.source)
  source = one-source o.source e.intake.sources.list None (o.source.place opening.source) (sym (openings-is e.intake) ∙ r.openings ∙ openings-is d.intake ∙ ap (openings o.source) b.sources)

  sink : (k : K) × (e.sinks.list ≡ k ∷ [])
  sink = one-member e.sinks.list st.one_sink

  first_sink : slice_get e.sinks.list 0 ≡ Some sink.0
  first_sink = ap (λ ks. slice_get ks 0) sink.1

  bound : e.intake.bound ≡ INPUT_BOUND
  bound =
      let same : e.intake.bound ∷ [] ≡ d.intake.bound ∷ [] = sym (bounds-is e.intake) ∙ r.bounds ∙ bounds-is d.intake in
      let is : e.intake.bound ≡ d.intake.bound = cc in
      is ∙ b.bound

  count : length h ≡ e.report.taken
  count = let none : length e.out ≡ 0 = ap length idle in omega (arith, st.taken, none)

  none : gi.faults d.intake ≡ 0
  none = faults-is d.intake ∙ ap (fault_count o.source) b.sources ∙ add-zero (o.source.faults opening.source) ∙ fresh

  ended : IsSome e.report.ending
  ended = has-ending e.report.ending _ _ rose

  faults : gi.faults e.intake ≡ o.source.faults source.0
  faults = faults-is e.intake ∙ ap (fault_count o.source) source.1 ∙ add-zero (o.source.faults source.0)

  module _ (t : IsTrue (o.source.tells source.0)) where
    all_told : all_tell o.source e.intake.sources.list ≡ true
    all_told = all_tell-one o.source None source.0 e.intake.sources.list source.1 ∙ t

    intake_told : IsTrue (gi.tells e.intake)
    intake_told = tells-is e.intake ∙ all_told

    none_before : given_before gi e ≡ 0
    none_before =
        let none : gi.given d.intake ≡ 0 = given-is d.intake ∙ b.given in
        r.before intake_told ∙ omega (arith, none)

    bytes_told : told o.source e.intake.sources.list ≡ input_of (o.source.bytes source.0)
    bytes_told = ap (told o.source) source.1

    run : run_of gi e ≡ transactions (o.source.bytes source.0)
    run =
        ap (λ n. drop n (gi.batches e.intake)) none_before ∙ batches-is e.intake
        ∙ ap (λ n. batches n (told o.source e.intake.sources.list)) bound ∙ ap (batches INPUT_BOUND) bytes_told

    given : length h ≡ e.intake.given
    given =
        let none = none_before in
        let same = given-is e.intake in
        omega (arith, count, st.given intake_told, none, same)

    bytes_taken : e.intake.taken ≡ o.source.taken source.0
    bytes_taken = sym (i.counted all_told) ∙ ap (taken_count o.source) source.1 ∙ add-zero (o.source.taken source.0)

    says : StopSays e.intake.stopped INPUT_BOUND (o.source.taken source.0) e.intake.given true (input_of (o.source.bytes source.0))
    says = stop-says e.intake.stopped _ _ _ _ _ _ _ _ _ bound bytes_taken all_told bytes_told i.stop_says

    ends : EndingSays e.report.ending (length h) (o.source.taken source.0) (o.source.bytes source.0)
    ends =
        let whole = takes-whole e.report.ending e.report.taken (length h) (run_of gi e) (transactions (o.source.bytes source.0)) run count (st.whole intake_told) in
        ending-says e.report.ending e.intake.stopped (length h) e.intake.given (o.source.taken source.0) (o.source.bytes source.0) ended
        (st.ending ∙ ap ending_of (stopped-is e.intake)) says
        whole given

    telling : IsTrue (o.source.tells opening.source)
    telling = sym (all_tell-one o.source None opening.source d.intake.sources.list b.sources) ∙ sym (tells-is d.intake) ∙ r.told intake_told

    input : o.source.bytes source.0 ≡ o.source.bytes opening.source
    input =
        let same : o.source.bytes source.0 ∷ [] ≡ o.source.bytes opening.source ∷ [] =
        sym (ap (inputs o.source) source.1) ∙ sym (inputs-is e.intake) ∙ r.inputs intake_told ∙ inputs-is d.intake ∙ ap (inputs o.source) b.sources
        in
        cc

    taken : items_of h ≡ take (length h) (transactions (o.source.bytes source.0))
    taken = st.items intake_told ∙ ap (take (length h)) run

  leaves : Leaves o e.report source.0 sink.0 e.answerer e.clock h
  leaves = record {
    taken = taken;
    read = λ t. st.read t ∙ sym count;
    faults = subst (EndingFaults e.report.ending) faults (ending-faults e.report.ending _ _ none rose);
    ends = ends;
    accepted = st.accepted sink.0 first_sink;
    refused = st.refused sink.0 first_sink;
    answered = st.answered;
    sink_fault = st.sink_fault sink.0 first_sink;
    answer_fault = st.answer_fault;
    all_accepted = λ t none. st.accepted sink.0 first_sink t ∙ accepted-clean h (st.sink_fault sink.0 first_sink none);
    all_acknowledged = λ t none heard. st.answered t ∙ answered-clean h (st.sink_fault sink.0 first_sink none) (st.answer_fault heard);
    counts = st.report ∙ ap (λ n. report_of n (numbered h) e.report.ending) (sym count);
  }

  hands-back : HandsBack o opening c e.report (record { sources = e.intake.sources; sinks = e.sinks; answerer = e.answerer; clock = e.clock })
  hands-back =
      let was = p.sink sink.0 first_sink in
      let at : Some opening.sink ≡ Some was.0 = sym (ap (λ ks. slice_get ks 0) b.sinks) ∙ was.1 in
      let same : was.0 ≡ opening.sink = cc in
      record {
        sink = sink.0;
        source = source.0;
        history = h;
        sinks = sink.1;
        sources = source.1;
        sink_place = was.2 ∙ ap o.sink.place same;
        answerer_place = p.answerer ∙ ap o.answerer.place b.answerer;
        source_place = source.2;
        told = telling;
        input = input;
        clock_told = λ t. subst (λ (k : C). IsTrue (o.clock.tells k)) b.clock (r.clock_told t);
        readings = λ t. r.readings t ∙ ap o.clock.readings b.clock;
        leaves = leaves;
      }

  -- the same with a copy of the report
  pub hands-back-copy : (report : Report) → report ≡ e.report → HandsBack o opening c report (record { sources = e.intake.sources; sinks = e.sinks; answerer = e.answerer; clock = e.clock })
  hands-back-copy report same =
      let P : Report → Type 0 = λ r. HandsBack o opening c r (record { sources = e.intake.sources; sinks = e.sinks; answerer = e.answerer; clock = e.clock }) in
      subst P (sym same) hands-back

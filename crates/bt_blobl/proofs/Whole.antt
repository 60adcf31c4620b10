-- `blobl` as a whole.
use Rattle.std.proofs.Common.{◌≡◌, ℕ, ◌≤◌, List, [], ◌∷◌, ◌++◌, take, length, map, refl, ap, sym, subst, ◌∙◌, arith, IsTrue, Bool, true, false, Option, Some, None, Result, Ok, Err, append-nil, add-zero}
use Rattle.std.proofs.lemmas.List.{take_all, length-map}
use Rattle.std.specs.List.{list_all}
use Rattle.bt_ports.specs.Contents.{Contents}
use Rattle.bt_ports.specs.World.{Tale, once_more}
use Rattle.bt_ports.specs.declared.outside.Source as Source
use Rattle.bt_ports.specs.declared.parts.Named.{Named}
use Rattle.bt_ports.specs.declared.parts.Next.{Next}
use Rattle.bt_commands.specs.Inputs.{Standing, StopSays as AnswerSays}
use Rattle.bt_commands.specs.Input.{batches}
use Rattle.bt_lines.specs.Lines.{SourceBytes}
use Rattle.bt_intake.specs.Sources.{all_tell, told, taken_count, fault_count, SourceKept, SourcesKept}
use Rattle.bt_commands.specs.View.{InputView}
use Rattle.bt_tree.specs.declared.tree.Mapping.{Mapping}
use Rattle.bt_commands.specs.declared.limits.TheConstants.{INPUT_BOUND}
use Rattle.bt_blobl.specs.Inside.{AnswerIs, GivenLines, Passed, PrintsOnly, all_lines, IsFreshInput, IsUnread, OpensInput, OpensNone, PassFaults}
use Rattle.bt_blobl.specs.Meaning.{blobl_text, blobl_errors, lines_of, line_bytes, task_of}
use Rattle.bt_blobl.specs.Promise.{BloblCounts, BloblTells, IsHaltPart, MapsBy, MapsLines, MapsNone, StopFaults, StopSays}
use Rattle.bt_blobl.specs.Text.{RunsAs}
use Rattle.bt_blobl.specs.declared.course.Flags.{Flags}
use Rattle.bt_blobl.proofs.Loop.{joined}
use Rattle.bt_commands.specs.Input.{input_of, transactions}
use Rattle.bt_commands.specs.Calls.{source_opening}
use Rattle.bt_blobl.specs.declared.course.Halt.{Halt}
use Rattle.bt_blobl.specs.declared.course.Halt.TheVariants as halt
use Rattle.bt_blobl.specs.declared.course.Pass.{Pass}
use Rattle.bt_blobl.specs.declared.course.PassStop.{PassStop}
use Rattle.bt_blobl.specs.declared.course.PassStop.TheVariants as stops

-- what became of one source
one-kept : {S : Type 0} (gs : Source.Ghosts S) (ns ms : List (Named S)) (s : S) → ns ≡ record { path = None; source = s } ∷ [] → SourcesKept gs ns ms
    → (r : S) × (ms ≡ record { path = None; source = r } ∷ []) × SourceKept gs (record { path = None; source = s }) (record { path = None; source = r })
one-kept {S = S} gs ns [] s is kept = absurd (subst (λ (xs : List (Named S)). SourcesKept gs xs []) is kept)
one-kept {S = S} gs ns (m ∷ []) s is kept =
    let here : SourcesKept gs (record { path = None; source = s } ∷ []) (m ∷ []) = subst (λ (xs : List (Named S)). SourcesKept gs xs (m ∷ [])) is kept in
    let named : m ≡ record { path = None; source = m.source } = ap (λ (p : Option (List ℕ)). record { path = p; source = m.source }) here.0.path in
    (m.source, ap (λ (n : Named S). n ∷ []) named, subst (λ (n : Named S). SourceKept gs (record { path = None; source = s }) n) named here.0)
one-kept {S = S} gs ns (m ∷ l ∷ ms) s is kept = absurd (subst (λ (xs : List (Named S)). SourcesKept gs xs (m ∷ l ∷ ms)) is kept).1

and-true : (b : Bool) → list_all (λ (c : Bool). c) (b ∷ []) ≡ b
and-true true = refl
and-true false = refl

-- why no more lines were mapped
stop-holds : (s : PassStop) (answer : Option Next) (done : List (List ℕ)) (line : List ℕ) (given taken : ℕ) (bytes : List ℕ)
    → AnswerIs s answer → AnswerSays answer INPUT_BOUND taken given true (input_of bytes) → GivenLines s done line given (lines_of bytes)
    → done ≡ take (length done) (lines_of bytes) → StopSays s done line taken bytes
stop-holds stops.Ended answer done line given taken bytes is says gave first =
    let end = subst (λ (a : Option Next). AnswerSays a INPUT_BOUND taken given true (input_of bytes)) is says in
    let all : length (lines_of bytes) ≤ length done = omega (arith, length-map (transactions bytes) line_bytes, end.2 refl, gave) in
    (first ∙ take_all (length done) (lines_of bytes) all, end.1 refl)
stop-holds stops.ReadFault answer done line given taken bytes is says gave first =
    let end = subst (λ (a : Option Next). AnswerSays a INPUT_BOUND taken given true (input_of bytes)) is says in
    omega (arith, end refl, gave)
stop-holds (stops.LongLine n) answer done line given taken bytes is says gave first =
    let end = subst (λ (a : Option Next). AnswerSays a INPUT_BOUND taken given true (input_of bytes)) is says in
    let all : length (lines_of bytes) ≤ length done = omega (arith, length-map (transactions bytes) line_bytes, end.1 refl, gave) in
    (first ∙ take_all (length done) (lines_of bytes) all, end.0 refl)
stop-holds stops.Bound answer done line given taken bytes is says gave first =
    let end = subst (λ (a : Option Next). AnswerSays a INPUT_BOUND taken given true (input_of bytes)) is says in
    let all : length (lines_of bytes) ≤ length done = omega (arith, length-map (transactions bytes) line_bytes, end.2 refl, gave) in
    (first ∙ take_all (length done) (lines_of bytes) all, end.1 refl, end.0)
stop-holds stops.PrintFailed answer done line given taken bytes is says gave first = gave
stop-holds stops.NoMemory answer done line given taken bytes is says gave first = tt

-- the source's faults, by those of the intake, which had none at first
stop-faults : (s : PassStop) (f f' : ℕ) → f ≡ 0 → PassFaults s f f' → StopFaults s f'
stop-faults stops.Ended f f' z p = p ∙ z
stop-faults stops.ReadFault f f' z p = omega (arith, p)
stop-faults (stops.LongLine n) f f' z p = p ∙ z
stop-faults stops.Bound f f' z p = p ∙ z
stop-faults stops.PrintFailed f f' z p = p ∙ z
stop-faults stops.NoMemory f f' z p = tt

stop-says : (s : Option Next) (bound bound' taken taken' given : ℕ) (tells tells' : Bool) (ss ss' : List SourceBytes)
    → bound ≡ bound' → taken ≡ taken' → tells ≡ tells' → ss ≡ ss' → AnswerSays s bound taken given tells ss → AnswerSays s bound' taken' given tells' ss'
stop-says s bound bound' taken taken' given tells tells' ss ss' p q r u says = rw (sym p, sym q, sym r, sym u) says

module _ {S E : Type 0} (gs : Source.Ghosts S) (text : List ℕ) (flags : Flags) where
  -- the standard input was opened, its lines mapped, and it was kept
  module _ (m : Mapping) (reads : RunsAs text m) (pass : Pass) (i j : InputView S) (tells prints says prints' says' : Bool) (a b c d : Tale E (Contents (Named S))) (sources : Contents (Named S))
      (printing : IsTrue prints' → IsTrue prints) (saying : IsTrue says' → IsTrue says) (fresh : IsFreshInput gs i) (opens : OpensInput gs i a b) (kept : SourcesKept gs i.sources.list j.sources.list) (bound : j.bound ≡ i.bound) (stands : Standing gs j)
      (rose : PassFaults pass.stop (fault_count gs i.sources.list) (fault_count gs j.sources.list)) (passed : Passed gs (task_of m flags) pass j tells prints says b c) (only : PrintsOnly b c)
      (given_back : sources ≡ j.sources) (keeps : d ≡ record c { input_keeps = once_more c.input_keeps; kept_input = Some sources }) (t : IsTrue tells) where
    whole : d ≡ record a { calls = a.calls ++ source_opening ∷ []; stdin = b.stdin; printed = c.printed; lines = c.lines; input_keeps = once_more a.input_keeps; kept_input = Some j.sources }
    whole =
        let T : Type 0 = Tale E (Contents (Named S)) in
        keeps ∙ ap (λ (o : Contents (Named S)). record c { input_keeps = once_more c.input_keeps; kept_input = Some o }) given_back
        ∙ ap (λ (w : T). record w { input_keeps = once_more w.input_keeps; kept_input = Some j.sources }) (only ∙ ap (λ (w : T). record w { printed = c.printed; lines = c.lines }) opens.opens)

    abbrev one : (s : S) × (j.sources.list ≡ record { path = None; source = s } ∷ []) × SourceKept gs (record { path = None; source = opens.source }) (record { path = None; source = s })
    one = one-kept gs i.sources.list j.sources.list opens.source opens.sources kept

    abbrev source : S
    source = one.0

    is_bound : j.bound ≡ INPUT_BOUND
    is_bound = bound ∙ fresh.bound

    telling : all_tell gs j.sources.list ≡ gs.tells source
    telling = ap (all_tell gs) one.1 ∙ and-true (gs.tells source)

    told_bytes : told gs j.sources.list ≡ input_of (gs.bytes source)
    told_bytes = ap (told gs) one.1

    same_lines : all_lines gs j ≡ lines_of (gs.bytes source)
    same_lines = ap (λ (n : ℕ). map line_bytes (batches n (told gs j.sources.list))) is_bound ∙ ap (λ (ss : List SourceBytes). map line_bytes (batches INPUT_BOUND ss)) told_bytes

    first : IsTrue (gs.tells source) → passed.done ≡ take (length passed.done) (lines_of (gs.bytes source))
    first told_all = passed.whole.first (telling ∙ told_all) ∙ ap (take (length passed.done)) same_lines

    faults : StopFaults pass.stop (gs.faults source)
    faults =
        let none : fault_count gs i.sources.list ≡ 0 = ap (fault_count gs) fresh.sources ∙ add-zero (gs.faults fresh.source) ∙ fresh.faults in
        let all : fault_count gs j.sources.list ≡ gs.faults source = ap (fault_count gs) one.1 ∙ add-zero (gs.faults source) in
        subst (StopFaults pass.stop) all (stop-faults pass.stop _ _ none rose)

    ends : IsTrue (gs.tells source) → StopSays pass.stop passed.done passed.line (gs.taken source) (gs.bytes source)
    ends told_all =
        let taken : j.taken ≡ gs.taken source = sym (stands.counted (telling ∙ told_all)) ∙ ap (taken_count gs) one.1 ∙ add-zero (gs.taken source) in
        let says_so = stop-says j.stopped _ _ _ _ j.given _ _ _ _ is_bound taken (telling ∙ told_all) told_bytes stands.stop_says in
        stop-holds pass.stop j.stopped passed.done passed.line j.given (gs.taken source) (gs.bytes source) passed.answer says_so
        (subst (λ (ls : List (List ℕ)). GivenLines pass.stop passed.done passed.line j.given ls) same_lines (passed.gave (telling ∙ told_all))) (first told_all)

    maps : MapsLines gs text flags pass [] prints' says' a d
    maps =
        let T : Type 0 = Tale E (Contents (Named S)) in
        record {
          mapping = m;
          reads = reads;
          sources = j.sources;
          source = source;
          done = passed.done;
          line = passed.line;
          prefix = passed.prefix;
          once = ap (λ (w : T). w.input_keeps) whole;
          kept = ap (λ (w : T). w.kept_input) whole;
          one = one.1;
          place = one.2.placed ∙ opens.place;
          input = λ told_all. one.2.same told_all ∙ opens.input (one.2.told told_all);
          printed = λ p. ap (λ (w : T). w.printed) whole ∙ passed.whole.printed t (printing p) ∙ ap (λ (w : T). w.printed ++ (blobl_text (task_of m flags) passed.done ++ passed.prefix)) opens.opens;
          said = λ p.
              ap (λ (w : T). w.lines) whole ∙ passed.whole.said t (saying p) ∙ ap (λ (w : T). w.lines ++ blobl_errors (task_of m flags) passed.done) opens.opens
              ∙ ap (λ (ls : List (List ℕ)). a.lines ++ ls) (sym (append-nil (blobl_errors (task_of m flags) passed.done)));
          prefix_is = passed.prefix_is;
          failed = passed.whole.failed;
          first = first;
          faults = faults;
          ends = ends;
        }

    pub went-mapped : BloblTells gs text flags (Ok pass) [] prints' says' a d
    went-mapped =
        let T : Type 0 = Tale E (Contents (Named S)) in
        record {
          part = source_opening ∷ [];
          calls = ap (λ (w : T). w.calls) whole;
          openings = refl;
          maps = maps;
          only = subst (λ (w : T). w ≡ record a { calls = w.calls; lines = w.lines; stdin = w.stdin; printed = w.printed; input_keeps = w.input_keeps; kept_input = w.kept_input }) (sym whole) refl;
        }

  -- no line could be read
  pub went-none : (h : Halt) (prints says : Bool) (a b : Tale E (Contents (Named S))) → OpensNone h a b → BloblTells gs text flags (Err h) [] prints says a b
  went-none h prints says a b opened =
      let T : Type 0 = Tale E (Contents (Named S)) in
      record {
        part = opened.part;
        calls = opened.calls;
        openings = opened.openings;
        maps =
            record {
              printed = ap (λ (w : T). w.printed) opened.only;
              said = λ p. ap (λ (w : T). w.lines) opened.only ∙ sym (append-nil a.lines);
              input_keeps = ap (λ (w : T). w.input_keeps) opened.only;
              kept_input = ap (λ (w : T). w.kept_input) opened.only;
            };
        only = subst (λ (w : T). w ≡ record a { calls = w.calls; lines = w.lines; stdin = w.stdin; printed = w.printed; input_keeps = w.input_keeps; kept_input = w.kept_input }) (sym opened.only) refl;
      }

  -- the text is no mapping that runs
  pub went-unread : (h : Halt) (prints says : Bool) (a : Tale E (Contents (Named S))) → IsUnread h → BloblTells gs text flags (Err h) [] prints says a a
  went-unread h prints says a none = record {
    part = [];
    calls = sym (append-nil a.calls);
    openings = unread-part h none;
    maps = record { printed = refl; said = λ p. sym (append-nil a.lines); input_keeps = refl; kept_input = refl };
    only = refl;
  }
    where
      unread-part : (h : Halt) → IsUnread h → IsHaltPart h []
      unread-part (halt.Faulty fault at) none = refl
      unread-part (halt.Lints lints) none = refl
      unread-part (halt.Pattern at) none = refl
      unread-part halt.NoSource none = absurd none
      unread-part halt.NoMemory none = (0, refl)

  -- the last lines were said
  module _ (last : List (List ℕ)) (prints says prints' says' : Bool) (a b c : Tale E (Contents (Named S))) (printing : IsTrue prints' → IsTrue prints) (saying : IsTrue says' → IsTrue says)
      (same : c ≡ record b { lines = c.lines }) (added : IsTrue says' → c.lines ≡ b.lines ++ last) where
    none-said : MapsNone [] says a b → MapsNone last says' a c
    none-said nothing = record {
      printed = ap (λ (w : Tale E (Contents (Named S))). w.printed) same ∙ nothing.printed;
      said = λ p. added p ∙ ap (λ (ls : List (List ℕ)). ls ++ last) (nothing.said (saying p) ∙ append-nil a.lines);
      input_keeps = ap (λ (w : Tale E (Contents (Named S))). w.input_keeps) same ∙ nothing.input_keeps;
      kept_input = ap (λ (w : Tale E (Contents (Named S))). w.kept_input) same ∙ nothing.kept_input;
    }

    lines-said : (pass : Pass) → MapsLines gs text flags pass [] prints says a b → MapsLines gs text flags pass last prints' says' a c
    lines-said pass mapped = record {
      mapping = mapped.mapping;
      reads = mapped.reads;
      sources = mapped.sources;
      source = mapped.source;
      done = mapped.done;
      line = mapped.line;
      prefix = mapped.prefix;
      once = ap (λ (w : Tale E (Contents (Named S))). w.input_keeps) same ∙ mapped.once;
      kept = ap (λ (w : Tale E (Contents (Named S))). w.kept_input) same ∙ mapped.kept;
      one = mapped.one;
      place = mapped.place;
      input = mapped.input;
      printed = λ p. ap (λ (w : Tale E (Contents (Named S))). w.printed) same ∙ mapped.printed (printing p);
      said = λ p. joined a.lines b.lines c.lines (blobl_errors (task_of mapped.mapping flags) mapped.done) last (mapped.said (saying p)) (added p);
      prefix_is = mapped.prefix_is;
      failed = mapped.failed;
      first = mapped.first;
      faults = mapped.faults;
      ends = mapped.ends;
    }

    maps-said : (r : Result Pass Halt) → MapsBy gs text flags r [] prints says a b → MapsBy gs text flags r last prints' says' a c
    maps-said (Ok pass) m = lines-said pass m
    maps-said (Err h) m = none-said m

    pub went-said : (r : Result Pass Halt) → BloblTells gs text flags r [] prints says a b → BloblTells gs text flags r last prints' says' a c
    went-said r went =
        let T : Type 0 = Tale E (Contents (Named S)) in
        let whole : c ≡ record a { calls = b.calls; lines = c.lines; stdin = b.stdin; printed = b.printed; input_keeps = b.input_keeps; kept_input = b.kept_input } =
        same ∙ ap (λ (w : T). record w { lines = c.lines }) went.only in
        record {
          part = went.part;
          calls = ap (λ (w : T). w.calls) same ∙ went.calls;
          openings = went.openings;
          maps = maps-said r went.maps;
          only = subst (λ (w : T). w ≡ record a { calls = w.calls; lines = w.lines; stdin = w.stdin; printed = w.printed; input_keeps = w.input_keeps; kept_input = w.kept_input }) (sym whole) refl;
        }

-- the counts of a `blobl` under other names
pub counts-named : (r : Result Pass Halt) (opens opens' opens'' prints prints' prints'' : ℕ) → opens'' ≡ opens' → prints'' ≡ prints' → BloblCounts r opens opens' prints prints' → BloblCounts r opens opens'' prints prints''
counts-named r opens opens' opens'' prints prints' prints'' p q counts = rw (p, q) counts

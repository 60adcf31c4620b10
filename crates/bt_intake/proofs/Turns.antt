-- What the answers say, and how far steps go.
use Rattle.std.proofs.Common.{◌≡◌, ℕ, ◌+◌, ◌-◌, ◌<◌, ◌≤◌, IsTrue, true, false, eqb, List, [], ◌∷◌, ◌++◌, length, take, drop, Option, Some, None, Result, Ok, Err, slice_get, refl, sym, ap, ◌∙◌, subst, arith, length-append, inl, inr}
use Rattle.std.proofs.lemmas.Bool.{cases_lt, cases_Bool, and_parts, and_from, eq-eqb, eqb-true, lt-leb, le-leb}
use Rattle.std.proofs.lemmas.List.{drop_all, length-drop, take_all}
use Rattle.std.proofs.Math.Seq.{drop-append-le, take-append-add}
use Rattle.std.proofs.lemmas.Option.{same_Some}
use Rattle.bt_ports.specs.declared.outside.Source as Source
use Rattle.bt_ports.specs.declared.NoMemory.{NoMemory}
use Rattle.bt_ports.specs.declared.parts.Item.{Item}
use Rattle.bt_lines.specs.Pieces.{begins, NoneBefore, NoneIn, FirstAt}
use Rattle.bt_lines.specs.Lines.{Line, byte_count, lines, first_long, reaches}
use Rattle.bt_lines.specs.Follows.{Follows}
use Rattle.bt_lines.specs.declared.TheConstants.{LONGEST}
use Rattle.bt_lines.proofs.Pieces.{begins-front, first-front, front-length}
use Rattle.bt_lines.proofs.Lines.{none_closed, open_comes, open_long, none_long, long-line, long-bytes, none_left, none_long_left, line, cut_piece-some, first-cut_long}
use Rattle.bt_intake.specs.declared.reader.LineReader.{LineReader}
use Rattle.bt_intake.specs.declared.reader.NextLine.{NextLine}
use Rattle.bt_intake.specs.declared.reader.NextLine.TheVariants as next
use Rattle.bt_intake.specs.Answers.{ShowsNoLong}
use Rattle.bt_intake.specs.Batches.{source_items}
use Rattle.bt_intake.specs.Ending.{MayEnd, IsTooLong}
use Rattle.bt_intake.specs.Reader.{uncut, rest, ReaderHolds, LinesLate, Goes, SaysOf, Answers, Gives, Steps, StepFaults, work, line_of}
use Rattle.bt_intake.specs.Sources.{all_tell, told, fault_count, SourcesKept, Ended}
use Rattle.bt_intake.proofs.SourceLists.{sources_kept-same, sources_kept-then, tell-kept, told-kept, rose-kept, rose-count}
use Rattle.bt_intake.proofs.Steps.{at_hand, get-dropped}
use Rattle.bt_intake.proofs.Rests.{get-inside, left, rest-at, follows-at, follows-split, follows-ended}

-- bytes that go over into the delimiter are its front
begins-cover : (d a more : List ℕ) → begins d (a ++ more) ≡ true → length a ≤ length d → begins a d ≡ true
begins-cover d [] more e h = refl
begins-cover [] (x ∷ a) more e h = absurd (omega (arith, h))
begins-cover (y ∷ d) (x ∷ a) more e h =
    let p = and_parts (eqb y x) (begins d (a ++ more)) e in
    and_from (eqb x y) (begins a d) (eq-eqb x y (sym (eqb-true y x p.0))) (begins-cover d a more p.1 (omega (arith, h)))

pub dropped_all : {A : Type 0} (n : ℕ) (xs : List A) → drop n xs ≡ [] → length xs ≤ n
dropped_all n xs e = omega (arith, ap length e, length-drop n xs)

module _ {S : Type 0} (g : Source.Ghosts S) where
  -- nothing was read
  pub goes-still : (s t : LineReader S) → t.sources ≡ s.sources → t.delimiter ≡ s.delimiter → t.bound ≡ s.bound → t.taken ≡ s.taken → Goes g s t
  goes-still s t e d b k = record {
    kept = subst (λ c. SourcesKept g s.sources.list c.list) (sym e) (sources_kept-same g s.sources.list);
    delimiter = d;
    bound = b;
    taken = omega (arith, k);
    late = λ q h. absurd (omega (arith, k, h));
  }

  -- two ways in a row, where none of the first one's answers was a line
  pub goes-then : (s t u : LineReader S) → t.given ≡ s.given → Goes g s t → Goes g t u → Goes g s u
  goes-then s t u e a b = record {
    kept = sources_kept-then g s.sources.list t.sources.list u.sources.list a.kept b.kept;
    delimiter = b.delimiter ∙ a.delimiter;
    bound = b.bound ∙ a.bound;
    taken = omega (arith, a.taken, b.taken);
    late = λ q h. elim (cases_lt t.taken u.taken) [
      | inl k ↦
          let l = subst (λ d. LinesLate d t.taken u.taken t.given (told g u.sources.list)) a.delimiter (b.late q k) in
          record {
            m = l.m;
            from = omega (arith, a.taken, l.from);
            to = l.to;
            rises = l.rises;
            closed_given = omega (arith, l.closed_given, e);
            no_long = l.no_long;
          }
      | inr k ↦
          let same : u.taken ≡ t.taken = omega (arith, k, b.taken) in
          let q2 = tell-kept g t.sources.list u.sources.list b.kept q in
          let l = a.late q2 (omega (arith, h, same)) in
          let bytes : told g u.sources.list ≡ told g t.sources.list = told-kept g t.sources.list u.sources.list b.kept q in
          subst (λ n. LinesLate s.delimiter s.taken n s.given (told g u.sources.list)) (sym same) (subst (LinesLate s.delimiter s.taken t.taken s.given) (sym bytes) l)
    ];
  }

  pub answers-then : (answer : NextLine) (s t u : LineReader S) → t.given ≡ s.given → Goes g s t → Answers g answer t u → Answers g answer s u
  answers-then (next.Line i) s t u e a b = record {
    given = omega (arith, b.given, e);
    next = λ q. ap (slice_get (source_items s.delimiter s.bound (told g u.sources.list))) (sym e)
        ∙ ap (λ k. slice_get (source_items s.delimiter k (told g u.sources.list)) t.given) (sym a.bound)
        ∙ ap (λ d. slice_get (source_items d t.bound (told g u.sources.list)) t.given) (sym a.delimiter) ∙ b.next q;
  }
  answers-then next.End s t u e a b = (b.0 ∙ e, b.1)
  answers-then next.Failed s t u e a b = (b.0 ∙ e, rose-kept g s.sources.list t.sources.list u.sources.list a.kept b.1, b.2)
  answers-then (next.LongLine n) s t u e a b = (b.0 ∙ e, b.1)
  answers-then next.Bound s t u e a b = (b.0 ∙ e, b.1)
  answers-then next.NoMemory s t u e a b = b ∙ e

  -- a line that was given is the answer
  pub gives-answers : (r : Result Item NoMemory) (s t : LineReader S) → Gives g r s t → Answers g (line_of r) s t
  gives-answers (Ok i) s t h = h
  gives-answers (Err e) s t h = h

  -- two steps in a row, of which the first one gave no answer and left no more work
  pub steps-then : (r : Option NextLine) (s t u : LineReader S) → t.given ≡ s.given → work t ≤ work s → Goes g s t → Steps g r t u → Steps g r s u
  steps-then None s t u e w a b = (b.0 ∙ e, omega (arith, w, b.1))
  steps-then (Some answer) s t u e w a b = answers-then answer s t u e a b

  -- where no source was touched no count rose
  pub faults-still : (r : Option NextLine) (s t : LineReader S) → t.sources ≡ s.sources → Steps g r s t → StepFaults r (fault_count g s.sources.list) (fault_count g t.sources.list)
  faults-still None s t e h = ap (λ c. fault_count g c.list) e
  faults-still (Some (next.Line i)) s t e h = ap (λ c. fault_count g c.list) e
  faults-still (Some next.End) s t e h = ap (λ c. fault_count g c.list) e
  faults-still (Some next.Failed) s t e h =
      rose-count g s.sources.list t.sources.list (subst (λ c. SourcesKept g s.sources.list c.list) (sym e) (sources_kept-same g s.sources.list)) h.1
  faults-still (Some (next.LongLine n)) s t e h = ap (λ c. fault_count g c.list) e
  faults-still (Some next.Bound) s t e h = ap (λ c. fault_count g c.list) e
  faults-still (Some next.NoMemory) s t e h = tt

  -- a count that stood still before a step
  pub faults-then : (r : Option NextLine) (before between after : ℕ) → between ≡ before → StepFaults r between after → StepFaults r before after
  faults-then r before between after e h = subst (λ k. StepFaults r k after) e h

  module _ (s : LineReader S) (stands : ReaderHolds g s) where
    -- all items were given where none is to come
    given_all : IsTrue (all_tell g s.sources.list) → drop s.given (source_items s.delimiter s.bound (told g s.sources.list)) ≡ [] → length (source_items s.delimiter s.bound (told g s.sources.list)) ≡ s.given
    given_all q e = omega (arith, dropped_all s.given _ e, stands.in_list q)

    -- the line to come is too long
    says-long : (IsTrue (all_tell g s.sources.list)
        → (drop s.given (source_items s.delimiter s.bound (told g s.sources.list)) ≡ []) × (first_long 1 (lines s.delimiter s.bound (told g s.sources.list)) ≡ Some (s.given + 1))) → SaysOf g (next.LongLine (s.given + 1)) s
    says-long h = (λ q. let e = (h q).1 in rw e refl, λ q. given_all q (h q).0)

    -- a delimiter ends it
    pub says-long_line : (n : ℕ) → FirstAt s.delimiter (uncut s) n → LONGEST < n → SaysOf g (next.LongLine (s.given + 1)) s
    says-long_line n first more = says-long (λ q.
        let (m, at) = get-inside s.sources.list s.at (at_hand g s stands (omega (arith, first.inside, stands.some))) in
        long-line s.delimiter stands.some (told g s.sources.list) s.given s.taken m.path (rest g [] (drop (s.at + 1) s.sources.list)) (take (n + length s.delimiter) (uncut s)) (drop (n + length s.delimiter) (uncut s)) (left g m) n
        (first-front s.delimiter (uncut s) n first) (front-length s.delimiter (uncut s) n first)
        (follows-split g s.delimiter (told g s.sources.list) s.given s.taken s.sources.list s.at m at (uncut s) (n + length s.delimiter) (stands.follows q)) more s.bound stands.within_bound)

    -- no source is left
    gone : length s.sources.list ≤ s.at → IsTrue (all_tell g s.sources.list) → Follows s.delimiter (told g s.sources.list) s.given s.taken [] []
    gone h q =
        let e : drop s.at s.sources.list ≡ [] = drop_all s.at s.sources.list h in
        subst (λ u. Follows s.delimiter (told g s.sources.list) s.given s.taken u []) (stands.done h)
        (subst (λ ns. Follows s.delimiter (told g s.sources.list) s.given s.taken (uncut s) (rest g (uncut s) ns)) e (stands.follows q))

    -- the sources have as many bytes as were taken
    counts_rest : length (uncut s) ≤ byte_count (rest g (uncut s) (drop s.at s.sources.list))
    counts_rest = elim (cases_lt s.at (length s.sources.list)) [
      | inl here ↦
          let (m, at) = get-inside s.sources.list s.at here in
          omega (arith, ap byte_count (rest-at g (uncut s) s.sources.list s.at m at), length-append (uncut s) (left g m))
      | inr h ↦ omega (arith, ap length (stands.done h))
    ]

    all_taken : IsTrue (all_tell g s.sources.list) → s.taken ≤ byte_count (told g s.sources.list)
    all_taken q = let f = stands.follows q in omega (arith, f.totals, counts_rest)

    -- no source is left, and room is
    pub says-end : length s.sources.list ≤ s.at → s.taken < s.bound → SaysOf g next.End s
    says-end h room = (
      room,
      λ q.
          let f = gone h q in
          let l = none_long_left s.delimiter stands.some (told g s.sources.list) s.given s.taken s.bound stands.within_bound f in
          let r : reaches s.bound (told g s.sources.list) ≡ false = lt-leb _ _ (omega (arith, f.totals, room)) in
          rw l (rw r refl),
      λ q. given_all q (none_left s.delimiter stands.some (told g s.sources.list) s.given s.taken s.bound stands.within_bound (gone h q)),
    )

    -- no delimiter stands in the bytes that aren't cut
    module _ (none : NoneIn s.delimiter (uncut s)) where
      module _ (q : IsTrue (all_tell g s.sources.list)) where
        -- each item that is closed so far was given
        pub all_closed : drop s.given (source_items s.delimiter s.taken (told g s.sources.list)) ≡ []
        all_closed = elim (cases_lt s.at (length s.sources.list)) [
          | inl here ↦
              let (m, at) = get-inside s.sources.list s.at here in
              none_closed s.delimiter stands.some (told g s.sources.list) s.given s.taken m.path (rest g [] (drop (s.at + 1) s.sources.list)) (uncut s) (left g m)
              (follows-at g s.delimiter (told g s.sources.list) s.given s.taken s.sources.list s.at m at (uncut s) (stands.follows q)) none
          | inr h ↦ none_left s.delimiter stands.some (told g s.sources.list) s.given s.taken s.taken (omega arith) (gone h q)
        ]

        -- and none is long so far where the open one isn't
        none_long_yet : length (uncut s) ≤ LONGEST → first_long 1 (lines s.delimiter s.taken (told g s.sources.list)) ≡ None
        none_long_yet few = elim (cases_lt s.at (length s.sources.list)) [
          | inl here ↦
              let (m, at) = get-inside s.sources.list s.at here in
              none_long s.delimiter stands.some (told g s.sources.list) s.given s.taken m.path (rest g [] (drop (s.at + 1) s.sources.list)) (uncut s) (left g m)
              (follows-at g s.delimiter (told g s.sources.list) s.given s.taken s.sources.list s.at m at (uncut s) (stands.follows q)) none few
          | inr h ↦ none_long_left s.delimiter stands.some (told g s.sources.list) s.given s.taken s.taken (omega arith) (gone h q)
        ]

        -- the open line is long so far: it is the first long one
        module _ (many : LONGEST < length (uncut s)) where
          long_yet : first_long 1 (lines s.delimiter s.taken (told g s.sources.list)) ≡ Some (s.given + 1)
          long_yet =
              let (m, at) = get-inside s.sources.list s.at (at_hand g s stands (omega (arith, many))) in
              open_long s.delimiter stands.some (told g s.sources.list) s.given s.taken m.path (rest g [] (drop (s.at + 1) s.sources.list)) (uncut s) (left g m)
              (follows-at g s.delimiter (told g s.sources.list) s.given s.taken s.sources.list s.at m at (uncut s) (stands.follows q)) none
              ∙ first-cut_long s.delimiter stands.some (s.given + 1) m.path (uncut s) many

          open_line : (l : Line) × (slice_get (lines s.delimiter s.taken (told g s.sources.list)) s.given ≡ Some l) × (l.bytes ≡ uncut s)
          open_line =
              let (m, at) = get-inside s.sources.list s.at (at_hand g s stands (omega (arith, many))) in (
                line m.path (uncut s) false,
                get-dropped s.given _ _ [] (open_comes s.delimiter stands.some (told g s.sources.list) s.given s.taken m.path (rest g [] (drop (s.at + 1) s.sources.list)) (uncut s) (left g m)
                    (follows-at g s.delimiter (told g s.sources.list) s.given s.taken s.sources.list s.at m at (uncut s) (stands.follows q)) none
                    ∙ cut_piece-some s.delimiter stands.some m.path (uncut s) (omega (arith, many))),
                refl,
              )

      -- the bound is reached
      module _ (full : s.taken ≡ s.bound) where
        at_full : IsTrue (all_tell g s.sources.list) → drop s.given (source_items s.delimiter s.bound (told g s.sources.list)) ≡ []
        at_full q = ap (λ k. drop s.given (source_items s.delimiter k (told g s.sources.list))) (sym full) ∙ all_closed q

        pub says-long_full : LONGEST < length (uncut s) → SaysOf g (next.LongLine (s.given + 1)) s
        says-long_full many = says-long (λ q. (at_full q, ap (λ k. first_long 1 (lines s.delimiter k (told g s.sources.list))) (sym full) ∙ long_yet q many))

        pub says-bound : length (uncut s) ≤ LONGEST → SaysOf g next.Bound s
        says-bound few = (
          full,
          λ q.
              let l = ap (λ k. first_long 1 (lines s.delimiter k (told g s.sources.list))) (sym full) ∙ none_long_yet q few in
              let r : reaches s.bound (told g s.sources.list) ≡ true = le-leb _ _ (omega (arith, all_taken q, full)) in
              rw l (rw r refl),
          λ q. given_all q (at_full q),
        )

      -- no bytes that may still come end the open line in time
      module _ (far : IsTooLong s.delimiter (uncut s)) where
        none_ahead : (more : List ℕ) → NoneBefore s.delimiter (LONGEST + 1) (uncut s ++ more)
        none_ahead more k h =
            ap (begins s.delimiter) (drop-append-le k (uncut s) more (omega (arith, h, far.many))) ∙ elim (cases_lt (length (uncut s)) (k + length s.delimiter)) [
              | inl over ↦ elim (cases_Bool (begins s.delimiter (drop k (uncut s) ++ more))) [
                | inl e ↦
                    let front = begins-cover s.delimiter (drop k (uncut s)) more e (omega (arith, length-drop k (uncut s), over)) in
                    let other = far.no_front k (omega (arith, h)) over in
                    cc
                | inr e ↦ e
              ]
              | inr within ↦ begins-front s.delimiter (drop k (uncut s)) more (omega (arith, length-drop k (uncut s), within)) ∙ none k
            ]

        pub says-long_ahead : SaysOf g (next.LongLine (s.given + 1)) s
        says-long_ahead = says-long (λ q.
            let (m, at) = get-inside s.sources.list s.at (at_hand g s stands (omega (arith, far.many))) in
            let more : List ℕ = take (s.bound - s.taken) (left g m) in
            let e : take (length (uncut s) + (s.bound - s.taken)) (uncut s ++ left g m) ≡ uncut s ++ more = take-append-add (uncut s) (left g m) (s.bound - s.taken) in
            long-bytes s.delimiter stands.some (told g s.sources.list) s.given s.taken m.path (rest g [] (drop (s.at + 1) s.sources.list)) (uncut s) (uncut s ++ left g m) s.bound stands.within_bound
            (follows-at g s.delimiter (told g s.sources.list) s.given s.taken s.sources.list s.at m at (uncut s) (stands.follows q))
            (subst (NoneBefore s.delimiter (LONGEST + 1)) (sym e) (none_ahead more)) (omega (arith, ap length e, length-append (uncut s) more, far.many)))

      -- a source that ended leaves too many
      pub says-long_last : s.at < length s.sources.list → (IsTrue (all_tell g s.sources.list) → Ended g s.sources.list s.at) → LONGEST < length (uncut s) → SaysOf g (next.LongLine (s.given + 1)) s
      says-long_last here ended many = says-long (λ q.
          let e = ended q in
          let whole : take (length (uncut s) + (s.bound - s.taken)) (uncut s) ≡ uncut s = take_all (length (uncut s) + (s.bound - s.taken)) (uncut s) (omega arith) in
          long-bytes s.delimiter stands.some (told g s.sources.list) s.given s.taken e.at_hand.path (rest g [] (drop (s.at + 1) s.sources.list)) (uncut s) (uncut s) s.bound stands.within_bound
          (follows-ended g s.delimiter (told g s.sources.list) s.given s.taken s.sources.list s.at e.at_hand e.found (uncut s) e.none_left (stands.follows q))
          (subst (NoneBefore s.delimiter (LONGEST + 1)) (sym whole) (λ k h. none k)) (omega (arith, ap length whole, many)))

      -- a read behind the bytes so far was late
      shows_none : MayEnd s.delimiter (uncut s) → IsTrue (all_tell g s.sources.list) → ShowsNoLong s.delimiter s.taken (told g s.sources.list)
      shows_none may q n e = elim (cases_lt LONGEST (length (uncut s))) [
        | inl many ↦
            let (l, found, is) = open_line q many in
            let one : s.given + 1 ≡ n = same_Some _ _ (sym (long_yet q many) ∙ e) in
            let k : n - 1 ≡ s.given = omega (arith, one) in
            (l, ap (slice_get (lines s.delimiter s.taken (told g s.sources.list))) k ∙ found, subst (MayEnd s.delimiter) (sym is) may)
        | inr few ↦ let no = none_long_yet q (omega (arith, few)) in cc
      ]

      pub reads-late : MayEnd s.delimiter (uncut s) → (t : LineReader S) → SourcesKept g s.sources.list t.sources.list → s.taken < t.taken → t.taken ≤ s.taken + 4096
          → IsTrue (all_tell g t.sources.list) → LinesLate s.delimiter s.taken t.taken s.given (told g t.sources.list)
      reads-late may t kept rises few q =
          let before = tell-kept g s.sources.list t.sources.list kept q in
          subst (LinesLate s.delimiter s.taken t.taken s.given) (sym (told-kept g s.sources.list t.sources.list kept q)) (record {
            m = s.taken;
            from = omega arith;
            to = few;
            rises = rises;
            closed_given = dropped_all s.given _ (all_closed before);
            no_long = shows_none may before;
          })

      -- a read failed: what was closed before it was given
      pub says-failed : (t : LineReader S) → SourcesKept g s.sources.list t.sources.list → t.delimiter ≡ s.delimiter → t.taken ≡ s.taken → t.given ≡ s.given → SaysOf g next.Failed t
      says-failed t kept d k n q =
          let before = tell-kept g s.sources.list t.sources.list kept q in
          let e : source_items t.delimiter t.taken (told g t.sources.list) ≡ source_items s.delimiter s.taken (told g s.sources.list) =
          ap (λ x. source_items x t.taken (told g t.sources.list)) d ∙ ap (λ x. source_items s.delimiter x (told g t.sources.list)) k ∙ ap (source_items s.delimiter s.taken) (told-kept g s.sources.list t.sources.list kept q) in
          omega (arith, ap length e, dropped_all s.given _ (all_closed before), n)

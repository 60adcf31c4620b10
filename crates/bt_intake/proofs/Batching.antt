-- What stands of the batches after each of their steps.
use Rattle.std.proofs.Common.{◌≡◌, ℕ, ◌+◌, ◌-◌, ◌^◌, ◌<◌, ◌≤◌, IsTrue, Bool, true, false, ◌&&◌, ◌||◌, List, [], ◌∷◌, ◌++◌, length, Option, Some, None, slice_get, nat_lt, refl, sym, ap, ◌∙◌, subst, arith, length-append, inl, inr}
use Rattle.std.proofs.lemmas.Bool.{le-leb, cases_lt}
use Rattle.bt_ports.specs.Contents.{Contents}
use Rattle.bt_ports.specs.Intake.{NextFaults}
use Rattle.bt_ports.specs.declared.parts.Item.{Item}
use Rattle.bt_ports.specs.declared.parts.Next.{Next}
use Rattle.bt_ports.specs.declared.parts.Next.TheVariants as next
use Rattle.bt_ports.specs.declared.outside.Source as Source
use Rattle.bt_lines.proofs.Closed.{items-closed}
use Rattle.bt_cut.specs.Cuts.{cut}
use Rattle.bt_intake.specs.declared.batches.Batches.{Batches}
use Rattle.bt_intake.specs.declared.policy.Policy.{Policy}
use Rattle.bt_intake.specs.declared.reader.LineReader.{LineReader}
use Rattle.bt_intake.specs.Batches.{ends, is_off, source_items}
use Rattle.bt_intake.specs.Gathering.{CutSoFar, BatchesHold, Gathers, GivesBatch, GivesNone, BatchAnswers, BatchSteps, Added, AddedOpen, AddsLast, Stops, StopsWith, items_of, batches_of, size_of, rest_or, SaysOf}
use Rattle.bt_intake.specs.Reader.{ReaderHolds, Goes, GivesLine, AllGiven}
use Rattle.bt_intake.specs.Sources.{all_tell, told, fault_count}
use Rattle.bt_intake.specs.Answers.{ReadsLate}
use Rattle.bt_intake.proofs.SourceLists.{sources_kept-same, sources_kept-then, tell-kept, told-kept, rose-kept}
use Rattle.bt_intake.proofs.SoFar.{so_far-on, so_far-next, so_far-ended, so_far-all, so_far-last, so_far-behind, so_far-front}

either : (a b c : Bool) → a ≡ true → b ≡ true → (a && b) || c ≡ true
either true true c e f = refl
either true false c e f = cc
either false b c e f = cc

pub either_first : (a b : Bool) → a ≡ true → a || b ≡ true
either_first true b e = refl
either_first false b e = cc

-- with no condition on a batch of one item ends
off_ends : (p : Policy) (batch : List Item) → is_off p ≡ true → 1 ≤ length batch → ends p batch ≡ true
off_ends p batch off some = either_first _ _ (either (is_off p) (nat_lt 0 (length batch)) _ off (le-leb 1 (length batch) some))

module _ {S : Type 0} (g : Source.Ghosts S) (b c : Batches S) (holds : BatchesHold g b) (alive : b.lost ≡ false) (goes : Goes g b.reader c.reader) (policy : c.policy ≡ b.policy) where
  before : IsTrue (all_tell g c.reader.sources.list) → IsTrue (all_tell g b.reader.sources.list)
  before = tell-kept g b.reader.sources.list c.reader.sources.list goes.kept

  same_told : IsTrue (all_tell g c.reader.sources.list) → told g c.reader.sources.list ≡ told g b.reader.sources.list
  same_told = told-kept g b.reader.sources.list c.reader.sources.list goes.kept

  same_items : IsTrue (all_tell g c.reader.sources.list) → items_of g c ≡ items_of g b
  same_items q =
      ap (λ d. source_items d c.reader.bound (told g c.reader.sources.list)) goes.delimiter
      ∙ ap (λ n. source_items b.reader.delimiter n (told g c.reader.sources.list)) goes.bound
      ∙ ap (source_items b.reader.delimiter b.reader.bound) (same_told q)

  same_batches : IsTrue (all_tell g c.reader.sources.list) → batches_of g c ≡ batches_of g b
  same_batches q = ap (λ p. cut (ends p) (items_of g c)) policy ∙ ap (cut (ends b.policy)) (same_items q)

  carried : IsTrue (all_tell g c.reader.sources.list) → (piece : List Item) (given done : ℕ) → CutSoFar (ends b.policy) (items_of g b) piece given done
      → c.batch.list ≡ piece → c.given ≡ given → c.reader.given ≡ done → CutSoFar (ends c.policy) (items_of g c) c.batch.list c.given c.reader.given
  carried q piece given done h is n k =
      subst (λ p. CutSoFar (ends p) (items_of g c) c.batch.list c.given c.reader.given) (sym policy)
      (subst (λ xs. CutSoFar (ends b.policy) xs c.batch.list c.given c.reader.given) (sym (same_items q))
      (subst (λ p. CutSoFar (ends b.policy) (items_of g b) p c.given c.reader.given) (sym is)
      (subst (λ m. CutSoFar (ends b.policy) (items_of g b) piece m c.reader.given) (sym n)
      (subst (CutSoFar (ends b.policy) (items_of g b) piece given) (sym k) h))))

  gathers : ReaderHolds g c.reader → Gathers g b c
  gathers reader = record {
    kept = goes.kept;
    delimiter = goes.delimiter;
    policy = policy;
    bound = goes.bound;
    taken = goes.taken;
    late = λ q h.
        let l = goes.late q h in
        let fits : l.m ≤ b.reader.bound = omega (arith, l.rises, reader.within_bound, goes.bound) in
        let ss = told g c.reader.sources.list in
        let so = subst (λ zs. CutSoFar (ends b.policy) (source_items b.reader.delimiter b.reader.bound zs) b.batch.list b.given b.reader.given) (sym (same_told q)) (holds.so_far alive (before q)) in
        let (later, is) = items-closed b.reader.delimiter holds.reader.some l.m b.reader.bound ss fits in
        record {
          m = l.m;
          from = l.from;
          to = l.to;
          rises = l.rises;
          closed_given = so_far-front (ends b.policy) (source_items b.reader.delimiter b.reader.bound ss) b.batch.list b.given b.reader.given so (source_items b.reader.delimiter l.m ss) later is l.closed_given;
          no_long = l.no_long;
        };
  }

  -- a line came
  module _ (reader : ReaderHolds g c.reader) (i : Item) (gives : GivesLine g b.reader c.reader i) where
    found : IsTrue (all_tell g c.reader.sources.list) → slice_get (items_of g b) b.reader.given ≡ Some i
    found q = ap (λ ss. slice_get (source_items b.reader.delimiter b.reader.bound ss) b.reader.given) (sym (same_told q)) ∙ gives.next q

    added_so_far : c.batch.list ≡ b.batch.list ++ i ∷ [] → c.given ≡ b.given → ends b.policy (b.batch.list ++ i ∷ []) ≡ false
        → IsTrue (all_tell g c.reader.sources.list) → CutSoFar (ends c.policy) (items_of g c) c.batch.list c.given c.reader.given
    added_so_far is n goes_on q = carried q (b.batch.list ++ i ∷ []) b.given (b.reader.given + 1)
        (so_far-on (ends b.policy) (items_of g b) b.batch.list b.given b.reader.given (holds.so_far alive (before q)) i (found q) goes_on) is n gives.given

    ended_so_far : c.batch.list ≡ [] → c.given ≡ b.given + 1 → ends b.policy (b.batch.list ++ i ∷ []) ≡ true
        → IsTrue (all_tell g c.reader.sources.list) → CutSoFar (ends c.policy) (items_of g c) c.batch.list c.given c.reader.given
    ended_so_far empty n ends_so q = carried q [] (b.given + 1) (b.reader.given + 1)
        (so_far-ended (ends b.policy) (items_of g b) b.batch.list b.given b.reader.given (holds.so_far alive (before q)) i (found q) ends_so) empty n gives.given

    holds_added : length b.batch.list + 1 < 2 ^ 32 → c.batch.list ≡ b.batch.list ++ i ∷ [] → c.size ≡ size_of (b.batch.list ++ i ∷ []) → c.given ≡ b.given → ends b.policy (b.batch.list ++ i ∷ []) ≡ false → BatchesHold g c
    holds_added few is size n goes_on = record {
      reader = reader;
      size = size ∙ ap size_of (sym is);
      counts = omega (arith, n, ap length is, length-append b.batch.list (i ∷ []), gives.given, holds.counts);
      few = omega (arith, few, ap length is, length-append b.batch.list (i ∷ []));
      alone = λ off.
          let ends_so = off_ends b.policy (b.batch.list ++ i ∷ []) (ap is_off (sym policy) ∙ off) (omega (arith, length-append b.batch.list (i ∷ []))) in
          cc;
      listed = λ q. (added_so_far is n goes_on q).in_list;
      so_far = λ _ q. added_so_far is n goes_on q;
    }

    holds_ended : c.batch.list ≡ [] → c.size ≡ 0 → c.given ≡ b.given + 1 → ends b.policy (b.batch.list ++ i ∷ []) ≡ true → BatchesHold g c
    holds_ended empty zero n ends_so = record {
      reader = reader;
      size = zero ∙ ap size_of (sym empty);
      counts = omega (arith, n, ap length empty, gives.given, holds.counts);
      few = omega (arith, ap length empty);
      alone = λ off. (empty, omega (arith, gives.given, n, (holds.alone (ap is_off (sym policy) ∙ off)).1));
      listed = λ q. (ended_so_far empty n ends_so q).in_list;
      so_far = λ _ q. ended_so_far empty n ends_so q;
    }

    -- it is open whether the batch ends
    holds_open : length b.batch.list + 1 < 2 ^ 32 → c.batch.list ≡ b.batch.list ++ i ∷ [] → c.size ≡ size_of (b.batch.list ++ i ∷ []) → c.given ≡ b.given → c.lost ≡ true → is_off b.policy ≡ false → BatchesHold g c
    holds_open few is size n lost on = record {
      reader = reader;
      size = size ∙ ap size_of (sym is);
      counts = omega (arith, n, ap length is, length-append b.batch.list (i ∷ []), gives.given, holds.counts);
      few = omega (arith, few, ap length is, length-append b.batch.list (i ∷ []));
      alone = λ off. let on_there : is_off c.policy ≡ false = ap is_off policy ∙ on in cc;
      listed = λ q. omega (arith, n, ap length (same_batches q), holds.listed (before q));
      so_far = λ still q. cc;
    }

    gives_ended : length b.batch.list + 1 < 2 ^ 32 → (items : List Item) → items ≡ b.batch.list ++ i ∷ [] → c.batch.list ≡ [] → c.given ≡ b.given + 1 → ends b.policy (b.batch.list ++ i ∷ []) ≡ true → GivesBatch g b c items
    gives_ended few items is empty n ends_so = record {
      some = omega (arith, ap length is, length-append b.batch.list (i ∷ []));
      few = omega (arith, few, ap length is, length-append b.batch.list (i ∷ []));
      one = λ off. omega (arith, ap length is, length-append b.batch.list (i ∷ []), ap length (holds.alone off).0);
      given = n;
      counted = omega (arith, ap length is, length-append b.batch.list (i ∷ []), ap length empty, gives.given, holds.counts);
      next = λ q. ap (λ bs. slice_get bs b.given) (same_batches q)
          ∙ so_far-next (ends b.policy) (items_of g b) b.batch.list b.given b.reader.given (holds.so_far alive (before q)) i (found q) ends_so ∙ ap Some (sym is);
    }

  -- no line is left
  module _ (reader : ReaderHolds g c.reader) (same : c.reader.given ≡ b.reader.given) (all : AllGiven g c.reader) where
    all_taken : IsTrue (all_tell g c.reader.sources.list) → length (items_of g b) ≤ b.reader.given
    all_taken q = omega (arith, ap length (same_items q), all q, same)

    all_batches : c.given ≡ b.given → b.batch.list ≡ [] → IsTrue (all_tell g c.reader.sources.list) → length (batches_of g c) ≡ c.given
    all_batches n empty q =
        ap length (same_batches q) ∙ so_far-all (ends b.policy) (items_of g b) b.batch.list b.given b.reader.given (holds.so_far alive (before q)) (all_taken q) empty ∙ sym n

    behind_so_far : 1 ≤ length b.batch.list → c.batch.list ≡ [] → c.given ≡ b.given + 1
        → IsTrue (all_tell g c.reader.sources.list) → CutSoFar (ends c.policy) (items_of g c) c.batch.list c.given c.reader.given
    behind_so_far some empty n q = carried q [] (b.given + 1) b.reader.given
        (so_far-behind (ends b.policy) (items_of g b) b.batch.list b.given b.reader.given (holds.so_far alive (before q)) (all_taken q) some) empty n same

    holds_behind : 1 ≤ length b.batch.list → c.batch.list ≡ [] → c.size ≡ 0 → c.given ≡ b.given + 1 → BatchesHold g c
    holds_behind some empty zero n = record {
      reader = reader;
      size = zero ∙ ap size_of (sym empty);
      counts = omega (arith, n, ap length empty, same, holds.counts, some);
      few = omega (arith, ap length empty);
      alone = λ off. absurd (omega (arith, some, ap length (holds.alone (ap is_off (sym policy) ∙ off)).0));
      listed = λ q. (behind_so_far some empty n q).in_list;
      so_far = λ _ q. behind_so_far some empty n q;
    }

    gives_last : (items : List Item) → 1 ≤ length b.batch.list → items ≡ b.batch.list → c.batch.list ≡ [] → c.given ≡ b.given + 1 → GivesBatch g b c items
    gives_last items some is empty n = record {
      some = omega (arith, some, ap length is);
      few = omega (arith, holds.few, ap length is);
      one = λ off. absurd (omega (arith, some, ap length (holds.alone off).0));
      given = n;
      counted = omega (arith, ap length is, ap length empty, same, holds.counts);
      next = λ q. ap (λ bs. slice_get bs b.given) (same_batches q)
          ∙ so_far-last (ends b.policy) (items_of g b) b.batch.list b.given b.reader.given (holds.so_far alive (before q)) (all_taken q) some ∙ ap Some (sym is);
    }

module _ {S : Type 0} (g : Source.Ghosts S) (b : Batches S) (holds : BatchesHold g b) (alive : b.lost ≡ false) (t : LineReader S) (reader : ReaderHolds g t) (goes : Goes g b.reader t) where
  -- what the reader did, and the batch at hand as it was
  abbrev still : Batches S
  still = record b { reader = t }

  pub gathers-still : Gathers g b still
  gathers-still = gathers g b still holds alive goes refl reader

  -- an item was added, which didn't end the batch
  module _ (i : Item) (gives : GivesLine g b.reader t i) (few : length b.batch.list + 1 < 2 ^ 32) (c : Batches S) where
    module _ (added : Added i still c) where
      there : Goes g b.reader c.reader
      there = subst (Goes g b.reader) (sym added.reader) goes

      stands_there : ReaderHolds g c.reader
      stands_there = subst (ReaderHolds g) (sym added.reader) reader

      gives_there : GivesLine g b.reader c.reader i
      gives_there = subst (λ r. GivesLine g b.reader r i) (sym added.reader) gives

      pub added-holds : BatchesHold g c
      added-holds = holds_added g b c holds alive there added.policy stands_there i gives_there few added.batch added.size added.given added.ended

      pub added-gathers : Gathers g b c
      added-gathers = gathers g b c holds alive there added.policy stands_there

      pub added-steps : BatchSteps g None b c
      added-steps = (
        record {
          given = added.given;
          counted = omega (arith, ap length added.batch, length-append b.batch.list (i ∷ []), gives_there.given, holds.counts);
        },
        gives_there.given,
      )

    -- want of memory left open whether it did
    module _ (added : AddedOpen i still c) where
      there_open : Goes g b.reader c.reader
      there_open = subst (Goes g b.reader) (sym added.reader) goes

      stands_open : ReaderHolds g c.reader
      stands_open = subst (ReaderHolds g) (sym added.reader) reader

      gives_open : GivesLine g b.reader c.reader i
      gives_open = subst (λ r. GivesLine g b.reader r i) (sym added.reader) gives

      pub open-holds : BatchesHold g c
      open-holds = holds_open g b c holds alive there_open added.policy stands_open i gives_open few added.batch added.size added.given added.lost added.on

      pub open-gathers : Gathers g b c
      open-gathers = gathers g b c holds alive there_open added.policy stands_open

      pub open-steps : GivesNone b c
      open-steps = record {
        given = added.given;
        counted = omega (arith, ap length added.batch, length-append b.batch.list (i ∷ []), gives_open.given, holds.counts);
      }

    -- it ended the batch
    module _ (items : List Item) (added : AddsLast i items still c) where
      there_last : Goes g b.reader c.reader
      there_last = subst (Goes g b.reader) (sym added.reader) goes

      stands_last : ReaderHolds g c.reader
      stands_last = subst (ReaderHolds g) (sym added.reader) reader

      gives_line : GivesLine g b.reader c.reader i
      gives_line = subst (λ r. GivesLine g b.reader r i) (sym added.reader) gives

      pub ended-holds : BatchesHold g c
      ended-holds = holds_ended g b c holds alive there_last added.policy stands_last i gives_line added.empty added.none added.given added.ended

      pub ended-gathers : Gathers g b c
      ended-gathers = gathers g b c holds alive there_last added.policy stands_last

      pub ended-gives : GivesBatch g b c items
      ended-gives = gives_ended g b c holds alive there_last added.policy stands_last i gives_line few items added.gives added.empty added.given added.ended

  -- no line came
  module _ (same : t.given ≡ b.reader.given) where
    still_so_far : IsTrue (all_tell g t.sources.list) → CutSoFar (ends b.policy) (items_of g still) b.batch.list b.given t.given
    still_so_far q = carried g b still holds alive goes refl q b.batch.list b.given b.reader.given (holds.so_far alive (before g b still holds alive goes refl q)) refl refl same

    pub holds-still : BatchesHold g still
    holds-still = record {
      reader = reader;
      size = holds.size;
      counts = omega (arith, holds.counts, same);
      few = holds.few;
      alone = λ off. ((holds.alone off).0, same ∙ (holds.alone off).1);
      listed = λ q. (still_so_far q).in_list;
      so_far = λ _ q. still_so_far q;
    }

    pub gives-none : GivesNone b still
    gives-none = record { given = refl; counted = ap (λ n. n - length b.batch.list) same }

    -- a read failed
    pub says-failed : (IsTrue (all_tell g t.sources.list) → length (source_items t.delimiter t.taken (told g t.sources.list)) ≤ t.given) → SaysOf g next.Failed still
    says-failed closed q =
        let so = holds-still.so_far alive q in
        let ss = told g t.sources.list in
        let (later, is) = items-closed t.delimiter reader.some t.taken t.bound ss reader.within_bound in
        so_far-front (ends b.policy) (source_items t.delimiter t.bound ss) b.batch.list b.given t.given so (source_items t.delimiter t.taken ss) later is (closed q)

    -- the lines stop
    module _ (all : AllGiven g t) (answer result : Next) (c : Batches S) where
      stopped : (GivesNone b still → (IsTrue (all_tell g t.sources.list) → length (batches_of g still) ≡ b.given) → BatchAnswers g answer b still) → (rest : Option (Contents Item)) → result ≡ rest_or rest answer → Stops rest still c
          → BatchesHold g c × Gathers g b c × BatchAnswers g result b c
      stopped says None is h =
          let none = all_batches g b still holds alive goes refl reader same all refl h.0 in
          subst (λ x. BatchesHold g x × Gathers g b x × BatchAnswers g result b x) (sym h.1)
          (holds-still, gathers-still, subst (λ r. BatchAnswers g r b still) (sym is) (says gives-none none))
      stopped says (Some items) is h =
          let e = h.1 in
          let there = subst (Goes g b.reader) (sym e.reader) goes in
          let stands = subst (ReaderHolds g) (sym e.reader) reader in
          let done : c.reader.given ≡ b.reader.given = ap (λ r. r.given) e.reader ∙ same in
          let given = subst (λ r. AllGiven g r) (sym e.reader) all in (
            holds_behind g b c holds alive there e.policy stands done given h.0 e.empty e.none e.given,
            gathers g b c holds alive there e.policy stands,
            subst (λ r. BatchAnswers g r b c) (sym is) (gives_last g b c holds alive there e.policy stands done given items.list h.0 e.gives e.empty e.given),
          )

      module _ (stops : StopsWith answer result still c) where
        pub stopped-holds : (GivesNone b still → (IsTrue (all_tell g t.sources.list) → length (batches_of g still) ≡ b.given) → BatchAnswers g answer b still) → BatchesHold g c
        stopped-holds says = (stopped says stops.rest stops.is stops.stops).0

        pub stopped-gathers : (GivesNone b still → (IsTrue (all_tell g t.sources.list) → length (batches_of g still) ≡ b.given) → BatchAnswers g answer b still) → Gathers g b c
        stopped-gathers says = (stopped says stops.rest stops.is stops.stops).1

        pub stopped-answers : (GivesNone b still → (IsTrue (all_tell g t.sources.list) → length (batches_of g still) ≡ b.given) → BatchAnswers g answer b still) → BatchAnswers g result b c
        stopped-answers says = (stopped says stops.rest stops.is stops.stops).2

-- no read failed
pub stopped-faults : {S : Type 0} (g : Source.Ghosts S) (answer result : Next) (b c : Batches S) (before : ℕ) → StopsWith answer result b c → ((x y : ℕ) → y ≡ x → NextFaults answer x y) → fault_count g b.reader.sources.list ≡ before → NextFaults result before (fault_count g c.reader.sources.list)
stopped-faults g answer result b c before h none same = by_rest h.rest h.is h.stops
  where
    by_rest : (rest : Option (Contents Item)) → result ≡ rest_or rest answer → Stops rest b c → NextFaults result before (fault_count g c.reader.sources.list)
    by_rest None is s = subst (λ r. NextFaults r before (fault_count g c.reader.sources.list)) (sym is) (none before (fault_count g c.reader.sources.list) (ap (λ x. fault_count g x.reader.sources.list) s.1 ∙ same))
    by_rest (Some items) is s = subst (λ r. NextFaults r before (fault_count g c.reader.sources.list)) (sym is) (ap (λ r. fault_count g r.sources.list) s.1.reader ∙ same)

module _ {S : Type 0} (g : Source.Ghosts S) where
  pub gathers-same : (b : Batches S) → Gathers g b b
  gathers-same b = record {
    kept = sources_kept-same g b.reader.sources.list;
    delimiter = refl;
    policy = refl;
    bound = refl;
    taken = omega arith;
    late = λ q h. absurd (omega (arith, h));
  }

  -- the batch at hand got room
  pub gathers-roomy : (b c : Batches S) → c ≡ record b { batch = c.batch } → Gathers g b c
  gathers-roomy b c same = subst (λ x. Gathers g b x) (sym same) (record {
    kept = sources_kept-same g b.reader.sources.list;
    delimiter = refl;
    policy = refl;
    bound = refl;
    taken = omega arith;
    late = λ q h. absurd (omega (arith, h));
  })

  pub none-same : (b : Batches S) → GivesNone b b
  none-same b = record { given = refl; counted = refl }

  pub none-then : (b c d : Batches S) → GivesNone b c → GivesNone c d → GivesNone b d
  none-then b c d m n = record { given = n.given ∙ m.given; counted = n.counted ∙ m.counted }

  -- two ways in a row, of which the first one gave no batch
  pub gathers-then : (b c d : Batches S) → GivesNone b c → Gathers g b c → Gathers g c d → Gathers g b d
  gathers-then b c d none m n = record {
    kept = sources_kept-then g b.reader.sources.list c.reader.sources.list d.reader.sources.list m.kept n.kept;
    delimiter = n.delimiter ∙ m.delimiter;
    policy = n.policy ∙ m.policy;
    bound = n.bound ∙ m.bound;
    taken = omega (arith, m.taken, n.taken);
    late = λ q h. elim (cases_lt c.reader.taken d.reader.taken) [
      | inl k ↦
          let l = subst (λ x. ReadsLate x b.policy c.reader.taken d.reader.taken c.given (told g d.reader.sources.list)) m.delimiter
          (subst (λ p. ReadsLate c.reader.delimiter p c.reader.taken d.reader.taken c.given (told g d.reader.sources.list)) m.policy (n.late q k)) in
          record {
            m = l.m;
            from = omega (arith, m.taken, l.from);
            to = l.to;
            rises = l.rises;
            closed_given = omega (arith, l.closed_given, none.given);
            no_long = l.no_long;
          }
      | inr k ↦
          let same : d.reader.taken ≡ c.reader.taken = omega (arith, k, n.taken) in
          let q2 = tell-kept g c.reader.sources.list d.reader.sources.list n.kept q in
          let l = m.late q2 (omega (arith, h, same)) in
          let bytes : told g d.reader.sources.list ≡ told g c.reader.sources.list = told-kept g c.reader.sources.list d.reader.sources.list n.kept q in
          subst (λ k. ReadsLate b.reader.delimiter b.policy b.reader.taken k b.given (told g d.reader.sources.list)) (sym same)
          (subst (ReadsLate b.reader.delimiter b.policy b.reader.taken c.reader.taken b.given) (sym bytes) l)
    ];
  }

  pub batch_answers-then : (answer : Next) (b c d : Batches S) → GivesNone b c → Gathers g b c → BatchAnswers g answer c d → BatchAnswers g answer b d
  batch_answers-then (next.Batch items) b c d none m h = record {
    some = h.some;
    few = h.few;
    one = λ off. h.one (ap is_off m.policy ∙ off);
    given = h.given ∙ ap (λ n. n + 1) none.given;
    counted = h.counted ∙ ap (λ n. n + length items.list) none.counted;
    next = λ q. ap (slice_get (batches_of g d)) (sym none.given) ∙ h.next q;
  }
  batch_answers-then next.End b c d none m h = (none-then b c d none h.0, h.1)
  batch_answers-then next.Failed b c d none m h = (none-then b c d none h.0, rose-kept g b.reader.sources.list c.reader.sources.list d.reader.sources.list m.kept h.1, h.2)
  batch_answers-then (next.LongLine n) b c d none m h = (none-then b c d none h.0, h.1)
  batch_answers-then next.Bound b c d none m h = (none-then b c d none h.0, h.1)
  batch_answers-then next.NoMemory b c d none m h = none-then b c d none h

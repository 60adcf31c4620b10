-- The front of a chain leaves it: a floor stays sound.
use Rattle.std.proofs.Common.{◌≡◌, ℕ, ◌<◌, List, [], length, get_or, set, arith, sym, ap, ◌∙◌, subst, Option, Some, None, MatchOption, length-set}
use Rattle.bt_chains.specs.declared.Entry.{Entry}
use Rattle.bt_demand.specs.Steps.{release}
use Rattle.bt_demand.specs.declared.derive.Derive as Derive
use Rattle.bt_demand.proofs.Untouched.{release-untouched}
use Rattle.bt_leaves.proofs.Kept.{untried_release, by_release}
use Rattle.bt_ledger.specs.Book.{Booked, IsFront}
use Rattle.bt_ledger.specs.Calls.{Released as ReleasedTo}
use Rattle.bt_ledger.specs.Ledger.{Ledger, part_tree, chain_at}
use Rattle.bt_moves.proofs.Moves.{front_cases, front_none}
use Rattle.bt_moves.proofs.Popping.{front_open}
use Rattle.bt_ports.specs.Faults.{one_more}
use Rattle.bt_ports.specs.declared.outside.Answerer as Answerer
use Rattle.bt_ports.specs.declared.outside.Clock as Clock
use Rattle.bt_ports.specs.declared.outside.Intake as Intake
use Rattle.bt_ports.specs.declared.outside.Sink as Sink
use Rattle.bt_sound.specs.Counting.{count_with, AnswersCounted, ReleasesSum}
use Rattle.bt_sound.proofs.Counting.{counted_release, summed_release, release_memory}
use Rattle.bt_ledger.specs.declared.reason.Reason.{Reason}
use Rattle.bt_sound.specs.Owned.{ReleasesRise}
use Rattle.bt_sound.specs.Sound.{Sound}
use Rattle.bt_sound.specs.View.{FloorView, Past}
use Rattle.bt_sound.specs.declared.counts.Counts.{Counts}
use Rattle.bt_sound.proofs.Owned.{owned_later}
use Rattle.bt_sound.proofs.Steps.{sound_still}

pub sound_pop : {I K A C D : Type 0} (gi : Intake.Ghosts I) (gk : Sink.Ghosts K) (ga : Answerer.Ghosts A) (gc : Clock.Ghosts C) (gd : Derive.Ghosts D) (f : FloorView I K A C D) (closed : List Past) (n : ℕ) (o : Option Entry) (m : Ledger)
    → Sound gi gk ga gc gd f closed → Booked f.ledger → ReleasedTo f.ledger n o m → MatchOption o (chain_at f.ledger n ≡ []) (λ e. IsFront f.ledger n e)
    → Sound gi gk ga gc gd (record f { ledger = m }) closed
sound_pop gi gk ga gc gd f closed n None m h b r w = subst (λ k. Sound gi gk ga gc gd (record f { ledger = k }) closed) (sym (front_none (chain_at f.ledger n) f.ledger n m r)) h
sound_pop gi gk ga gc gd f closed n (Some e) m h b r w =
    let c = front_cases (chain_at f.ledger n) f.ledger n e m r in
    subst (λ k. Sound gi gk ga gc gd (record f { ledger = k }) closed) (sym c.2)
    (sound_still gi gk ga gc gd f closed e.slot e.part (release n (part_tree f.ledger e.slot e.part)) _ h w.part (untried_release n (part_tree f.ledger e.slot e.part)) (front_open f.ledger n e b w) (λ q. release-untouched n (part_tree f.ledger e.slot e.part) q) (λ T x. by_release T n (part_tree f.ledger e.slot e.part) x))

-- a release of a hold is counted
pub sound_release : {I K A C D : Type 0} (gi : Intake.Ghosts I) (gk : Sink.Ghosts K) (ga : Answerer.Ghosts A) (gc : Clock.Ghosts C) (gd : Derive.Ghosts D) (f : FloorView I K A C D) (closed : List Past) (n : ℕ) (why : Reason) (k : Counts) (rs : List ℕ)
    → Sound gi gk ga gc gd f closed → n < length f.releases → k ≡ count_with why f.counts → rs ≡ set f.releases n (one_more (get_or f.releases n 0)) → ReleasesRise f.releases rs
    → Sound gi gk ga gc gd (record f { releases = rs; counts = k }) closed
sound_release gi gk ga gc gd f closed n why k rs h w ek er rise =
    let len : length rs ≡ length f.releases = ap length er ∙ length-set f.releases n (one_more (get_or f.releases n 0)) in
    record {
      placed = h.placed;
      course = h.course;
      expected = h.expected;
      planned = h.planned;
      shaped = h.shaped;
      past_taken = h.past_taken;
      past_answered = h.past_answered;
      done = h.done;
      past_done = h.past_done;
      past_untouched = h.past_untouched;
      untouched = h.untouched;
      told = h.told;
      past_told = h.past_told;
      unwritten = h.unwritten;
      owned = λ d. owned_later gk f.releases rs f.ledger closed f.sinks d rise (h.owned d);
      called = h.called;
      past_called = h.past_called;
      says = h.says;
      no_other = h.no_other;
      answer_faults = h.answer_faults;
      counted = λ tells. subst (λ q. AnswersCounted (ga.calls f.answerer) q) (sym ek) (counted_release (ga.calls f.answerer) why f.counts (h.counted tells));
      summed = subst (λ q. ReleasesSum q k) (sym er) (subst (λ q. ReleasesSum (set f.releases n (one_more (get_or f.releases n 0))) q) (sym ek) (summed_release f.releases n why f.counts w h.summed));
      refusals = h.refusals ∙ sym (ap (λ (x : Counts). x.refused_memory) ek ∙ release_memory why f.counts);
      policies = h.policies;
      sinks = h.sinks;
      releases = len ∙ h.releases;
      few = (let a = h.few in omega arith);
      wide = h.wide;
      entries = h.entries;
    }

-- The counts stay the numbers of calls and of releases.
use Rattle.std.proofs.Common.{◌≡◌, ℕ, zero, suc, ◌+◌, ◌<◌, Bool, true, false, cond, not, List, [], ◌∷◌, ◌++◌, length, get_or, set, arith, refl, sym, ap, ◌∙◌, Option, Some, None, eqb}
use Rattle.std.specs.List.{AllByRecursion, count_by, sum}
use Rattle.std.specs.Prelude.{replicate, ◌*◌}
use Rattle.std.proofs.lemmas.List.Folds.{sum_by-replicate}
use Rattle.std.proofs.lemmas.List.Sums.{sum_by-set, sum_by_push}
use Rattle.bt_demand.specs.Parts.{Part}
use Rattle.bt_demand.specs.Reasons.{least, refused_leaves}
use Rattle.bt_ledger.specs.Due.{open_parts}
use Rattle.bt_ledger.specs.Open.{Open, tree_of}
use Rattle.bt_ledger.specs.Verdicts.{lost_from, refusal, verdict_by, verdict_of}
use Rattle.bt_ledger.specs.declared.reason.Reason.{Reason}
use Rattle.bt_ledger.specs.declared.reason.Reason.TheVariants as reason
use Rattle.bt_ports.specs.Faults.{one_more, last_count}
use Rattle.bt_ports.specs.declared.parts.AnswerCall.{AnswerCall}
use Rattle.bt_ports.specs.declared.parts.Cause.TheVariants.{SinkFault, Rejected, NoMemory}
use Rattle.bt_ports.specs.declared.parts.Verdict.{Verdict}
use Rattle.bt_ports.specs.declared.parts.Verdict.TheVariants.{Ack, Refused}
use Rattle.bt_sound.specs.Counting.{answer_with, count_with, acks, wants_memory, capped, AnswersCounted, ReleasesSum, no_counts}
use Rattle.bt_sound.specs.declared.counts.Counts.{Counts}

count_snoc : {T : Type 0} (p : T → Bool) (xs : List T) (x : T) → count_by p (xs ++ x ∷ []) ≡ count_by p xs + cond {A = ℕ} (p x) 1 0
count_snoc p xs x = sum_by_push (λ y. cond {A = ℕ} (p y) 1 0) xs x

capped_more : (b : Bool) (n m : ℕ) → m ≡ capped n → cond b (one_more m) m ≡ capped (n + cond {A = ℕ} b 1 0)
capped_more true n m e = omega arith
capped_more false n m e = omega arith

acked_with : (v : Verdict) (b : Bool) (k : Counts) → (answer_with v b k).acked ≡ cond (acks v) (one_more k.acked) k.acked
acked_with Ack true k = refl
acked_with Ack false k = refl
acked_with (Refused (SinkFault l p)) true k = refl
acked_with (Refused (SinkFault l p)) false k = refl
acked_with (Refused (Rejected p)) true k = refl
acked_with (Refused (Rejected p)) false k = refl
acked_with (Refused NoMemory) true k = refl
acked_with (Refused NoMemory) false k = refl

refused_with : (v : Verdict) (b : Bool) (k : Counts) → (answer_with v b k).refused ≡ cond (not (acks v)) (one_more k.refused) k.refused
refused_with Ack true k = refl
refused_with Ack false k = refl
refused_with (Refused (SinkFault l p)) true k = refl
refused_with (Refused (SinkFault l p)) false k = refl
refused_with (Refused (Rejected p)) true k = refl
refused_with (Refused (Rejected p)) false k = refl
refused_with (Refused NoMemory) true k = refl
refused_with (Refused NoMemory) false k = refl

memory_with : (v : Verdict) (b : Bool) (k : Counts) → (answer_with v b k).refused_memory ≡ cond (wants_memory v) (one_more k.refused_memory) k.refused_memory
memory_with Ack true k = refl
memory_with Ack false k = refl
memory_with (Refused (SinkFault l p)) true k = refl
memory_with (Refused (SinkFault l p)) false k = refl
memory_with (Refused (Rejected p)) true k = refl
memory_with (Refused (Rejected p)) false k = refl
memory_with (Refused NoMemory) true k = refl
memory_with (Refused NoMemory) false k = refl

failed_with : (v : Verdict) (b : Bool) (k : Counts) → (answer_with v b k).answer_faults ≡ cond b (one_more k.answer_faults) k.answer_faults
failed_with Ack true k = refl
failed_with Ack false k = refl
failed_with (Refused (SinkFault l p)) true k = refl
failed_with (Refused (SinkFault l p)) false k = refl
failed_with (Refused (Rejected p)) true k = refl
failed_with (Refused (Rejected p)) false k = refl
failed_with (Refused NoMemory) true k = refl
failed_with (Refused NoMemory) false k = refl

counted_one : (p : AnswerCall → Bool) (cs : List AnswerCall) (c : AnswerCall) (a b : ℕ) → a ≡ capped (count_by p cs) → b ≡ cond (p c) (one_more a) a → b ≡ capped (count_by p (cs ++ c ∷ []))
counted_one p cs c a b e f = f ∙ (capped_more (p c) (count_by p cs) a e ∙ ap capped (sym (count_snoc p cs c)))

-- one more call is counted
pub counted_more : (cs : List AnswerCall) (c : AnswerCall) (k : Counts) → AnswersCounted cs k → AnswersCounted (cs ++ c ∷ []) (answer_with c.verdict c.failed k)
counted_more cs c k h = record {
  acked = counted_one (λ (x : AnswerCall). acks x.verdict) cs c k.acked _ h.acked (acked_with c.verdict c.failed k);
  refused = counted_one (λ (x : AnswerCall). not (acks x.verdict)) cs c k.refused _ h.refused (refused_with c.verdict c.failed k);
  refused_memory = counted_one (λ (x : AnswerCall). wants_memory x.verdict) cs c k.refused_memory _ h.refused_memory (memory_with c.verdict c.failed k);
  answer_faults = counted_one (λ (x : AnswerCall). x.failed) cs c k.answer_faults _ h.answer_faults (failed_with c.verdict c.failed k);
}

-- an answer changes no count of releases
pub summed_answer : (rs : List ℕ) (v : Verdict) (b : Bool) (k : Counts) → ReleasesSum rs k → ReleasesSum rs (answer_with v b k)
summed_answer rs Ack true k h = λ u. h (record { holds = u.holds; count = u.count; bytes = u.bytes; check = u.check; period = u.period; stall = u.stall; room = u.room; end = u.end })
summed_answer rs Ack false k h = λ u. h (record { holds = u.holds; count = u.count; bytes = u.bytes; check = u.check; period = u.period; stall = u.stall; room = u.room; end = u.end })
summed_answer rs (Refused (SinkFault l p)) true k h = λ u. h (record { holds = u.holds; count = u.count; bytes = u.bytes; check = u.check; period = u.period; stall = u.stall; room = u.room; end = u.end })
summed_answer rs (Refused (SinkFault l p)) false k h = λ u. h (record { holds = u.holds; count = u.count; bytes = u.bytes; check = u.check; period = u.period; stall = u.stall; room = u.room; end = u.end })
summed_answer rs (Refused (Rejected p)) true k h = λ u. h (record { holds = u.holds; count = u.count; bytes = u.bytes; check = u.check; period = u.period; stall = u.stall; room = u.room; end = u.end })
summed_answer rs (Refused (Rejected p)) false k h = λ u. h (record { holds = u.holds; count = u.count; bytes = u.bytes; check = u.check; period = u.period; stall = u.stall; room = u.room; end = u.end })
summed_answer rs (Refused NoMemory) true k h = λ u. h (record { holds = u.holds; count = u.count; bytes = u.bytes; check = u.check; period = u.period; stall = u.stall; room = u.room; end = u.end })
summed_answer rs (Refused NoMemory) false k h = λ u. h (record { holds = u.holds; count = u.count; bytes = u.bytes; check = u.check; period = u.period; stall = u.stall; room = u.room; end = u.end })

-- a release changes no count of answers
pub counted_release : (cs : List AnswerCall) (why : Reason) (k : Counts) → AnswersCounted cs k → AnswersCounted cs (count_with why k)
counted_release cs reason.Count k h = record { acked = h.acked; refused = h.refused; refused_memory = h.refused_memory; answer_faults = h.answer_faults }
counted_release cs reason.Bytes k h = record { acked = h.acked; refused = h.refused; refused_memory = h.refused_memory; answer_faults = h.answer_faults }
counted_release cs reason.Check k h = record { acked = h.acked; refused = h.refused; refused_memory = h.refused_memory; answer_faults = h.answer_faults }
counted_release cs reason.Period k h = record { acked = h.acked; refused = h.refused; refused_memory = h.refused_memory; answer_faults = h.answer_faults }
counted_release cs reason.Stall k h = record { acked = h.acked; refused = h.refused; refused_memory = h.refused_memory; answer_faults = h.answer_faults }
counted_release cs reason.Room k h = record { acked = h.acked; refused = h.refused; refused_memory = h.refused_memory; answer_faults = h.answer_faults }
counted_release cs reason.End k h = record { acked = h.acked; refused = h.refused; refused_memory = h.refused_memory; answer_faults = h.answer_faults }

below_set : (rs : List ℕ) (n : ℕ) → n < length rs → AllByRecursion (λ m. m < last_count) (set rs n (one_more (get_or rs n 0))) → AllByRecursion (λ m. m < last_count) rs
below_set [] n h u = absurd (omega arith)
below_set (r ∷ rs) zero h u = ((let a = u.0 in omega arith), u.1)
below_set (r ∷ rs) (suc n) h u = (u.0, below_set rs n (omega arith) u.1)

last_small : (rs : List ℕ) (n : ℕ) → n < length rs → AllByRecursion (λ m. m < last_count) (set rs n (one_more (get_or rs n 0))) → one_more (get_or rs n 0) ≡ get_or rs n 0 + 1
last_small [] n h u = absurd (omega arith)
last_small (r ∷ rs) zero h u = let a = u.0 in omega arith
last_small (r ∷ rs) (suc n) h u = last_small rs n (omega arith) u.1

sum_set : (rs : List ℕ) (n : ℕ) → n < length rs → AllByRecursion (λ m. m < last_count) (set rs n (one_more (get_or rs n 0))) → sum (set rs n (one_more (get_or rs n 0))) ≡ sum rs + 1
sum_set rs n h u = let a = sum_by-set (λ x. x) rs n (one_more (get_or rs n 0)) 0 h in let b = last_small rs n h u in omega arith

-- a release of a hold counts once for the hold and once for its reason
pub summed_release : (rs : List ℕ) (n : ℕ) (why : Reason) (k : Counts) → n < length rs → ReleasesSum rs k → ReleasesSum (set rs n (one_more (get_or rs n 0))) (count_with why k)
summed_release rs n reason.Count k w h = λ u. (let s = sum_set rs n w u.holds in let c = u.count in let e = h (record { holds = below_set rs n w u.holds; count = omega arith; bytes = u.bytes; check = u.check; period = u.period; stall = u.stall; room = u.room; end = u.end }) in omega arith)
summed_release rs n reason.Bytes k w h = λ u. (let s = sum_set rs n w u.holds in let c = u.bytes in let e = h (record { holds = below_set rs n w u.holds; count = u.count; bytes = omega arith; check = u.check; period = u.period; stall = u.stall; room = u.room; end = u.end }) in omega arith)
summed_release rs n reason.Check k w h = λ u. (let s = sum_set rs n w u.holds in let c = u.check in let e = h (record { holds = below_set rs n w u.holds; count = u.count; bytes = u.bytes; check = omega arith; period = u.period; stall = u.stall; room = u.room; end = u.end }) in omega arith)
summed_release rs n reason.Period k w h = λ u. (let s = sum_set rs n w u.holds in let c = u.period in let e = h (record { holds = below_set rs n w u.holds; count = u.count; bytes = u.bytes; check = u.check; period = omega arith; stall = u.stall; room = u.room; end = u.end }) in omega arith)
summed_release rs n reason.Stall k w h = λ u. (let s = sum_set rs n w u.holds in let c = u.stall in let e = h (record { holds = below_set rs n w u.holds; count = u.count; bytes = u.bytes; check = u.check; period = u.period; stall = omega arith; room = u.room; end = u.end }) in omega arith)
summed_release rs n reason.Room k w h = λ u. (let s = sum_set rs n w u.holds in let c = u.room in let e = h (record { holds = below_set rs n w u.holds; count = u.count; bytes = u.bytes; check = u.check; period = u.period; stall = u.stall; room = omega arith; end = u.end }) in omega arith)
summed_release rs n reason.End k w h = λ u. (let s = sum_set rs n w u.holds in let c = u.end in let e = h (record { holds = below_set rs n w u.holds; count = u.count; bytes = u.bytes; check = u.check; period = u.period; stall = u.stall; room = u.room; end = omega arith }) in omega arith)

-- nothing was counted yet
pub counted_none : AnswersCounted [] no_counts
counted_none = record { acked = refl; refused = refl; refused_memory = refl; answer_faults = refl }

pub summed_none : (n : ℕ) → ReleasesSum (replicate n 0) no_counts
summed_none n = λ _. sum_by-replicate (λ x. x) n 0 ∙ (let e : n * 0 ≡ 0 = omega arith in e)

-- a release refuses nothing
pub release_memory : (why : Reason) (k : Counts) → (count_with why k).refused_memory ≡ k.refused_memory
release_memory reason.Count k = refl
release_memory reason.Bytes k = refl
release_memory reason.Check k = refl
release_memory reason.Period k = refl
release_memory reason.Stall k = refl
release_memory reason.Room k = refl
release_memory reason.End k = refl

some_is : (v : Verdict) (b : Bool) (w : Verdict) → Some v ≡ cond b (Some w) None → v ≡ w
some_is v true w e = cc
some_is v false w e = cc

refusal_memory : (p : ℕ) (o : Option ℕ) → wants_memory (refusal p o) ≡ false
refusal_memory p None = refl
refusal_memory p (Some l) = refl

by_memory : (ps : List Part) (o : Option ℕ) → wants_memory (verdict_by ps o) ≡ false
by_memory ps None = refl
by_memory ps (Some p) = refusal_memory p (least (refused_leaves (tree_of ps p)))

-- no verdict of parts is a want of memory
pub answer_memory : (o : Open) (i : ℕ) (v : Verdict) (b : Bool) (k n : Counts) → Some v ≡ verdict_of o i → n ≡ answer_with v b k → k.refused_memory ≡ n.refused_memory
answer_memory o i v b k n e f =
    let same = some_is v (eqb (open_parts i o.parts) 0) (verdict_by o.parts (lost_from i 0 o.parts)) e in
    let no : wants_memory v ≡ false = ap wants_memory same ∙ by_memory o.parts (lost_from i 0 o.parts) in
    sym (ap (λ (x : Counts). x.refused_memory) f ∙ (memory_with v b k ∙ ap (λ x. cond x (one_more k.refused_memory) k.refused_memory) no))

pub refusal_counts : (v : Verdict) (b : Bool) (k : Counts) → v ≡ Refused NoMemory → (answer_with v b k).refused_memory ≡ one_more k.refused_memory
refusal_counts v b k e = memory_with v b k ∙ ap (λ x. cond (wants_memory x) (one_more k.refused_memory) k.refused_memory) e

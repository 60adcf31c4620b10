-- The numbers of a report are what the lists of a history say.
use Rattle.std.proofs.Common.{◌≡◌, ℕ, ◌+◌, List, [], ◌∷◌, length, map, refl, ap, ◌∙◌, sym, Bool, true, false, cond}
use Rattle.std.specs.Prelude.{count_by, filter, not}
use Rattle.std.proofs.lemmas.List.{length-map}
use Rattle.std.proofs.lemmas.List.Sums.{sum_by-cons, length-filter}
use Rattle.bt_ports.specs.declared.parts.AnswerCall.{AnswerCall}
use Rattle.bt_ports.specs.declared.parts.Verdict.TheVariants.{Ack, Refused}
use Rattle.bt_ports.specs.declared.parts.Cause.TheVariants.{SinkFault}
use Rattle.bt_desk.specs.History.{Numbered, Settled, item_of, was_accepted, was_refused, has_failed_answer, answer_with, verdict_of, accepted_records, refused_records, answers}
use Rattle.bt_desk.specs.Finished.{is_ack, acknowledges, refuses, has_failed}
use Rattle.bt_desk.proofs.Histories.{settled_record}

count_by-cons : {X : Type 0} (p : X → Bool) (x : X) (xs : List X) → count_by p (x ∷ xs) ≡ cond (p x) 1 0 + count_by p xs
count_by-cons p x xs = sum_by-cons (λ y. cond (p y) 1 0) x xs

-- a test of what a function gives counts as a test of what it is given
count_by-map : {X Y : Type 0} (q : Y → Bool) (f : X → Y) (p : X → Bool) → ((x : X) → q (f x) ≡ p x) → (xs : List X) → count_by q (map f xs) ≡ count_by p xs
count_by-map q f p same [] = refl
count_by-map q f p same (x ∷ xs) =
    count_by-cons q (f x) (map f xs)
    ∙ ap (λ (n : ℕ). cond (q (f x)) 1 0 + n) (count_by-map q f p same xs)
    ∙ ap (λ (b : Bool). cond b 1 0 + count_by p xs) (same x)
    ∙ sym (count_by-cons p x xs)

-- the call of an item of a history
abbrev settled_answer : Numbered Settled → AnswerCall
settled_answer p = answer_with (verdict_of p) p.value.answer_failed (item_of p)

acknowledges-answer : (p : Numbered Settled) → acknowledges (settled_answer p) ≡ was_accepted p
acknowledges-answer p = elim p.value.accepted as (λ b. is_ack (cond b Ack (Refused (SinkFault 0 p.number))) ≡ b) [ true ↦ refl | false ↦ refl ]

pub accepted-counted : (ps : List (Numbered Settled)) → count_by was_accepted ps ≡ length (accepted_records ps)
accepted-counted ps = sym (length-map (filter was_accepted ps) settled_record ∙ length-filter was_accepted ps)

pub refused-counted : (ps : List (Numbered Settled)) → count_by was_refused ps ≡ length (refused_records ps)
refused-counted ps = sym (length-map (filter was_refused ps) settled_record ∙ length-filter was_refused ps)

pub acknowledged-counted : (ps : List (Numbered Settled)) → count_by was_accepted ps ≡ count_by acknowledges (answers ps)
acknowledged-counted ps = sym (count_by-map acknowledges settled_answer was_accepted acknowledges-answer ps)

pub others-counted : (ps : List (Numbered Settled)) → count_by was_refused ps ≡ count_by refuses (answers ps)
others-counted ps = sym (count_by-map refuses settled_answer was_refused (λ p. ap not (acknowledges-answer p)) ps)

pub failed-counted : (ps : List (Numbered Settled)) → count_by has_failed_answer ps ≡ count_by has_failed (answers ps)
failed-counted ps = sym (count_by-map has_failed settled_answer has_failed_answer (λ p. refl) ps)

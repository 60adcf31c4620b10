-- What follows from a history of which no record was refused and no answer failed.
use Rattle.std.proofs.Common.{◌≡◌, ℕ, ◌+◌, List, [], ◌∷◌, ◌++◌, map, refl, ap, ◌∙◌, sym, arith, Bool, true, false, cond, subst}
use Rattle.std.specs.Prelude.{count_by, filter, not}
use Rattle.std.proofs.lemmas.List.{map-append}
use Rattle.std.proofs.lemmas.List.Sums.{sum_by-cons}
use Rattle.bt_ports.specs.declared.parts.Item.{Item}
use Rattle.bt_ports.specs.declared.parts.Record.{Record}
use Rattle.bt_ports.specs.declared.parts.AnswerCall.{AnswerCall}
use Rattle.bt_ports.specs.declared.parts.Verdict.TheVariants.{Ack}
use Rattle.bt_desk.specs.History.{Numbered, Settled, numbered_items, numbered_from, numbered, items_of, item_of, was_accepted, was_refused, has_failed_answer, record_of, answer_with, accepted_records, refused_records, answers, records_of, acks_of}
use Rattle.bt_desk.proofs.Histories.{settled_record}

-- numbering leaves the items as they were taken
numbered_items-items : (n i : ℕ) (xs : List Settled) → map item_of (numbered_items n i xs) ≡ numbered_items n i (map (λ (s : Settled). s.item) xs)
numbered_items-items n i [] = refl
numbered_items-items n i (x ∷ xs) = ap (λ (ps : List (Numbered Item)). record { txn = n; number = i; value = x.item } ∷ ps) (numbered_items-items n (i + 1) xs)

numbered_from-items : (n : ℕ) (h : List (List Settled)) → map item_of (numbered_from n h) ≡ numbered_from n (items_of h)
numbered_from-items n [] = refl
numbered_from-items n (t ∷ h) =
    map-append item_of (numbered_items n 0 t) (numbered_from (n + 1) h)
    ∙ ap (λ (ps : List (Numbered Item)). ps ++ map item_of (numbered_from (n + 1) h)) (numbered_items-items n 0 t)
    ∙ ap (λ (ps : List (Numbered Item)). numbered_items n 0 (map (λ (s : Settled). s.item) t) ++ ps) (numbered_from-items (n + 1) h)

pub numbered-items : (h : List (List Settled)) → map item_of (numbered h) ≡ numbered (items_of h)
numbered-items h = numbered_from-items 1 h

cond_zero : (b : Bool) (n : ℕ) → cond b 1 0 + n ≡ 0 → (b ≡ false) × (n ≡ 0)
cond_zero true n e = absurd (omega arith)
cond_zero false n e = (refl, omega arith)

not_false : (b : Bool) → not b ≡ false → b ≡ true
not_false true e = refl
not_false false e = cc

-- a list of which nothing passes the test, by its first member and the rest
none_counted : {X : Type 0} (p : X → Bool) (x : X) (xs : List X) → count_by p (x ∷ xs) ≡ 0 → (p x ≡ false) × (count_by p xs ≡ 0)
none_counted p x xs e = cond_zero (p x) (count_by p xs) (sym (sum_by-cons (λ y. cond (p y) 1 0) x xs) ∙ e)

pub accepted_records-clean : (ps : List (Numbered Settled)) → count_by was_refused ps ≡ 0 → accepted_records ps ≡ map record_of (map item_of ps)
accepted_records-clean [] e = refl
accepted_records-clean (p ∷ ps) e =
    let none = none_counted was_refused p ps e in
    let yes : p.value.accepted ≡ true = not_false p.value.accepted none.0 in
    subst (λ (b : Bool). map settled_record (cond b (p ∷ filter was_accepted ps) (filter was_accepted ps)) ≡ settled_record p ∷ map record_of (map item_of ps)) (sym yes)
    (ap (λ (rs : List Record). settled_record p ∷ rs) (accepted_records-clean ps none.1))

pub refused_records-clean : (ps : List (Numbered Settled)) → count_by was_refused ps ≡ 0 → refused_records ps ≡ []
refused_records-clean [] e = refl
refused_records-clean (p ∷ ps) e =
    let none = none_counted was_refused p ps e in
    subst (λ (b : Bool). map settled_record (cond b (p ∷ filter was_refused ps) (filter was_refused ps)) ≡ []) (sym none.0) (refused_records-clean ps none.1)

pub answers-clean : (ps : List (Numbered Settled)) → count_by was_refused ps ≡ 0 → count_by has_failed_answer ps ≡ 0 → answers ps ≡ map (answer_with Ack false) (map item_of ps)
answers-clean [] e f = refl
answers-clean (p ∷ ps) e f =
    let none = none_counted was_refused p ps e in
    let heard = none_counted has_failed_answer p ps f in
    let yes : p.value.accepted ≡ true = not_false p.value.accepted none.0 in
    rw (yes, heard.0) (ap (λ (cs : List AnswerCall). answer_with Ack false (item_of p) ∷ cs) (answers-clean ps none.1 heard.1))

-- a history of which no record was refused and no answer failed has one accepted record and one acknowledgement of
-- each item, in order, and no refused record
module _ (h : List (List Settled)) (accepted : count_by was_refused (numbered h) ≡ 0) where
  pub accepted-clean : accepted_records (numbered h) ≡ records_of (items_of h)
  accepted-clean = accepted_records-clean (numbered h) accepted ∙ ap (map record_of) (numbered-items h)

  pub refused-clean : refused_records (numbered h) ≡ []
  refused-clean = refused_records-clean (numbered h) accepted

  pub answered-clean : count_by has_failed_answer (numbered h) ≡ 0 → answers (numbered h) ≡ acks_of (items_of h)
  answered-clean heard = answers-clean (numbered h) accepted heard ∙ ap (map (answer_with Ack false)) (numbered-items h)

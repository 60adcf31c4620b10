-- Laws of the lists that follow from a history.
use Rattle.std.proofs.Common.{◌≡◌, ℕ, zero, suc, ◌+◌, List, [], ◌∷◌, ◌++◌, length, map, refl, ap, ◌∙◌, sym, arith, Bool, append_assoc, append-nil, take, slice_get, Some, add-one, cond}
use Rattle.std.specs.Prelude.{count_by}
use Rattle.std.proofs.lemmas.List.{map-append}
use Rattle.std.proofs.lemmas.List.Elements.{filter-append}
use Rattle.std.proofs.lemmas.List.Sums.{sum_by-append}
use Rattle.bt_ports.specs.declared.parts.Record.{Record}
use Rattle.bt_desk.specs.History.{Settled, Numbered, numbered_items, numbered_from, was_accepted, was_refused, accepted_records, refused_records, answers, record_of, item_of}

pub count_by-append : {X : Type 0} (p : X → Bool) (xs ys : List X) → count_by p (xs ++ ys) ≡ count_by p xs + count_by p ys
count_by-append p xs ys = sum_by-append (λ x. cond (p x) 1 0) xs ys

-- the same for the successor
take_suc_at : {X : Type 0} (xs : List X) (i : ℕ) (x : X) → slice_get xs i ≡ Some x → take (suc i) xs ≡ take i xs ++ x ∷ []
take_suc_at [] i x at = cc
take_suc_at (y ∷ ys) zero x at = cc
take_suc_at {X} (y ∷ ys) (suc i) x at = ap (λ (zs : List X). y ∷ zs) (take_suc_at ys i x at)

-- one item more
pub numbered_items-snoc : (n i : ℕ) (xs : List Settled) (x : Settled)
    → numbered_items n i (xs ++ x ∷ []) ≡ numbered_items n i xs ++ record { txn = n; number = i + length xs; value = x } ∷ []
numbered_items-snoc n i [] x = let k : i ≡ i + 0 = omega arith in ap (λ (m : ℕ). record { txn = n; number = m; value = x } ∷ []) k
numbered_items-snoc n i (y ∷ xs) x =
    let k : (i + 1) + length xs ≡ i + suc (length xs) = omega arith in
    ap (λ (ps : List (Numbered Settled)). record { txn = n; number = i; value = y } ∷ ps)
    (numbered_items-snoc n (i + 1) xs x ∙ ap (λ (m : ℕ). numbered_items n (i + 1) xs ++ record { txn = n; number = m; value = x } ∷ []) k)

-- one transaction more
pub numbered_from-snoc : (n : ℕ) (h : List (List Settled)) (t : List Settled)
    → numbered_from n (h ++ t ∷ []) ≡ numbered_from n h ++ numbered_items (n + length h) 0 t
numbered_from-snoc n [] t = let k : n ≡ n + 0 = omega arith in append-nil _ ∙ ap (λ (m : ℕ). numbered_items m 0 t) k
numbered_from-snoc n (x ∷ h) t =
    let k : (n + 1) + length h ≡ n + suc (length h) = omega arith in
    ap (λ (ps : List (Numbered Settled)). numbered_items n 0 x ++ ps)
    (numbered_from-snoc (n + 1) h t ∙ ap (λ (m : ℕ). numbered_from (n + 1) h ++ numbered_items m 0 t) k)
    ∙ sym (append_assoc (numbered_items n 0 x) (numbered_from (n + 1) h) (numbered_items (n + suc (length h)) 0 t))

pub length-numbered_items : (n i : ℕ) (xs : List Settled) → length (numbered_items n i xs) ≡ length xs
length-numbered_items n i [] = refl
length-numbered_items n i (x ∷ xs) = ap suc (length-numbered_items n (i + 1) xs)

-- the record of an item of a history
abbrev pub settled_record : Numbered Settled → Record
settled_record p = record_of (item_of p)

pub accepted_records-append : (ps qs : List (Numbered Settled)) → accepted_records (ps ++ qs) ≡ accepted_records ps ++ accepted_records qs
accepted_records-append ps qs = ap (map settled_record) (filter-append was_accepted ps qs) ∙ map-append settled_record _ _

pub refused_records-append : (ps qs : List (Numbered Settled)) → refused_records (ps ++ qs) ≡ refused_records ps ++ refused_records qs
refused_records-append ps qs = ap (map settled_record) (filter-append was_refused ps qs) ∙ map-append settled_record _ _

pub answers-append : (ps qs : List (Numbered Settled)) → answers (ps ++ qs) ≡ answers ps ++ answers qs
answers-append ps qs = map-append _ ps qs

-- the first i + 1 members of a list are the first i and then the member at i
pub take-snoc : {X : Type 0} (xs : List X) (i : ℕ) (x : X) → slice_get xs i ≡ Some x → take (i + 1) xs ≡ take i xs ++ x ∷ []
take-snoc xs i x at = rw add-one (take_suc_at xs i x at)

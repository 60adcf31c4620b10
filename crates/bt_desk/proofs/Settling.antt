-- Steps of a sink, an answerer and a report, one after another.
use Rattle.std.proofs.Common.{◌≡◌, ℕ, zero, suc, ◌+◌, ◌<◌, ◌≤◌, List, [], ◌∷◌, ◌++◌, length, take, refl, ap, ◌∙◌, sym, arith, Bool, append_assoc, Some, slice_get, add_assoc, zero-add, subst}
use Rattle.std.specs.Prelude.{count_by}
use Rattle.std.proofs.lemmas.List.{map-append, length-map, length-take-le}
use Rattle.std.proofs.lemmas.Option.{slice_get_within}
use Rattle.bt_ports.specs.Faults.{Rose}
use Rattle.bt_ports.specs.declared.parts.Item.{Item}
use Rattle.bt_ports.specs.declared.outside.Sink as Sink
use Rattle.bt_ports.specs.declared.outside.Answerer as Answerer
use Rattle.bt_desk.specs.declared.report.Report.{Report}
use Rattle.bt_desk.specs.History.{Settled, Numbered, numbered_items, was_accepted, was_refused, has_failed_answer, accepted_records, refused_records, answers}
use Rattle.bt_desk.specs.Settles.{Puts, Answers, counted_with, Settling, IsSettled, one_item}
use Rattle.bt_desk.proofs.Histories.{count_by-append, numbered_items-snoc, accepted_records-append, refused_records-append, answers-append, take-snoc}

-- a count that rises by the first of two parts or by the second rises by both
rises : (m n a b c : ℕ) → (0 < m → Rose a b) → (0 < n → Rose b c) → a ≤ b → b ≤ c → 0 < m + n → Rose a c
rises zero n a b c p q h k some = let here : 0 < n = omega arith in omega (arith, q here)
rises (suc m) n a b c p q h k some = let here : 0 < suc m = omega arith in omega (arith, p here)

-- a list that was added to twice
joined : {X : Type 0} (a p q : List X) {b c pq : List X} → b ≡ a ++ p → c ≡ b ++ q → pq ≡ p ++ q → c ≡ a ++ pq
joined {X} a p q h k e = k ∙ ap (λ (zs : List X). zs ++ q) h ∙ append_assoc a p q ∙ ap (λ (zs : List X). a ++ zs) (sym e)

module _ (ps qs : List (Numbered Settled)) where
  pub Puts-join : {K : Type 0} (g : Sink.Ghosts K) (j k l : K) → Puts g j k ps → Puts g k l qs → Puts g j l (ps ++ qs)
  Puts-join g j k l p q = record {
    counted = omega (arith, p.counted, q.counted);
    failed = λ some. rises (count_by was_refused ps) (count_by was_refused qs) (g.faults j) (g.faults k) (g.faults l) p.failed q.failed p.counted q.counted (rw count_by-append at some);
    placed = q.placed ∙ p.placed;
    told = λ t. p.told (q.told t);
    accepted = λ t. joined (g.accepted j) (accepted_records ps) (accepted_records qs) (p.accepted (q.told t)) (q.accepted t) (accepted_records-append ps qs);
    refused = λ t. joined (g.refused j) (refused_records ps) (refused_records qs) (p.refused (q.told t)) (q.refused t) (refused_records-append ps qs);
  }

  pub Answers-join : {A : Type 0} (g : Answerer.Ghosts A) (a b c : A) → Answers g a b ps → Answers g b c qs → Answers g a c (ps ++ qs)
  Answers-join g a b c p q = record {
    counted = omega (arith, p.counted, q.counted);
    failed = λ some. rises (count_by has_failed_answer ps) (count_by has_failed_answer qs) (g.faults a) (g.faults b) (g.faults c) p.failed q.failed p.counted q.counted (rw count_by-append at some);
    placed = q.placed ∙ p.placed;
    told = λ t. p.told (q.told t);
    calls = λ t. joined (g.calls a) (answers ps) (answers qs) (p.calls (q.told t)) (q.calls t) (answers-append ps qs);
  }

  pub counted_with-join : (r : Report) → counted_with (counted_with r ps) qs ≡ counted_with r (ps ++ qs)
  counted_with-join r =
      rw (count_by-append was_accepted ps qs, count_by-append was_refused ps qs, count_by-append has_failed_answer ps qs, add_assoc, add_assoc, add_assoc) refl

-- as many items were settled as were given
length-settled : {K A : Type 0} (gk : Sink.Ghosts K) (ga : Answerer.Ghosts A) (j k : K) (a b : A) (r s : Report) (n i : ℕ) (items : List Item) (item : Item) (txn : List Settled)
    → slice_get items i ≡ Some item → Settling gk ga j k a b r s n (take i items) txn → length txn ≡ i
length-settled gk ga j k a b r s n i items item txn at p =
    let within : i < length items = slice_get_within items i item at in
    sym (length-map txn (λ (x : Settled). x.item)) ∙ ap length p.items ∙ length-take-le i items (omega arith)

-- one item more
pub settled_more : {K A : Type 0} (gk : Sink.Ghosts K) (ga : Answerer.Ghosts A) (j k l : K) (a b c : A) (r s t : Report) (n i : ℕ) (items : List Item) (item : Item) (accepted answer_failed : Bool)
    → slice_get items i ≡ Some item
    → IsSettled gk ga j k a b r s n (take i items)
    → Puts gk k l (one_item n i item accepted answer_failed ∷ [])
    → Answers ga b c (one_item n i item accepted answer_failed ∷ [])
    → t ≡ counted_with s (one_item n i item accepted answer_failed ∷ [])
    → IsSettled gk ga j l a c r t n (take (i + 1) items)
settled_more gk ga j k l a b c r s t n i items item accepted answer_failed at before put answer counted =
    let done : List Settled = before.0 in
    let new : Settled = record { item = item; accepted = accepted; answer_failed = answer_failed } in
    let one : List (Numbered Settled) = one_item n i item accepted answer_failed ∷ [] in
    let many : List (Numbered Settled) = numbered_items n 0 done in
    let p = before.1 in
    let count : length done ≡ i = length-settled gk ga j k a b r s n i items item done at p in
    let all : many ++ one ≡ numbered_items n 0 (done ++ new ∷ []) =
    sym (numbered_items-snoc n 0 done new ∙ ap (λ (m : ℕ). many ++ record { txn = n; number = m; value = new } ∷ []) (zero-add (length done) ∙ count)) in (
      done ++ new ∷ [],
      record {
        items = map-append _ done (new ∷ []) ∙ ap (λ (xs : List Item). xs ++ item ∷ []) p.items ∙ sym (take-snoc items i item at);
        puts = subst (λ (ps : List (Numbered Settled)). Puts gk j l ps) all (Puts-join many one gk j k l p.puts put);
        answers = subst (λ (ps : List (Numbered Settled)). Answers ga a c ps) all (Answers-join many one ga a b c p.answers answer);
        report = counted ∙ ap (λ (x : Report). counted_with x one) p.report ∙ counted_with-join many one r ∙ ap (counted_with r) all;
      },
    )

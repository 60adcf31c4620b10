-- What a sink, an answerer and a report go through as items are delivered.
use Rattle.std.specs.Prelude.{◌≡◌, ℕ, ◌+◌, ◌<◌, ◌≤◌, List, ◌++◌, map, count_by, Bool, IsTrue, Some, slice_get}
use Rattle.bt_ports.specs.Faults.{Rose}
use Rattle.bt_ports.specs.declared.parts.Item.{Item}
use Rattle.bt_ports.specs.declared.outside.Sink as Sink
use Rattle.bt_ports.specs.declared.outside.Answerer as Answerer
use Rattle.bt_desk.specs.declared.report.Report.{Report}
use Rattle.bt_desk.specs.History.{Numbered, Settled, numbered_items, was_accepted, was_refused, has_failed_answer, accepted_records, refused_records, answers}

-- what a sink went through, from j to k, as the records of these items were put in order. A record is refused only
-- where its count of faults rose
pub record Puts {K : Type 0} (g : Sink.Ghosts K) (j k : K) (ps : List (Numbered Settled)) : Type 0 where
  pub counted : g.faults j ≤ g.faults k
  pub failed : 0 < count_by was_refused ps → Rose (g.faults j) (g.faults k)
  pub placed : g.place k ≡ g.place j
  pub told : IsTrue (g.tells k) → IsTrue (g.tells j)
  pub accepted : IsTrue (g.tells k) → g.accepted k ≡ g.accepted j ++ accepted_records ps
  pub refused : IsTrue (g.tells k) → g.refused k ≡ g.refused j ++ refused_records ps

-- what the first sink of a list went through
abbrev pub PutsInFirst : {K : Type 0} → Sink.Ghosts K → List K → List K → List (Numbered Settled) → Type 0
PutsInFirst {K} g js ks ps = (k : K) → slice_get ks 0 ≡ Some k → (j : K) × (slice_get js 0 ≡ Some j) × Puts g j k ps

-- what an answerer went through, from a to b, as these items were answered in order. An answer fails only where its
-- count of faults rose
pub record Answers {A : Type 0} (g : Answerer.Ghosts A) (a b : A) (ps : List (Numbered Settled)) : Type 0 where
  pub counted : g.faults a ≤ g.faults b
  pub failed : 0 < count_by has_failed_answer ps → Rose (g.faults a) (g.faults b)
  pub placed : g.place b ≡ g.place a
  pub told : IsTrue (g.tells b) → IsTrue (g.tells a)
  pub calls : IsTrue (g.tells b) → g.calls b ≡ g.calls a ++ answers ps

-- a report that counts these items too, and keeps all other numbers and the ending
abbrev pub counted_with : Report → List (Numbered Settled) → Report
counted_with r ps = record r { acked = r.acked + count_by was_accepted ps; refused = r.refused + count_by was_refused ps; answer_faults = r.answer_faults + count_by has_failed_answer ps }

-- the items `given` were delivered as transaction n, each put and answered once, in order, and counted from report r
-- to report s. What became of each is in `txn`
pub record Settling {K A : Type 0} (gk : Sink.Ghosts K) (ga : Answerer.Ghosts A) (j k : K) (a b : A) (r s : Report) (n : ℕ) (given : List Item) (txn : List Settled) : Type 0 where
  pub items : map (λ (x : Settled). x.item) txn ≡ given
  pub puts : Puts gk j k (numbered_items n 0 txn)
  pub answers : Answers ga a b (numbered_items n 0 txn)
  pub report : s ≡ counted_with r (numbered_items n 0 txn)

abbrev pub IsSettled : {K A : Type 0} → Sink.Ghosts K → Answerer.Ghosts A → K → K → A → A → Report → Report → ℕ → List Item → Type 0
IsSettled gk ga j k a b r s n given = (txn : List Settled) × Settling gk ga j k a b r s n given txn

-- the same with the first sink of a list
pub record SettlingInFirst {K A : Type 0} (gk : Sink.Ghosts K) (ga : Answerer.Ghosts A) (js ks : List K) (a b : A) (r s : Report) (n : ℕ) (given : List Item) (txn : List Settled) : Type 0 where
  pub items : map (λ (x : Settled). x.item) txn ≡ given
  pub puts : PutsInFirst gk js ks (numbered_items n 0 txn)
  pub answers : Answers ga a b (numbered_items n 0 txn)
  pub report : s ≡ counted_with r (numbered_items n 0 txn)

-- item i of transaction n, and what became of it
abbrev pub one_item : ℕ → ℕ → Item → Bool → Bool → Numbered Settled
one_item n i item accepted answer_failed = record { txn = n; number = i; value = record { item = item; accepted = accepted; answer_failed = answer_failed } }

-- How an open transaction keeps its items: what is left to do for each and its least lost part, and a line of the items
-- that can be answered, in which each leads to the next. Callers see none of it.
use Rattle.std.specs.Prelude.{◌≡◌, ℕ, ◌+◌, ◌-◌, ◌<◌, ◌≤◌, ◌^◌, Bool, cond, eqb, ◌⊎◌, List, [], ◌∷◌, length, Option, Some, None, get_or, set, map}
use Rattle.bt_demand.specs.Holding.{is_open}
use Rattle.bt_demand.specs.Outcomes.{outcome}
use Rattle.bt_demand.specs.Parts.{Part}
use Rattle.bt_demand.specs.Reasons.{lesser}
use Rattle.bt_demand.specs.declared.routes.Count.{Count}
use Rattle.bt_ledger.specs.Due.{open_parts, unanswered, AllBelow, AllSome}
use Rattle.bt_ledger.specs.Verdicts.{lost_from}

-- of an item from which no part comes, and that is in no line yet
abbrev pub fresh_count : Count
fresh_count = record { left = 1; lost = None; next = 0 }

abbrev pub lefts : List Count → List ℕ
lefts cs = map (λ (c : Count). c.left) cs

abbrev pub nexts : List Count → List ℕ
nexts cs = map (λ (c : Count). c.next) cs

abbrev pub losses : List Count → List (Option ℕ)
losses cs = map (λ (c : Count). c.lost) cs

-- an item is answered where nothing is left to do for it
abbrev pub answered_by : List Count → List Bool
answered_by cs = map (λ n. eqb n 0) (lefts cs)

-- what is left after one part of these items was settled
abbrev pub lowered : List ℕ → List ℕ → List ℕ
lowered [] ns = ns
lowered (x ∷ xs) ns = lowered xs (set ns x (get_or ns x 0 - 1))

-- what is left after one more part of these items that is not settled
abbrev pub raised : List ℕ → List ℕ → List ℕ
raised [] ns = ns
raised (x ∷ xs) ns = raised xs (set ns x (get_or ns x 0 + 1))

-- the least lost parts after part p of these items was lost
abbrev pub noted : ℕ → List ℕ → List (Option ℕ) → List (Option ℕ)
noted p [] ls = ls
noted p (x ∷ xs) ls = noted p xs (set ls x (lesser (get_or ls x None) (Some p)))

-- what is left after more parts
abbrev pub counted_of : List Part → List ℕ → List ℕ
counted_of [] ns = ns
counted_of (p ∷ ps) ns = counted_of ps (cond (is_open (outcome p.demand)) (raised p.from ns) ns)

-- each of these items is there, and has a part that is not settled
abbrev pub Ready : List ℕ → List ℕ → Type 0
Ready [] ns = Unit {0}
Ready (x ∷ xs) ns = (x < length ns) × (2 ≤ get_or ns x 0) × Ready xs (set ns x (get_or ns x 0 - 1))

-- its answer alone is left
abbrev pub Waits : List ℕ → ℕ → Type 0
Waits ns i = get_or ns i 0 ≡ 1

-- its answer alone is left, and it is none of the first k
abbrev pub WaitsFrom : ℕ → List ℕ → ℕ → Type 0
WaitsFrom k ns i = (k ≤ i) × Waits ns i

-- The line of those that pass a test: it goes from the first to the last, each leads to the next one, and none is left out.
-- The last leads to the end, and where there is none, the first is the end.
pub record Lined (In : ℕ → Type 0) (next : List ℕ) (first last : ℕ) : Type 0 where
  pub inside : first ≤ length next
  pub least : (i : ℕ) → i < first → In i → ⊥
  pub found : first < length next → In first
  pub within : (i : ℕ) → In i → i < length next
  pub later : (i : ℕ) → In i → i < get_or next i 0
  pub ends : (i : ℕ) → In i → get_or next i 0 ≤ length next
  pub gap : (i j : ℕ) → In i → i < j → j < get_or next i 0 → In j → ⊥
  pub leads : (i : ℕ) → In i → get_or next i 0 < length next → In (get_or next i 0)
  pub closes : first < length next → In last
  pub most : (i : ℕ) → last < i → In i → ⊥

-- what is left for an item is a 1 for each part from it that isn't settled and a 1 for its answer; an answered one has no
-- part that isn't settled
pub record Counted (ps : List Part) (ns : List ℕ) : Type 0 where
  pub exact : (i : ℕ) → i < length ns → (get_or ns i 0 ≡ 1 + open_parts i ps) ⊎ ((get_or ns i 0 ≡ 0) × (open_parts i ps ≡ 0))
  pub below : AllBelow (length ns) ps

-- all of it; the parts are numbered by a u32
pub record Marked (ps : List Part) (cs : List Count) (first last unanswered_now : ℕ) : Type 0 where
  pub counted : Counted ps (lefts cs)
  pub line : Lined (Waits (lefts cs)) (nexts cs) first last
  pub lost : (i : ℕ) → i < length cs → get_or (losses cs) i None ≡ lost_from i 0 ps
  pub number : unanswered_now ≡ unanswered (answered_by cs)
  pub some : AllSome ps
  pub few : length ps < 2 ^ 32

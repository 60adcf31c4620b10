-- Which items of an open transaction can be answered, and what a transaction's parts come from.
use Rattle.std.specs.Prelude.{◌≡◌, ℕ, ◌+◌, ◌<◌, Bool, true, false, cond, eqb, List, [], ◌∷◌, length, Option, Some, None, get_or}
use Rattle.bt_demand.specs.Holding.{one_if, is_open}
use Rattle.bt_demand.specs.Outcomes.{outcome}
use Rattle.bt_demand.specs.Parts.{Part}
use Rattle.bt_demand.specs.WellFormed.{Rises}
use Rattle.bt_ledger.specs.Open.{Open, tree_of}

-- how often an item stands in a list
abbrev pub times : ℕ → List ℕ → ℕ
times i [] = 0
times i (x ∷ xs) = one_if (eqb i x) + times i xs

-- what a part counts for an item: nothing once it is settled
abbrev pub counts_for : ℕ → Part → ℕ
counts_for i p = cond (is_open (outcome p.demand)) (times i p.from) 0

-- how many of the parts from an item are not settled
abbrev pub open_parts : ℕ → List Part → ℕ
open_parts i [] = 0
open_parts i (p ∷ ps) = counts_for i p + open_parts i ps

-- an item that is not answered, and of which all parts are settled
abbrev pub IsDue : Open → ℕ → Type 0
IsDue o i = (i < length o.answered) × (get_or o.answered i true ≡ false) × (open_parts i o.parts ≡ 0)

-- the least such item, or that there is none
abbrev pub LeastDue : Open → Option ℕ → Type 0
LeastDue o None = (i : ℕ) → IsDue o i → ⊥
LeastDue o (Some i) = IsDue o i × ((j : ℕ) → j < i → IsDue o j → ⊥)

-- how many items are not answered
abbrev pub unanswered : List Bool → ℕ
unanswered [] = 0
unanswered (b ∷ bs) = cond b 0 1 + unanswered bs

-- each of these items is there
abbrev pub Below : ℕ → List ℕ → Type 0
Below n [] = Unit {0}
Below n (x ∷ xs) = (x < n) × Below n xs

-- each part comes from items that are there
abbrev pub AllBelow : ℕ → List Part → Type 0
AllBelow n [] = Unit {0}
AllBelow n (p ∷ ps) = Below n p.from × AllBelow n ps

-- each part comes from an item at least
abbrev pub AllSome : List Part → Type 0
AllSome [] = Unit {0}
AllSome (p ∷ ps) = (0 < length p.from) × AllSome ps

-- the items of each part rise
abbrev pub AllRise : List Part → Type 0
AllRise [] = Unit {0}
AllRise (p ∷ ps) = Rises p.from × AllRise ps

-- each part is met or lost
abbrev pub AllSettled : List Part → Type 0
AllSettled ps = (q : ℕ) → q < length ps → is_open (outcome (tree_of ps q)) ≡ false

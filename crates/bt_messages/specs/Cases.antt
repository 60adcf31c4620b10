-- The cases of a `switch` by what their processors make of messages, and the messages that don't go through one.
use Rattle.std.specs.Prelude.{ℕ, zero, suc, ◌+◌, List, [], ◌∷◌, map, Option, Some, None, option_map}
use Rattle.std.specs.Result.{result_ok}
use Rattle.bt_value.specs.declared.message.Msg.{Msg}
use Rattle.bt_ready.specs.declared.ready.Ready.{Ready}
use Rattle.bt_messages.specs.declared.tree.Case.{Case}
use Rattle.bt_messages.specs.declared.tree.Branch.{Branch}
use Rattle.bt_messages.specs.declared.tree.MessageProcessor.{MessageProcessor}
use Rattle.bt_messages.specs.Messages.{spot}
use Rattle.bt_messages.specs.Steps.{Step, Places, Routed, routed, copied, original_by, step}

abbrev pub in_case : {A B : Type 0} → (A → B) → Case A → Case B
in_case f k = record { check = k.check; processors = map f k.processors; fallthrough = k.fallthrough }

abbrev pub in_branch : {A B : Type 0} → (A → B) → Branch A → Branch B
in_branch f b = record { request = b.request; processors = map f b.processors; result = b.result }

abbrev pub steps : List (Case MessageProcessor) → List (Case Step)
steps ks = map (in_case step) ks

-- a message that doesn't go through the case that comes next
abbrev pub other_at : Option ℕ → Option Msg → Option Msg
other_at (Some zero) x = None
other_at n x = x

abbrev pub others : List (Option ℕ) → Places → Places
others (n ∷ ns) (x ∷ xs) = other_at n x ∷ others ns xs
others ns xs = []

-- a route with so many cases before it
abbrev pub later : ℕ → Routed → Routed
later n r = record r { next = option_map (λ k. n + k) r.next }

-- what becomes of a message at a place: its route, its copy, its original
abbrev pub route_at : List (Case Step) → ℕ → ℕ → ℕ → Msg → Option Routed
route_at ks n moment i x = Some (routed ks (spot n moment i) x)

abbrev pub copy_at : Option Ready → ℕ → ℕ → ℕ → Msg → Option Msg
copy_at r n moment i x = result_ok (copied r (spot n moment i) x)

abbrev pub original_at : Option Ready → ℕ → ℕ → ℕ → Msg → Option Msg
original_at r n moment i x = Some (original_by (copied r (spot n moment i) x) x)

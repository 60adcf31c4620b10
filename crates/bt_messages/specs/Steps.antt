-- Processors that give one message or none for each, as those below a `switch` and a `branch` do. A message is followed by
-- its place among those that went in: one that was dropped leaves its place empty, and those that are there count their
-- places without it.
use Rattle.std.specs.Prelude.{ℕ, zero, suc, ◌+◌, List, [], ◌∷◌, codes, map, Bool, true, false, Option, Some, None, Result, Ok, Err, is_some, option_map, option_and_then, if◌then◌else◌}
use Rattle.std.specs.Result.{result_ok}
use Rattle.bt_value.specs.declared.message.Msg.{Msg}
use Rattle.bt_ready.specs.declared.ready.Ready.{Ready}
use Rattle.bt_meaning.specs.Mapped.{mapped}
use Rattle.bt_meaning.specs.declared.message.Spot.{Spot}
use Rattle.bt_meaning.specs.declared.message.Mapped.{Mapped}
use Rattle.bt_meaning.specs.declared.message.Mapped.TheVariants.{Changed, Dropped, Flagged}
use Rattle.bt_mappings.specs.Checked.{checked}
use Rattle.bt_messages.specs.declared.tree.Case.{Case}
use Rattle.bt_messages.specs.declared.tree.Branch.{Branch}
use Rattle.bt_messages.specs.declared.tree.MessageProcessor.{MessageProcessor, fold-MessageProcessor}
use Rattle.bt_messages.specs.declared.tree.MessageProcessor.TheOpen.{MessageProcessor-F}
use Rattle.bt_messages.specs.Messages.{flagged, unflagged, is_flagged, spot, after}

-- messages in their places, some of which are empty
abbrev pub Places : Type 0
Places = List (Option Msg)

-- what a processor makes of them at a moment, each in its place
abbrev pub Step : Type 0
Step = ℕ → Places → Places

-- how many are there
abbrev pub count : Places → ℕ
count [] = 0
count (None ∷ xs) = count xs
count (Some x ∷ xs) = suc (count xs)

-- A function of each message and of its place among those that are there, from a place on.
abbrev pub each : {A : Type 0} → (ℕ → Msg → Option A) → ℕ → Places → List (Option A)
each f i [] = []
each f i (None ∷ xs) = None ∷ each f i xs
each f i (Some x ∷ xs) = f i x ∷ each f (suc i) xs

-- processors in their order
abbrev pub in_turn : List Step → Step
in_turn [] moment xs = xs
in_turn (f ∷ fs) moment xs = in_turn fs moment (f moment xs)

-- the message in the only place
abbrev pub only : Places → Option Msg
only [] = None
only (x ∷ xs) = x

-- one message through processors, as a batch of its own
abbrev pub alone : List Step → ℕ → Msg → Option Msg
alone fs moment x = only (in_turn fs moment (Some x ∷ []))

-- mapping ---------------------------------------------------------------

abbrev pub mapped_at : Ready → ℕ → ℕ → ℕ → Msg → Option Msg
mapped_at r n moment i x = after x (mapped r.mapping x None (spot n moment i))

-- `mapping`: on each message, with its place in the batch
abbrev pub mapping : Ready → Step
mapping r moment xs = each (mapped_at r (count xs) moment) 0 xs

-- try, for_each and catch -------------------------------------------------

-- a message that isn't flagged goes through a child as a batch of one; one that is stays as it is
abbrev pub tried_by : Step → ℕ → Msg → Option Msg
tried_by f moment x = if is_flagged x then Some x else only (f moment (Some x ∷ []))

abbrev pub tried : List Step → ℕ → Option Msg → Option Msg
tried [] moment x = x
tried (f ∷ fs) moment x = tried fs moment (option_and_then (tried_by f moment) x)

-- a flagged message goes through the processors, and what comes of it has no flag; the others stay
abbrev pub caught : List Step → ℕ → Msg → Option Msg
caught fs moment x = if is_flagged x then option_map unflagged (alone fs moment x) else Some x

-- switch ------------------------------------------------------------------

-- What a check says of a message: it passes, it doesn't, or it fails with a text. Without a check all pass.
abbrev pub answered : Option Ready → Msg → Spot → Result Bool (List ℕ)
answered None x s = Ok true
answered (Some r) x s = checked r.mapping x s

-- a message, and how many of the cases from here on stand before the next that it goes through, if there is such a one
pub record Routed : Type 0 where
  pub message : Msg
  pub next : Option ℕ

-- The first case that passes is the next one. A check that fails flags the message, which then goes through none.
abbrev pub routed_by : Result Bool (List ℕ) → Msg → Routed → Routed
routed_by (Ok true) x rest = record { message = x; next = Some zero }
routed_by (Ok false) x rest = record rest { next = option_map suc rest.next }
routed_by (Err t) x rest = record { message = flagged t x; next = None }

abbrev pub routed : List (Case Step) → Spot → Msg → Routed
routed [] s x = record { message = x; next = None }
routed (k ∷ ks) s x = routed_by (answered k.check x s) x (routed ks s x)

abbrev pub messages : List (Option Routed) → Places
messages rs = map (option_map (λ r. r.message)) rs

abbrev pub nexts : List (Option Routed) → List (Option ℕ)
nexts rs = map (option_and_then (λ r. r.next)) rs

-- a message that goes through the case that comes next
abbrev pub going_at : Option ℕ → Option Msg → Option Msg
going_at (Some zero) x = x
going_at n x = None

abbrev pub going : List (Option ℕ) → Places → Places
going (n ∷ ns) (x ∷ xs) = going_at n x ∷ going ns xs
going ns xs = []

-- what came of it in its place, and the others as they were
abbrev pub put_at : Option ℕ → Option Msg → Option Msg → Option Msg
put_at (Some zero) y x = y
put_at n y x = x

abbrev pub put_back : List (Option ℕ) → Places → Places → Places
put_back (n ∷ ns) (y ∷ ys) (x ∷ xs) = put_at n y x ∷ put_back ns ys xs
put_back ns ys xs = []

-- behind a case: a message that went through it goes through the next one where the case has `fallthrough`
abbrev pub next_after : Bool → Option ℕ → Option ℕ
next_after on None = None
next_after on (Some zero) = if on then Some zero else None
next_after on (Some (suc n)) = Some n

-- the cases in their order: the messages that go through one are processed as one batch
abbrev pub by_cases : List (Case Step) → ℕ → List (Option ℕ) → Places → Places
by_cases [] moment ns xs = xs
by_cases (k ∷ ks) moment ns xs = by_cases ks moment (map (next_after k.fallthrough) ns) (put_back ns (in_turn k.processors moment (going ns xs)) xs)

abbrev pub routes : List (Case Step) → ℕ → Places → List (Option Routed)
routes ks moment xs = each (λ i x. Some (routed ks (spot (count xs) moment i) x)) 0 xs

-- `switch`
abbrev pub switch : List (Case Step) → Step
switch ks moment xs = by_cases ks moment (nexts (routes ks moment xs)) (messages (routes ks moment xs))

-- branch ------------------------------------------------------------------

-- the copy that a message has, or what the message is without one
abbrev pub copy_by : Msg → Mapped → Result Msg Msg
copy_by x (Changed m) = Ok m
copy_by x Dropped = Err x
copy_by x (Flagged t) = Err (flagged t x)

-- a copy begins without a flag
abbrev pub copied : Option Ready → Spot → Msg → Result Msg Msg
copied None s x = Ok (unflagged x)
copied (Some r) s x = copy_by x (mapped r.mapping (unflagged x) None s)

abbrev pub original_by : Result Msg Msg → Msg → Msg
original_by (Ok c) x = x
original_by (Err z) x = z

-- the copies, in the places of their originals
abbrev pub copies : Option Ready → ℕ → ℕ → Places → Places
copies r n moment xs = each (λ i x. result_ok (copied r (spot n moment i) x)) 0 xs

-- the originals, of which those that have no copy are what they are to be
abbrev pub originals : Option Ready → ℕ → ℕ → Places → Places
originals r n moment xs = each (λ i x. Some (original_by (copied r (spot n moment i) x) x)) 0 xs

-- the original with what came of its copy
abbrev pub brought : Option Ready → Spot → Msg → Msg → Option Msg
brought None s x y = Some x
brought (Some r) s x y = after x (mapped r.mapping y (Some x) s)

abbrev pub unless_flagged : Option (List ℕ) → Msg → Option Msg → Option Msg
unless_flagged None x o = o
unless_flagged (Some t) x o = Some (flagged t x)

-- A copy that was dropped by a processor, or came out flagged, flags the original.
abbrev pub joined : Option Ready → Spot → Msg → Option Msg → Option Msg
joined r s x None = Some (flagged (codes "branch: dropped") x)
joined r s x (Some y) = unless_flagged y.flag x (brought r s x y)

-- each original with what came of its copy, where it had one
abbrev pub joined_at : Option Ready → Spot → Bool → Msg → Option Msg → Option Msg
joined_at r s b x y = if b then joined r s x y else Some x

abbrev pub joined_place : Option Ready → ℕ → ℕ → ℕ → Bool → Option Msg → Option Msg → Option Msg
joined_place r n moment i b y None = None
joined_place r n moment i b y (Some x) = joined_at r (spot n moment i) b x y

-- the place of the next message
abbrev pub next_place : ℕ → Option Msg → ℕ
next_place i None = i
next_place i (Some x) = suc i

abbrev pub all_joined : Option Ready → ℕ → ℕ → ℕ → List Bool → Places → Places → Places
all_joined r n moment i (b ∷ bs) (y ∷ ys) (x ∷ xs) = joined_place r n moment i b y x ∷ all_joined r n moment (next_place i x) bs ys xs
all_joined r n moment i bs ys xs = []

abbrev pub branched : Branch Step → ℕ → ℕ → Places → Places → Places
branched b n moment cs xs = all_joined b.result n moment 0 (map is_some cs) (in_turn b.processors moment cs) xs

-- `branch`: the copies, in their order, are processed as one batch
abbrev pub branch : Branch Step → Step
branch b moment xs = branched b (count xs) moment (copies b.request (count xs) moment xs) (originals b.request (count xs) moment xs)

-- one case for each processor -----------------------------------------------

abbrev pub step_of : MessageProcessor-F Step → Step
step_of (MessageProcessor-F.Mapping r) moment xs = mapping r moment xs
step_of (MessageProcessor-F.Try fs) moment xs = map (option_and_then (λ x. tried fs moment (Some x))) xs
step_of (MessageProcessor-F.ForEach fs) moment xs = map (option_and_then (alone fs moment)) xs
step_of (MessageProcessor-F.Catch fs) moment xs = map (option_and_then (caught fs moment)) xs
step_of (MessageProcessor-F.Switch ks) moment xs = switch ks moment xs
step_of (MessageProcessor-F.Branch b) moment xs = branch b moment xs

-- what a processor makes of messages in their places
abbrev pub step : MessageProcessor → Step
step = fold-MessageProcessor Step step_of

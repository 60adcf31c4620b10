-- What stands of the batches of an intake, and what their steps do. Only proofs use it.
use Rattle.std.specs.Prelude.{◌≡◌, ◌⊎◌, ℕ, ◌+◌, ◌-◌, ◌^◌, ◌<◌, ◌≤◌, min, IsTrue, Bool, true, false, List, [], ◌∷◌, ◌++◌, length, take, drop, Option, Some, None, Result, Ok, Err, slice_get}
use Rattle.bt_ports.specs.declared.NoMemory.{NoMemory}
use Rattle.bt_ports.specs.Contents.{Contents}
use Rattle.bt_ports.specs.Intake.{NextFaults}
use Rattle.bt_ports.specs.declared.parts.Item.{Item}
use Rattle.bt_ports.specs.declared.parts.Next.{Next}
use Rattle.bt_ports.specs.declared.parts.Next.TheVariants as next
use Rattle.bt_ports.specs.declared.outside.Source as Source
use Rattle.bt_cut.specs.Cuts.{cut, pieces_after, rest_after, ended}
use Rattle.bt_intake.specs.declared.batches.Batches.{Batches}
use Rattle.bt_intake.specs.Answers.{Says, ReadsLate}
use Rattle.bt_intake.specs.Batches.{batches, bytes_in, ends, is_off, source_items}
use Rattle.bt_intake.specs.Reader.{ReaderHolds}
use Rattle.bt_intake.specs.Sources.{all_tell, told, SourcesKept, OneRose}

-- how far a list is cut into pieces: `done` of its elements were taken and `given` pieces given, and `piece` is what stands of the
-- next one
pub record CutSoFar {A : Type 0} (e : List A → Bool) (xs piece : List A) (given done : ℕ) : Type 0 where
  pub in_list : given ≤ length (cut e xs)
  pub to_come : drop given (cut e xs) ≡ pieces_after e piece (drop done xs)
  -- each piece that ended was given
  pub ended_given : length (ended e (take done xs)) ≤ given
  -- the piece is what is left of the elements so far, unless all were given
  pub is_rest : (piece ≡ rest_after e [] (take done xs)) ⊎ ((length xs ≤ done) × (piece ≡ []))

-- the items that the sources tell
abbrev pub items_of : {S : Type 0} → Source.Ghosts S → Batches S → List Item
items_of g b = source_items b.reader.delimiter b.reader.bound (told g b.reader.sources.list)

-- their batches
abbrev pub batches_of : {S : Type 0} → Source.Ghosts S → Batches S → List (List Item)
batches_of g b = batches b.reader.delimiter b.policy b.reader.bound (told g b.reader.sources.list)

-- how many items were given: those of the batch at hand weren't yet
abbrev pub items_given : {S : Type 0} → Batches S → ℕ
items_given b = b.reader.given - length b.batch.list

-- the number of the bytes of some items, or the last value of its type where they have more
abbrev pub size_of : List Item → ℕ
size_of batch = min (2 ^ 64 - 1) (bytes_in batch)

-- what holds of the batches before and after each step
pub record BatchesHold {S : Type 0} (g : Source.Ghosts S) (b : Batches S) : Type 0 where
  pub reader : ReaderHolds g b.reader
  pub size : b.size ≡ size_of b.batch.list
  pub counts : b.given + length b.batch.list ≤ b.reader.given
  pub few : length b.batch.list < 2 ^ 32
  -- where every item is a batch, none is at hand, and as many batches as items were given
  pub alone : is_off b.policy ≡ true → (b.batch.list ≡ []) × (b.reader.given ≡ b.given)
  -- no more batches were given than there are
  pub listed : IsTrue (all_tell g b.reader.sources.list) → b.given ≤ length (batches_of g b)
  -- unless it is open whether the batch at hand ends with its last item
  pub so_far : b.lost ≡ false → IsTrue (all_tell g b.reader.sources.list) → CutSoFar (ends b.policy) (items_of g b) b.batch.list b.given b.reader.given

-- how far a call took them
pub record Gathers {S : Type 0} (g : Source.Ghosts S) (b c : Batches S) : Type 0 where
  pub kept : SourcesKept g b.reader.sources.list c.reader.sources.list
  pub delimiter : c.reader.delimiter ≡ b.reader.delimiter
  pub policy : c.policy ≡ b.policy
  pub bound : c.reader.bound ≡ b.reader.bound
  pub taken : b.reader.taken ≤ c.reader.taken
  pub late : IsTrue (all_tell g c.reader.sources.list) → b.reader.taken < c.reader.taken
      → ReadsLate b.reader.delimiter b.policy b.reader.taken c.reader.taken b.given (told g c.reader.sources.list)

-- a batch that was given is the next one of the list
pub record GivesBatch {S : Type 0} (g : Source.Ghosts S) (b c : Batches S) (items : List Item) : Type 0 where
  pub some : 1 ≤ length items
  pub few : length items < 2 ^ 32
  pub one : is_off b.policy ≡ true → length items ≡ 1
  pub given : c.given ≡ b.given + 1
  pub counted : items_given c ≡ items_given b + length items
  pub next : IsTrue (all_tell g c.reader.sources.list) → slice_get (batches_of g c) b.given ≡ Some items

-- what an answer other than a batch says of them
abbrev pub SaysOf : {S : Type 0} → Source.Ghosts S → Next → Batches S → Type 0
SaysOf g answer b = Says answer b.reader.delimiter b.policy b.reader.bound b.reader.taken b.given (all_tell g b.reader.sources.list) (told g b.reader.sources.list)

-- no batch was given
pub record GivesNone {S : Type 0} (b c : Batches S) : Type 0 where
  pub given : c.given ≡ b.given
  pub counted : items_given c ≡ items_given b

-- what was given where they answered
abbrev pub BatchAnswers : {S : Type 0} → Source.Ghosts S → Next → Batches S → Batches S → Type 0
BatchAnswers g (next.Batch items) b c = GivesBatch g b c items.list
BatchAnswers g next.End b c = GivesNone b c × SaysOf g next.End c
BatchAnswers g next.Failed b c = GivesNone b c × OneRose g b.reader.sources.list c.reader.sources.list × SaysOf g next.Failed c
BatchAnswers g (next.LongLine n) b c = GivesNone b c × SaysOf g (next.LongLine n) c
BatchAnswers g next.Bound b c = GivesNone b c × SaysOf g next.Bound c
BatchAnswers g next.NoMemory b c = GivesNone b c

-- one step: an answer, or one item more
abbrev pub BatchSteps : {S : Type 0} → Source.Ghosts S → Option Next → Batches S → Batches S → Type 0
BatchSteps g None b c = GivesNone b c × (c.reader.given ≡ b.reader.given + 1)
BatchSteps g (Some answer) b c = BatchAnswers g answer b c

-- only want of memory leaves open whether the batch at hand ends
abbrev pub AliveAfter : {S : Type 0} → Next → Batches S → Type 0
AliveAfter (next.Batch items) b = b.lost ≡ false
AliveAfter next.End b = b.lost ≡ false
AliveAfter next.Failed b = b.lost ≡ false
AliveAfter (next.LongLine n) b = b.lost ≡ false
AliveAfter next.Bound b = b.lost ≡ false
AliveAfter next.NoMemory b = Unit {0}

abbrev pub Alive : {S : Type 0} → Option Next → Batches S → Type 0
Alive None b = b.lost ≡ false
Alive (Some answer) b = AliveAfter answer b

-- one step's faults: those of its answer, and none where it gave none
abbrev pub BatchFaults : Option Next → ℕ → ℕ → Type 0
BatchFaults None before after = after ≡ before
BatchFaults (Some answer) before after = NextFaults answer before after

-- the items of the batch at hand were given
pub record Ends {S : Type 0} (b c : Batches S) (items : List Item) : Type 0 where
  pub gives : items ≡ b.batch.list
  pub reader : c.reader ≡ b.reader
  pub policy : c.policy ≡ b.policy
  pub empty : c.batch.list ≡ []
  pub none : c.size ≡ 0
  pub given : c.given ≡ b.given + 1
  pub lost : c.lost ≡ b.lost

-- an item was added to the batch at hand, which hasn't ended
pub record Added {S : Type 0} (i : Item) (b c : Batches S) : Type 0 where
  pub reader : c.reader ≡ b.reader
  pub policy : c.policy ≡ b.policy
  pub batch : c.batch.list ≡ b.batch.list ++ i ∷ []
  pub size : c.size ≡ size_of (b.batch.list ++ i ∷ [])
  pub given : c.given ≡ b.given
  pub lost : c.lost ≡ b.lost
  pub ended : ends b.policy (b.batch.list ++ i ∷ []) ≡ false

-- an item was added to the batch at hand, which has ended and was given
pub record AddsLast {S : Type 0} (i : Item) (items : List Item) (b c : Batches S) : Type 0 where
  pub reader : c.reader ≡ b.reader
  pub policy : c.policy ≡ b.policy
  pub gives : items ≡ b.batch.list ++ i ∷ []
  pub empty : c.batch.list ≡ []
  pub none : c.size ≡ 0
  pub given : c.given ≡ b.given + 1
  pub lost : c.lost ≡ b.lost
  pub ended : ends b.policy (b.batch.list ++ i ∷ []) ≡ true

-- an item was added to the batch at hand, and want of memory left open whether it ends
pub record AddedOpen {S : Type 0} (i : Item) (b c : Batches S) : Type 0 where
  pub reader : c.reader ≡ b.reader
  pub policy : c.policy ≡ b.policy
  pub batch : c.batch.list ≡ b.batch.list ++ i ∷ []
  pub size : c.size ≡ size_of (b.batch.list ++ i ∷ [])
  pub given : c.given ≡ b.given
  pub lost : c.lost ≡ true
  pub on : is_off b.policy ≡ false

-- what became of an item
abbrev pub Adds : {S : Type 0} → Result (Option (Contents Item)) NoMemory → Item → Batches S → Batches S → Type 0
Adds (Ok None) i b c = Added i b c
Adds (Ok (Some items)) i b c = AddsLast i items.list b c
Adds (Err e) i b c = AddedOpen i b c

-- the rest was given, or the answer itself where there is none
abbrev pub Stops : {S : Type 0} → Option (Contents Item) → Batches S → Batches S → Type 0
Stops None b c = (b.batch.list ≡ []) × (c ≡ b)
Stops (Some items) b c = (1 ≤ length b.batch.list) × Ends b c items.list

-- these items as a batch, or the answer where there are none
abbrev pub rest_or : Option (Contents Item) → Next → Next
rest_or None answer = answer
rest_or (Some items) answer = next.Batch items

-- the rest was given, and then an answer
pub record StopsWith {S : Type 0} (answer result : Next) (b c : Batches S) : Type 0 where
  pub rest : Option (Contents Item)
  pub is : result ≡ rest_or rest answer
  pub stops : Stops rest b c

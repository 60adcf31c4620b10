-- What fails of what is expected of batches.
use Rattle.std.specs.Prelude.{ℕ, suc, List, [], ◌∷◌, ◌++◌, ◌==◌, length, Bool, if◌then◌else◌}
use Rattle.std.specs.List.{flat_map}
use Rattle.bt_value.specs.declared.message.Msg.{Msg}
use Rattle.bt_batches.specs.declared.piece.Piece.{Piece}
use Rattle.bt_meaning.specs.declared.message.Spot.{Spot}
use Rattle.bt_messages.specs.Messages.{spot}
use Rattle.bt_expectations.specs.Conditions.{condition_of, holds}
use Rattle.bt_expectations.specs.declared.condition.Expectation.{Expectation}
use Rattle.bt_expectations.specs.declared.failure.Failure.{Failure}
use Rattle.bt_expectations.specs.declared.failure.Failure.TheVariants as failure

-- What a function gives of each two elements of two lists that stand at one place, from a number of that place on, put end to end.
abbrev pub each_pair : {A B C : Type 0} → (ℕ → A → B → List C) → ℕ → List A → List B → List C
each_pair f i [] ys = []
each_pair f i (x ∷ xs) [] = []
each_pair f i (x ∷ xs) (y ∷ ys) = f i x y ++ each_pair f (suc i) xs ys

-- the failure, unless the test passes
abbrev pub unless : Bool → Failure → List Failure
unless passes f = if passes then [] else f ∷ []

-- the conditions that fail on a message, in their order
abbrev pub in_message : ℕ → List Expectation → Msg → Spot → List Failure
in_message batch es msg at = flat_map (λ e. unless (holds e msg at) (failure.Condition batch at.index (condition_of e))) es

-- The messages of a batch, each with its place in the batch; the moment is 0.
abbrev pub in_messages : ℕ → List (List Expectation) → List Piece → List Failure
in_messages batch es ps = each_pair (λ i e p. in_message batch e p.msg (spot (length ps) 0 i)) 0 es ps

-- Where a batch has another number of messages, only that is a failure of it.
abbrev pub in_batch : ℕ → List (List Expectation) → List Piece → List Failure
in_batch batch es ps = if length es == length ps then in_messages batch es ps else failure.Messages batch (length es) (length ps) ∷ []

-- What fails of all that is expected. Where there is another number of batches, only that is a failure.
abbrev pub failures_of : List (List (List Expectation)) → List (List Piece) → List Failure
failures_of es bs = if length es == length bs then each_pair in_batch 0 es bs else failure.Batches (length es) (length bs) ∷ []

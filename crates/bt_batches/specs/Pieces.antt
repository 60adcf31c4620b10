-- Messages with their origins, and batches of them.
use Rattle.std.specs.Prelude.{ℕ, List, [], ◌∷◌, map, Option, Some, None}
use Rattle.std.specs.List.{flat_map}
use Rattle.bt_value.specs.declared.message.Msg.{Msg}
use Rattle.bt_messages.specs.Messages.{flagged, unflagged}
use Rattle.bt_messages.specs.Steps.{step}
use Rattle.bt_messages.specs.declared.tree.MessageProcessor.{MessageProcessor}
use Rattle.bt_batches.specs.declared.piece.Piece.{Piece}

-- a message with a flag, and without one, with its origins
abbrev pub flagged_piece : List ℕ → Piece → Piece
flagged_piece t p = record p { msg = flagged t p.msg }

abbrev pub without_flag : Piece → Piece
without_flag p = record p { msg = unflagged p.msg }

-- the batch of these messages; without a message there is no batch
abbrev pub filled : List Piece → List (List Piece)
filled [] = []
filled (p ∷ ps) = (p ∷ ps) ∷ []

-- batches end to end as one list of messages
abbrev pub joined : List (List Piece) → List Piece
joined bs = flat_map (λ b. b) bs

-- Messages in their places, with the origins of those that went in; a place whose message was dropped is left out.
abbrev pub with_origins : List (Option Msg) → List (List ℕ) → List Piece
with_origins [] os = []
with_origins (x ∷ xs) [] = []
with_origins (None ∷ xs) (o ∷ os) = with_origins xs os
with_origins (Some x ∷ xs) (o ∷ os) = record { msg = x; from = o } ∷ with_origins xs os

abbrev pub origins_of : List Piece → List (List ℕ)
origins_of ps = map (λ p. p.from) ps

-- a batch through a processor that gives one message or none for each
abbrev pub stepped : MessageProcessor → ℕ → List Piece → List Piece
stepped m moment ps = with_origins (step m moment (map (λ p. Some p.msg) ps)) (origins_of ps)

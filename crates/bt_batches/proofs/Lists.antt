-- Batches that are empty or not, and messages put to their origins.
use Rattle.std.proofs.Common.{◌≡◌, ℕ, ◌+◌, ◌<◌, List, [], ◌∷◌, ◌++◌, length, Option, Some, None, IsSome, refl, sym, arith}
use Rattle.std.specs.Option.{option_to_list}
use Rattle.bt_value.specs.declared.message.Msg.{Msg}
use Rattle.bt_cut.specs.Cuts.{left}
use Rattle.bt_batches.specs.declared.piece.Piece.{Piece}
use Rattle.bt_batches.specs.Pieces.{filled, with_origins}

-- the last piece of a cut is a batch, where it isn't empty
pub left_is_filled : (ps : List Piece) → left ps ≡ filled ps
left_is_filled [] = refl
left_is_filled (p ∷ ps) = refl

-- without origins there is no message
pub with_origins_none : (xs : List (Option Msg)) → with_origins xs [] ≡ []
with_origins_none [] = refl
with_origins_none (x ∷ xs) = refl

-- the next message with the next origin, where there is one, and those behind them
pub next_message : (x : Option Msg) (xs : List (Option Msg)) (o : Option (List ℕ)) (os rest : List (List ℕ)) (n : ℕ) → os ≡ option_to_list o ++ rest → (0 < n → IsSome o) → length rest + length (option_to_list o) ≡ n
    → with_origins (x ∷ xs) os ≡ with_origins (x ∷ []) (option_to_list o) ++ with_origins xs rest
next_message x xs None os [] n e some len = rw e (sym (with_origins_none xs))
next_message x xs None os (r ∷ rest) n e some len = let no : IsSome {T = List ℕ} None = some (omega arith) in cc
next_message None xs (Some o) os rest n e some len = rw e refl
next_message (Some x) xs (Some o) os rest n e some len = rw e refl

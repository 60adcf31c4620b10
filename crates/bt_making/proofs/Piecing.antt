-- The pieces of a text, one after another.
use Rattle.std.proofs.Common.{◌≡◌, ℕ, ◌+◌, ◌<◌, ◌≤◌, List, [], ◌∷◌, ◌++◌, length, get_or, drop, sym, subst, arith, append_assoc, append-nil, add-one, inl, inr, zero, suc}
use Rattle.std.proofs.Math.Seq.{drop-cons}
use Rattle.std.proofs.lemmas.List.{drop_all}
use Rattle.bt_mappings.specs.declared.interpolation.Bit.{Bit}
use Rattle.bt_pieces.specs.declared.cut.Span.{Span}
use Rattle.bt_making.specs.Inside.{AreWhole, IsWhole}
use Rattle.bt_making.specs.Made.{ArePieces, FirstUnready, IsPiece, IsRefusal, IsUnreadyAt}
use Rattle.bt_making.specs.declared.refusal.Refusal.{Refusal}
use Rattle.bt_making.proofs.Refusing.{refused_so}

pub whole_at : (s : List ℕ) (spans : List Span) (i : ℕ) (d : Span) → AreWhole s spans → i < length spans → IsWhole s (get_or spans i d)
whole_at s [] i d all inside = absurd (omega arith)
whole_at s (x ∷ xs) zero d all inside = all.0
whole_at s (x ∷ xs) (suc i) d all inside = whole_at s xs i d all.1 (omega arith)

left_at : (xs : List Span) (i : ℕ) (d : Span) → i < length xs → drop i xs ≡ get_or xs i d ∷ drop (i + 1) xs
left_at xs i d inside = rw add-one (drop-cons xs i d inside)

-- whatever pieces the spans that are left have, all have them behind these
abbrev pub SoFar : List ℕ → List Span → ℕ → List Bit → Type 0
SoFar s spans i out = (more : List Bit) → ArePieces s (drop i spans) more → ArePieces s spans (out ++ more)

-- where a query of those that are left is the first that isn't made ready, it is the first of all
abbrev pub NoneSoFar : List ℕ → List Span → ℕ → Type 0
NoneSoFar s spans i = (words : List ℕ) → FirstUnready s (drop i spans) words → FirstUnready s spans words

pub one_more : (s : List ℕ) (spans : List Span) (i : ℕ) (d : Span) (out : List Bit) (b : Bit) → i < length spans → IsPiece s (get_or spans i d) b →
    SoFar s spans i out → SoFar s spans (i + 1) (out ++ b ∷ [])
one_more s spans i d out b inside piece before = λ more h.
    let here : ArePieces s (drop i spans) (b ∷ more) = subst (λ (xs : List Span). ArePieces s xs (b ∷ more)) (sym (left_at spans i d inside)) (piece, h) in
    subst (ArePieces s spans) (sym (append_assoc out (b ∷ []) more)) (before (b ∷ more) here)

pub none_more : (s : List ℕ) (spans : List Span) (i : ℕ) (d : Span) (b : Bit) → i < length spans → IsPiece s (get_or spans i d) b →
    NoneSoFar s spans i → NoneSoFar s spans (i + 1)
none_more s spans i d b inside piece before = λ words h.
    before words (subst (λ (xs : List Span). FirstUnready s xs words) (sym (left_at spans i d inside)) (inr (b, piece, h)))

pub all_so_far : (s : List ℕ) (spans : List Span) (i : ℕ) (out : List Bit) → length spans ≤ i → SoFar s spans i out → ArePieces s spans out
all_so_far s spans i out ended before =
    subst (ArePieces s spans) (append-nil out) (before [] (subst (λ (xs : List Span). ArePieces s xs []) (sym (drop_all i spans ended)) tt))

pub refused_here : (s at : List ℕ) (spans : List Span) (i : ℕ) (d : Span) (r : Refusal) → i < length spans → NoneSoFar s spans i →
    IsRefusal (IsUnreadyAt s (get_or spans i d)) at r → IsRefusal (FirstUnready s spans) at r
refused_here s at spans i d r inside before h =
    refused_so (IsUnreadyAt s (get_or spans i d)) (FirstUnready s spans) at r
    (λ words u. before words (subst (λ (xs : List Span). FirstUnready s xs words) (sym (left_at spans i d inside)) (inl u))) h

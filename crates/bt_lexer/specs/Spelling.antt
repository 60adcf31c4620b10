-- What may stand between two quotation marks, as RFC 8259, section 7, spells the characters of a string, but for raw
-- control characters, of which only a line feed is left out here.
use Rattle.std.specs.Prelude.{◌≡◌, ℕ, true, false, List, [], ◌∷◌, ◌++◌, Some, encode_utf8}
use Rattle.bt_lexer.specs.Bytes.{backslash}
use Rattle.bt_lexer.specs.Strings.{is_plain, short_escape, unit_at, is_high, is_low, pair_value}

-- one part, as it is spelled, and the bytes that it stands for
pub data IsPart : List ℕ → List ℕ → Type 0 where
  plain : (c : ℕ) → is_plain c ≡ true → IsPart (c ∷ []) (c ∷ [])
  short : (e c : ℕ) → short_escape e ≡ Some c → IsPart (backslash ∷ e ∷ []) (c ∷ [])
  unit : (a b c d n : ℕ) → unit_at (a ∷ b ∷ c ∷ d ∷ []) ≡ Some n → is_high n ≡ false → is_low n ≡ false → IsPart (backslash ∷ 117 ∷ a ∷ b ∷ c ∷ d ∷ []) (encode_utf8 n)
  pair : (a b c d n e f g h m : ℕ) → unit_at (a ∷ b ∷ c ∷ d ∷ []) ≡ Some n → is_high n ≡ true → unit_at (e ∷ f ∷ g ∷ h ∷ []) ≡ Some m → is_low m ≡ true →
      IsPart (backslash ∷ 117 ∷ a ∷ b ∷ c ∷ d ∷ backslash ∷ 117 ∷ e ∷ f ∷ g ∷ h ∷ []) (encode_utf8 (pair_value n m))

-- parts one after another, and what they stand for
pub data Spells : List ℕ → List ℕ → Type 0 where
  nothing : Spells [] []
  part : {u v w x : List ℕ} → IsPart u w → Spells v x → Spells (u ++ v) (w ++ x)

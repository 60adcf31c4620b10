-- What is found at the front of a text.
use Rattle.std.specs.Prelude.{◌≡◌, ℕ, zero, suc, ◌<◌, ◌≤◌, Bool, true, false, List, [], ◌∷◌, ◌++◌, length, take, drop, Option, Some, None, encode_utf8}
use Rattle.bt_lexer.specs.declared.token.Kind.{Kind}
use Rattle.bt_lexer.specs.declared.token.Token.{Token}
use Rattle.bt_lexer.specs.Bytes.{begins, is_backslash}
use Rattle.bt_lexer.specs.Strings.{part_at, unicode_of, pair_of, unit_at, escaped_unit_at}
use Rattle.bt_lexer.specs.Kinds.{mark_in, marks}
use Rattle.bt_lexer.specs.Tokens.{IsToken, NoToken, IsGap, NoGap}

-- a front of this length that passes, or that no front passes
abbrev pub FindsFront : (List ℕ → Bool) → List ℕ → Option ℕ → Type 0
FindsFront passes s None = (u rest : List ℕ) → s ≡ u ++ rest → passes u ≡ false
FindsFront passes s (Some n) = (n ≤ length s) × (passes (take n s) ≡ true)

-- the first n bytes are a token of kind k
pub record BeginsToken (k : Kind) (n : ℕ) (s : List ℕ) : Type 0 where
  pub some : 0 < n
  pub within : n ≤ length s
  pub is : IsToken k (take n s) (drop n s)

-- a token, by its kind and its length, or that none begins here
abbrev pub FindsToken : List ℕ → Option (Kind × ℕ) → Type 0
FindsToken s None = NoToken s
FindsToken s (Some x) = BeginsToken x.0 x.1 s

-- a gap of this length, or for 0 that none begins here
abbrev pub FindsGap : List ℕ → ℕ → Type 0
FindsGap s zero = NoGap s
FindsGap s (suc n) = (suc n ≤ length s) × IsGap (take (suc n) s) (drop (suc n) s)

-- the mark that the first two bytes are, if there are two
abbrev pub pair_at : List ℕ → Option Kind
pair_at (a ∷ b ∷ v) = mark_in marks (a ∷ b ∷ [])
pair_at _ = None

-- a token stands at the place
pub record IsNext (s : List ℕ) (at : ℕ) (t : Token) : Type 0 where
  pub from : t.from ≡ at
  pub some : at < t.to
  pub within : t.to ≤ length s

-- an escape, by its length and its character, or that none begins here
abbrev pub FindsEscape : List ℕ → Option (ℕ × ℕ) → Type 0
FindsEscape s None = begins is_backslash s ≡ true → part_at s ≡ None
FindsEscape s (Some x) = (begins is_backslash s ≡ true) × (part_at s ≡ Some (record { len = x.0; value = encode_utf8 x.1 }))

-- the escape that `\u` begins, from the first of its digits on
abbrev pub FindsUnicode : List ℕ → Option (ℕ × ℕ) → Type 0
FindsUnicode s None = unicode_of (unit_at s) (escaped_unit_at (drop 4 s)) ≡ None
FindsUnicode s (Some x) = unicode_of (unit_at s) (escaped_unit_at (drop 4 s)) ≡ Some (record { len = x.0; value = encode_utf8 x.1 })

abbrev pub FindsPair : ℕ → Option ℕ → Option (ℕ × ℕ) → Type 0
FindsPair high next None = pair_of high next ≡ None
FindsPair high next (Some x) = pair_of high next ≡ Some (record { len = x.0; value = encode_utf8 x.1 })

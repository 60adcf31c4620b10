-- What the text of a mapping is read as: its tokens, each line feed among them, or its first fault.
use Rattle.std.specs.Prelude.{◌≡◌, ◌≢◌, ℕ, ◌+◌, ◌*◌, ◌-◌, fold, Bool, true, false, ◌&&◌, ◌||◌, ◌==◌, not, nat_lt, List, [], ◌∷◌, ◌++◌, length, Some, None, Result, Ok, Err}
use Rattle.std.specs.List.{list_all}
use Rattle.bt_lexer.specs.declared.token.Kind.{Kind}
use Rattle.bt_lexer.specs.declared.token.Kind.TheVariants.{Int, Dot}
use Rattle.bt_lexer.specs.declared.token.Token.{Token}
use Rattle.bt_lexer.specs.declared.token.LexFault.{LexFault}
use Rattle.bt_lexer.specs.declared.token.LexFault.TheVariants.{Char, Text, Number}
use Rattle.bt_lexer.specs.Bytes.{quote, is_digit, is_letter, is_blank, is_in_line, begins}
use Rattle.bt_lexer.specs.Strings.{begins_tripled, is_tripled}
use Rattle.bt_lexer.specs.Kinds.{kind_of}

-- The bytes u are a token of kind k where rest follows them: they have that kind, and no longer text at their place has one.
-- Three quotation marks always open the second form of a text, so two that a third one follows are no token.
pub record IsToken (k : Kind) (u rest : List ℕ) : Type 0 where
  pub has : kind_of u ≡ Some k
  pub longest : (c : ℕ) (v w : List ℕ) → rest ≡ c ∷ (v ++ w) → kind_of (u ++ c ∷ v) ≡ None
  pub tripled : begins_tripled (u ++ rest) ≡ true → is_tripled u ≡ true

-- no token begins here
abbrev pub NoToken : List ℕ → Type 0
NoToken s = (k : Kind) (u rest : List ℕ) → s ≡ u ++ rest → IsToken k u rest → ⊥

-- a blank, or a comment, which ends before the line feed or at the end of the text
pub data IsGap : List ℕ → List ℕ → Type 0 where
  blank : {rest : List ℕ} (c : ℕ) → is_blank c ≡ true → IsGap (c ∷ []) rest
  comment : {u rest : List ℕ} → list_all is_in_line u ≡ true → begins is_in_line rest ≡ false → IsGap (35 ∷ u) rest

-- neither a blank nor a comment begins here
abbrev pub NoGap : List ℕ → Type 0
NoGap s = (u rest : List ℕ) → s ≡ u ++ rest → IsGap u rest → ⊥

abbrev pub is_dot : Kind → Bool
is_dot Dot = true
is_dot _ = false

abbrev pub is_int : Kind → Bool
is_int Int = true
is_int _ = false

-- the value of a run of digits
abbrev pub int_value : List ℕ → ℕ
int_value u = fold (λ n c. 10 * n + (c - 48)) 0 u

-- `.` and a digit follow
abbrev pub begins_fraction : List ℕ → Bool
begins_fraction [] = false
begins_fraction (c ∷ v) = c == 46 && begins is_digit v

-- A run of digits is a fault where it is too large, where a letter or `_` follows it at once,
-- and where `.` and a digit follow it at once, unless it follows a `.` at once itself.
abbrev pub is_bad : Kind → Bool → List ℕ → List ℕ → Bool
is_bad k after_dot u rest = is_int k && (nat_lt 9223372036854775807 (int_value u) || begins is_letter rest || (not after_dot && begins_fraction rest))

-- a token before what the rest of the text is read as
abbrev pub before : Token → Result (List Token) LexFault → Result (List Token) LexFault
before t (Ok ts) = Ok (t ∷ ts)
before t (Err fault) = Err fault

-- The text from a place on is read as these tokens, or up to this fault. The flag says that a `.` stands just before the place.
pub data Reads : ℕ → Bool → List ℕ → Result (List Token) LexFault → Type 0 where
  at_end : {at : ℕ} {dot : Bool} → Reads at dot [] (Ok [])
  gap : {at : ℕ} {dot : Bool} {s : List ℕ} {r : Result (List Token) LexFault} (u rest : List ℕ) → s ≡ u ++ rest → IsGap u rest → Reads (at + length u) false rest r → Reads at dot s r
  token : {at : ℕ} {dot : Bool} {s : List ℕ} {r : Result (List Token) LexFault} (k : Kind) (u rest : List ℕ) → s ≡ u ++ rest → IsToken k u rest → is_bad k dot u rest ≡ false →
      Reads (at + length u) (is_dot k) rest r → Reads at dot s (before (record { kind = k; from = at; to = at + length u }) r)
  bad_number : {at : ℕ} {dot : Bool} {s : List ℕ} (k : Kind) (u rest : List ℕ) → s ≡ u ++ rest → IsToken k u rest → is_bad k dot u rest ≡ true → Reads at dot s (Err (Number at))
  bad_text : {at : ℕ} {dot : Bool} {s : List ℕ} (rest : List ℕ) → s ≡ quote ∷ rest → NoToken s → Reads at dot s (Err (Text at))
  bad_char : {at : ℕ} {dot : Bool} {s : List ℕ} (c : ℕ) (rest : List ℕ) → s ≡ c ∷ rest → NoToken s → NoGap s → c ≢ quote → Reads at dot s (Err (Char at))

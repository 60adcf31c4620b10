-- The methods on texts.
use Rattle.std.specs.Prelude.{ℕ, ◌+◌, ◌-◌, List, [], ◌∷◌, ◌++◌, map, length, drop, slice_range, codes, Bool, true, false, ◌&&◌, nat_eq, Option, Some, None, if◌then◌else◌, chars}
use Rattle.std.specs.Char.{to_ascii_uppercase, to_ascii_lowercase, encode_utf8}
use Rattle.std.specs.List.{starts_with, ends_with, flat_map}
use Rattle.std.specs.Str.{trim as trimmed}
use Rattle.memchr.specs.Find.{matches}
use Rattle.bt_value.specs.declared.val.Val.{Val}
use Rattle.bt_value.specs.declared.val.Val.TheVariants as v
use Rattle.bt_value.specs.declared.message.Out.{Out}
use Rattle.bt_value.specs.declared.message.Out.TheVariants.{Value}
use Rattle.bt_kinds.specs.Kinds.{on}
use Rattle.bt_kinds.specs.Targets.{two, string, strings, text, array, bytes_of, is_string}

-- a text that is made of others: a string where all of them are
abbrev pub made : Bool → List ℕ → Val
made true s = v.Str s
made false s = v.Bytes s

-- `uppercase()`: of a string, with the letters `a` to `z` in upper case
abbrev pub uppercase : Val → Out
uppercase x = on (codes "uppercase") (string x) (λ s. Value (v.Str (map to_ascii_uppercase s)))

-- `lowercase()`: of a string, with the letters `A` to `Z` in lower case
abbrev pub lowercase : Val → Out
lowercase x = on (codes "lowercase") (string x) (λ s. Value (v.Str (map to_ascii_lowercase s)))

-- `trim()`: of a string, without the characters at both ends that have Unicode's property White_Space
abbrev pub trim : Val → Out
trim x = on (codes "trim") (string x) (λ s. Value (v.Str (trimmed s)))

-- what stands behind a text at the beginning of another, or all of it where the text isn't there
abbrev pub without_prefix : List ℕ → List ℕ → List ℕ
without_prefix s p = if starts_with nat_eq s p then drop (length p) s else s

-- what stands before a text at the end of another, or all of it where the text isn't there
abbrev pub without_suffix : List ℕ → List ℕ → List ℕ
without_suffix s p = if ends_with nat_eq s p then slice_range s 0 (length s - length p) else s

-- `trim_prefix(t)`: of a string, without the text at its beginning; bytes where the text is bytes
abbrev pub trim_prefix : Val → Val → Out
trim_prefix x a = on (codes "trim_prefix") (two (string x) (text a)) (λ p. Value (made (is_string p.1) (without_prefix p.0 (bytes_of p.1))))

-- `trim_suffix(t)`: of a string, without the text at its end; bytes where the text is bytes
abbrev pub trim_suffix : Val → Val → Out
trim_suffix x a = on (codes "trim_suffix") (two (string x) (text a)) (λ p. Value (made (is_string p.1) (without_suffix p.0 (bytes_of p.1))))

-- `has_prefix(t)`: whether a text begins with another
abbrev pub has_prefix : Val → Val → Out
has_prefix x a = on (codes "has_prefix") (two (text x) (text a)) (λ p. Value (v.Bool (starts_with nat_eq (bytes_of p.0) (bytes_of p.1))))

-- `has_suffix(t)`: whether a text ends with another
abbrev pub has_suffix : Val → Val → Out
has_suffix x a = on (codes "has_suffix") (two (text x) (text a)) (λ p. Value (v.Bool (ends_with nat_eq (bytes_of p.0) (bytes_of p.1))))

-- what stands between places of a separator of n bytes, from a place on
abbrev pub between : List ℕ → ℕ → ℕ → List ℕ → List (List ℕ)
between s n from [] = drop from s ∷ []
between s n from (m ∷ ms) = slice_range s from m ∷ between s n (m + n) ms

-- the pieces of a text, as they are made; its characters for an empty separator
abbrev pub pieces : Bool → List ℕ → List ℕ → List Val
pieces b s [] = map (λ c. made b (encode_utf8 c)) (chars s)
pieces b s (c ∷ cs) = map (made b) (between s (length (c ∷ cs)) 0 (matches s (c ∷ cs) 0))

-- `split(t)`: of a string the list of its pieces; bytes where the separator is bytes
abbrev pub split : Val → Val → Out
split x a = on (codes "split") (two (string x) (text a)) (λ p. Value (v.Arr (pieces (is_string p.1) p.0 (bytes_of p.1))))

-- texts with another between them
abbrev pub joined_by : List ℕ → List (List ℕ) → List ℕ
joined_by t [] = []
joined_by t (s ∷ ss) = s ++ flat_map (λ r. t ++ r) ss

-- `join()` and `join(t)`: the strings of a list, joined by a text, or by nothing; bytes where the text is bytes
abbrev pub join : Val → Option Val → Out
join x None = on (codes "join") (array x) (λ xs. on (codes "join") (strings xs) (λ ss. Value (v.Str (joined_by [] ss))))
join x (Some a) = on (codes "join") (two (array x) (text a)) (λ p. on (codes "join") (strings p.0) (λ ss. Value (made (is_string p.1) (joined_by (bytes_of p.1) ss))))

-- another text in the place of each separator of n bytes, from a place on
abbrev pub replaced_from : List ℕ → ℕ → List ℕ → ℕ → List ℕ → List ℕ
replaced_from s n t from [] = drop from s
replaced_from s n t from (m ∷ ms) = slice_range s from m ++ (t ++ replaced_from s n t (m + n) ms)

-- each occurrence replaced; for an empty text, the other before each character and at the end
abbrev pub replaced : List ℕ → List ℕ → List ℕ → List ℕ
replaced s [] t = flat_map (λ c. t ++ encode_utf8 c) (chars s) ++ t
replaced s (c ∷ cs) t = replaced_from s (length (c ∷ cs)) t 0 (matches s (c ∷ cs) 0)

-- `replace_all(t, u)`: of a string, with the second text in the place of each occurrence of the first; bytes where one of the two is
abbrev pub replace_all : Val → Val → Val → Out
replace_all x a b = on (codes "replace_all") (two (string x) (two (text a) (text b)))
    (λ p. Value (made (is_string p.1.0 && is_string p.1.1) (replaced p.0 (bytes_of p.1.0) (bytes_of p.1.1))))

-- From a pattern that was built to what its text means.
use Rattle.std.proofs.Common.{◌≡◌, ◌≢◌, IfSome, ◌≤◌, ℕ, true, List, length, Option, None, Some, IsSomeAnd, is_some, refl, sym, inl, inr, option_and_then, if◌then◌else◌, nat_le, ◌<◌, chars, ◌⊎◌}
use Rattle.std.proofs.lemmas.Bool.{le-leb, lt-leb}
use Rattle.regex.specs.Patterns.{Re, SameCaptures, Reads, Refuses, default_config}
use Rattle.regex_syntax.specs.Grammar.{Names, read, group_count}
use Rattle.regex_syntax.specs.Brackets.{Nested}
use Rattle.regex.specs.Strings.{regex_pattern, regex_names}
use Rattle.regex.specs.declared.string.regex.Regex.{Regex}
use Rattle.regex_syntax.specs.declared.error.ErrorKind.{ErrorKind}
use Rattle.regex_syntax.specs.declared.error.ErrorKind.TheVariants.{OutOfMemory}
use Rattle.std.proofs.lemmas.Option.{none-some}
use Rattle.bt_patterns.specs.Patterns.{pattern_of_text, IsBuiltFrom}

read_so : (o : Option (Nested Re × Names)) (a : Re) (names : Names) →
    IsSomeAnd {T = Nested Re × Names} o (λ (re, found). (re.depth ≤ 250) × SameCaptures a re.value × (names ≡ found) × (group_count a ≤ length names)) →
    IsSomeAnd {T = Re × Names} (option_and_then (λ p. if nat_le p.0.depth 250 then Some (p.0.value, p.1) else None) o) (λ p. SameCaptures a p.0 × (names ≡ p.1))
read_so None a names h = absurd h
read_so (Some x) a names h =
    let test : nat_le x.0.depth 250 ≡ true = le-leb x.0.depth 250 h.0 in
    rw test (h.1, h.2)

-- a caller sees the same of the pattern and of its text's meaning, and the groups have the same names
pub meant : (r : Regex) (source : List ℕ) → IsBuiltFrom source r →
    IsSomeAnd {T = Re × Names} (pattern_of_text source) (λ p. SameCaptures (regex_pattern r) p.0 × (regex_names r ≡ p.1))
unfolding Reads pattern_of_text
meant r source b = read_so (read default_config (chars source)) _ _ (rw (b.is_source, b.is_config) at b.is_read)

read_is_some : (o : Option (Re × Names)) (P : Re × Names → Type 0) → IsSomeAnd o P → is_some o ≡ true
read_is_some None P h = absurd h
read_is_some (Some x) P h = refl

pub reads : (r : Regex) (source : List ℕ) → IsBuiltFrom source r → is_some (pattern_of_text source) ≡ true
reads r source b = read_is_some _ _ (meant r source b)

-- a text that the grammar refuses has no meaning
unread : (o : Option (Nested Re × Names)) → (o ≡ None) ⊎ IfSome {T = Nested Re × Names} o (λ (re, _). 250 < re.depth) →
    option_and_then {U = Re × Names} (λ p. if nat_le p.0.depth 250 then Some (p.0.value, p.1) else None) o ≡ None
unread None h = refl
unread (Some x) (inl e) = absurd (none-some _ (sym e))
unread (Some x) (inr deep) = rw (lt-leb x.0.depth 250 deep) refl

pub refused : (source : List ℕ) (kind : ErrorKind) → Refuses default_config source kind → kind ≢ OutOfMemory → pattern_of_text source ≡ None
unfolding Refuses pattern_of_text
refused source kind (inl e) not_memory = absurd (not_memory e)
refused source kind (inr (inl e)) not_memory = unread (read default_config (chars source)) (inl e)
refused source kind (inr (inr deep)) not_memory = unread (read default_config (chars source)) (inr deep.1)

-- What a pattern's text means, by the grammar of `regex`.
use Rattle.std.specs.Prelude.{◌≡◌, ℕ, List, Option, Some, None, chars, if◌then◌else◌, nat_le, option_and_then}
use Rattle.regex.specs.Patterns.{Re, default_config}
use Rattle.regex_syntax.specs.Grammar.{Names, read}
use Rattle.regex.specs.Strings.{regex_source, regex_config, IsReadFromSource}
use Rattle.regex.specs.declared.string.regex.Regex.{Regex}

-- the pattern and its groups' names, where the grammar reads the text and it nests no deeper than 250
unfoldable pub pattern_of_text : List ℕ → Option (Re × Names)
pattern_of_text source = option_and_then (λ p. if nat_le p.0.depth 250 then Some (p.0.value, p.1) else None) (read default_config (chars source))

-- `regex` read this value from the text, with its default options
pub record IsBuiltFrom (source : List ℕ) (r : Regex) : Type 0 where
  pub is_source : regex_source r ≡ source
  pub is_config : regex_config r ≡ default_config
  pub is_read : IsReadFromSource r

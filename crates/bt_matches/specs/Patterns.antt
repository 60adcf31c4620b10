-- The methods with patterns: what a pattern's text means, by the grammar of `regex`.
use Rattle.std.specs.Prelude.{ℕ, suc, Bool, List, [], ◌∷◌, codes, decimal, Option, Some, None, map, is_some, option_map, slice_range}
use Rattle.regex.specs.Patterns.{Match, find_str, find_all_str, span}
use Rattle.regex.specs.Replace.{replaced_by, group_bytes}
use Rattle.regex.specs.Templates.{written_after}
use Rattle.bt_patterns.specs.Patterns.{pattern_of_text}
use Rattle.bt_value.specs.declared.val.Val.{Val}
use Rattle.bt_value.specs.declared.val.Val.TheVariants as v
use Rattle.bt_value.specs.declared.message.Out.{Out}
use Rattle.bt_value.specs.declared.message.Out.TheVariants.{Value}
use Rattle.bt_matches.specs.declared.patterns.Built.{Built}
use Rattle.bt_matches.specs.declared.patterns.Built.TheVariants as b
use Rattle.bt_kinds.specs.Kinds.{on, failure}
use Rattle.bt_kinds.specs.Moving.{put}
use Rattle.bt_kinds.specs.Targets.{two, string}

-- the text that a pattern was built from
abbrev pub text_of : Built → List ℕ
text_of (b.Known p) = p.now
text_of (b.New p) = p

-- whether the text has a match of the pattern; none of these has a value where the grammar doesn't read the pattern's text
abbrev pub has_match : List ℕ → List ℕ → Option Bool
has_match source text = option_map (λ p. is_some (find_str p.0 text 0)) (pattern_of_text source)

-- the texts of matches
abbrev pub matched_texts : List Match → List ℕ → List (List ℕ)
matched_texts ms text = map (λ s. slice_range text s.0 s.1) (map span ms)

-- the texts that match, from the left
abbrev pub all_matches : List ℕ → List ℕ → Option (List (List ℕ))
all_matches source text = option_map (λ p. matched_texts (find_all_str p.0 text) text) (pattern_of_text source)

-- the text with what the template writes in the place of each match
abbrev pub rewritten : List ℕ → List ℕ → List ℕ → Option (List ℕ)
rewritten source text template =
    option_map (λ p. replaced_by (λ m. written_after p.1 (group_bytes text m) template 0) text 0 (find_all_str p.0 text)) (pattern_of_text source)

-- what a pattern's meaning gives, or `bad pattern` for a text that the grammar doesn't read: none stands in a mapping without faults
abbrev pub by_pattern : {A : Type 0} → List ℕ → (A → Val) → Option A → Out
by_pattern name f (Some a) = Value (f a)
by_pattern name f None = failure name (codes "bad pattern")

-- `re_match(pattern)`: whether the string has a match
abbrev pub re_match : Val → Val → Out
re_match x p = on (codes "re_match") (two (string x) (string p)) (λ q. by_pattern (codes "re_match") v.Bool (has_match q.1 q.0))

-- `re_find_all(pattern)`: the list of the texts that match, from the left, not overlapping
abbrev pub re_find_all : Val → Val → Out
re_find_all x p = on (codes "re_find_all") (two (string x) (string p)) (λ q. by_pattern (codes "re_find_all") (λ ss. v.Arr (map v.Str ss)) (all_matches q.1 q.0))

-- `re_replace_all(pattern, template)`: the string with each match replaced by what the template, a string, writes of it
abbrev pub re_replace_all : Val → Val → Val → Out
re_replace_all x p t = on (codes "re_replace_all") (two (string x) (two (string p) (string t)))
    (λ q. by_pattern (codes "re_replace_all") v.Str (rewritten q.1.0 q.0 q.1.1))

-- a group's name, or its number
abbrev pub group_key : ℕ → Option (List ℕ) → List ℕ
group_key i None = decimal i
group_key i (Some n) = n

-- members with the groups from a number on, each with what it matched: the empty text for a group without a match
abbrev pub groups_from : ℕ → List (Option (List ℕ)) → (ℕ → List ℕ) → List (List ℕ × Val) → List (List ℕ × Val)
groups_from i [] f got = got
groups_from i (n ∷ ns) f got = groups_from (suc i) ns f (put (group_key i n) (v.Str (f i)) got)

-- the groups of a match, and nothing where there is none
abbrev pub groups_found : List (Option (List ℕ)) → List ℕ → Option Match → List (List ℕ × Val)
groups_found names text None = []
groups_found names text (Some m) = groups_from 0 names (group_bytes text m) []

-- the groups of the first match, by the pattern that the grammar reads from the text
abbrev pub found_groups : List ℕ → List ℕ → Option (List (List ℕ × Val))
found_groups source text = option_map (λ p. groups_found p.1 text (find_str p.0 text 0)) (pattern_of_text source)

-- `re_find_object(pattern)`: an object of the groups of the first match, each under its name, or its number as text where it has none; empty without a match
abbrev pub re_find_object : Val → Val → Out
re_find_object x p = on (codes "re_find_object") (two (string x) (string p)) (λ q. by_pattern (codes "re_find_object") v.Obj (found_groups q.1 q.0))

-- From a pattern that was built to what its text means.
use Rattle.std.proofs.Common.{[], ◌∷◌, ◌++◌, ◌∙◌, ◌*◌, ◌+◌, ◌==◌, map, slice_range, ◌≡◌, ℕ, true, List, Option, None, Some, IsSomeAnd, is_some, option_map, refl, sym, ap, if◌then◌else◌, get_or, ◌<◌}
use Rattle.regex.specs.Patterns.{Re, SameCaptures, find_str, find_all_str, span}
use Rattle.regex_syntax.specs.Grammar.{Names}
use Rattle.bt_patterns.specs.Patterns.{pattern_of_text, IsBuiltFrom}
use Rattle.bt_patterns.proofs.Meanings.{meant}
use Rattle.regex.specs.Strings.{regex_pattern, regex_names}
use Rattle.regex.specs.declared.string.regex.Regex.{Regex}
use Rattle.regex.proofs.ForCallers.{is_match_alike, spans_alike}
use Rattle.regex.proofs.ForCallers.{find_all_alike, spans}
use Rattle.regex.specs.Patterns.{Match}
use Rattle.regex.specs.Replace.{replaced_by, group_bytes, bytes_of}
use Rattle.regex.specs.Templates.{written_after}
use Rattle.regex.specs.Writes.{both, group_of}
use Rattle.bt_matches.specs.Patterns.{has_match, all_matches, rewritten, found_groups, groups_found, groups_from, group_key}
use Rattle.regex.proofs.ForCallers.{found_alike, span_alike}
use Rattle.regex.specs.Search.{group_span}
use Rattle.regex.specs.Strings.{IsCapturesOf, captures_haystack, captures_span, match_span}
use Rattle.regex.specs.declared.string.captures.Captures.{Captures}
use Rattle.regex_hir.specs.Find.{slot_of}
use Rattle.std.proofs.lemmas.Bool.{ne_eqb}
use Rattle.std.proofs.Common.{zero, suc, arith, subst, false}
use Rattle.bt_kinds.specs.Moving.{put}
use Rattle.bt_value.specs.declared.val.Val.{Val, Str}

-- a search by the pattern tells whether its text's meaning has a match
tells : (o : Option (Re × Names)) (a : Re) (names : Names) (text : List ℕ) → ((k : ℕ) → get_or text k 0 < 256) →
    IsSomeAnd {T = Re × Names} o (λ p. SameCaptures a p.0 × (names ≡ p.1)) →
    option_map (λ p. is_some (find_str p.0 text 0)) o ≡ Some (is_some (find_str a text 0))
tells None a names text bytes h = absurd h
tells (Some p) a names text bytes h = ap Some (sym (is_match_alike h.0 text bytes true 0))

pub match_told : (r : Regex) (source text : List ℕ) → IsBuiltFrom source r → ((k : ℕ) → get_or text k 0 < 256) →
    has_match source text ≡ Some (is_some (find_str (regex_pattern r) text 0))
match_told r source text b bytes = tells (pattern_of_text source) _ _ text bytes (meant r source b)

all_tell : (o : Option (Re × Names)) (a : Re) (names : Names) (text : List ℕ) → ((k : ℕ) → get_or text k 0 < 256) →
    IsSomeAnd {T = Re × Names} o (λ p. SameCaptures a p.0 × (names ≡ p.1)) →
    option_map (λ p. map (λ s. slice_range text s.0 s.1) (map span (find_all_str p.0 text))) o
    ≡ Some (map (λ s. slice_range text s.0 s.1) (map span (find_all_str a text)))
all_tell None a names text bytes h = absurd h
all_tell (Some p) a names text bytes h =
    ap (λ ss. Some (map (λ s. slice_range text s.0 s.1) ss)) (sym (spans_alike h.0 text bytes true))

pub all_told : (r : Regex) (source text : List ℕ) → IsBuiltFrom source r → ((k : ℕ) → get_or text k 0 < 256) →
    all_matches source text ≡ Some (map (λ s. slice_range text s.0 s.1) (map span (find_all_str (regex_pattern r) text)))
all_told r source text b bytes = all_tell (pattern_of_text source) _ _ text bytes (meant r source b)

-- what a caller reads off a match
abbrev Seen : Type 0
Seen = ℕ × ℕ × (ℕ → Option ℕ)

abbrev groups : List ℕ → Seen → ℕ → List ℕ
groups hay s n = bytes_of hay (if n == 0 then Some (s.0, s.1) else both (s.2 (2 * n)) (s.2 (2 * n + 1)))

abbrev writes : List (Option (List ℕ)) → List ℕ → List ℕ → Seen → List ℕ
writes names hay template s = written_after names (groups hay s) template 0

along : (names : List (Option (List ℕ))) (hay template : List ℕ) (ms ns : List Match) → map spans ms ≡ map spans ns → (at : ℕ)
    → replaced_by (λ m. written_after names (group_bytes hay m) template 0) hay at ms ≡ replaced_by (λ m. written_after names (group_bytes hay m) template 0) hay at ns
unfolding replaced_by
along names hay template [] [] e at = refl
along names hay template [] (n ∷ ns) e at = cc
along names hay template (m ∷ ms) [] e at = cc
along names hay template (m ∷ ms) (n ∷ ns) e at =
    let head : spans m ≡ spans n = cc in
    let tail : map spans ms ≡ map spans ns = cc in
    ap (λ (s : Seen). (slice_range hay at s.0 ++ writes names hay template s) ++ replaced_by (λ m. written_after names (group_bytes hay m) template 0) hay s.1 ms) head
    ∙ ap (λ rest. (slice_range hay at n.start ++ writes names hay template (spans n)) ++ rest) (along names hay template ms ns tail n.trace.end)

rewrites : (o : Option (Re × Names)) (a : Re) (names : Names) (text template : List ℕ) → ((k : ℕ) → get_or text k 0 < 256) →
    IsSomeAnd {T = Re × Names} o (λ p. SameCaptures a p.0 × (names ≡ p.1)) →
    option_map (λ p. replaced_by (λ m. written_after p.1 (group_bytes text m) template 0) text 0 (find_all_str p.0 text)) o
    ≡ Some (replaced_by (λ m. written_after names (group_bytes text m) template 0) text 0 (find_all_str a text))
rewrites None a names text template bytes h = absurd h
rewrites (Some p) a names text template bytes h =
    ap (λ ns. Some (replaced_by (λ m. written_after ns (group_bytes text m) template 0) text 0 (find_all_str p.0 text))) (sym h.1)
    ∙ ap Some (sym (along names text template _ _ (find_all_alike h.0 text bytes true) 0))

pub rewritten_told : (r : Regex) (source text template : List ℕ) → IsBuiltFrom source r → ((k : ℕ) → get_or text k 0 < 256) →
    rewritten source text template ≡ Some (replaced_by (λ m. written_after (regex_names r) (group_bytes text m) template 0) text 0 (find_all_str (regex_pattern r) text))
rewritten_told r source text template b bytes = rewrites (pattern_of_text source) _ _ text template bytes (meant r source b)

groups_alike : (names : List (Option (List ℕ))) (text : List ℕ) (x y : Option Match) → is_some x ≡ is_some y → option_map span x ≡ option_map span y
    → ((m : Match) → x ≡ Some m → (n : Match) × (y ≡ Some n) × (slot_of n ≡ slot_of m)) → groups_found names text x ≡ groups_found names text y
groups_alike names text None None e s f = refl
groups_alike names text None (Some n) e s f = cc
groups_alike names text (Some m) None e s f = cc
groups_alike names text (Some m) (Some n) e s f =
    let g : (k : Match) × (Some n ≡ Some k) × (slot_of k ≡ slot_of m) = f m refl in
    let whole : span m ≡ span n = cc in
    let slots : slot_of m ≡ slot_of n = cc (g.1, g.2) in
    ap (λ (w : ℕ × ℕ). groups_from 0 names (groups text (w.0, w.1, slot_of m)) []) whole
    ∙ ap (λ k. groups_from 0 names (groups text ((span n).0, (span n).1, k)) []) slots

finds : (o : Option (Re × Names)) (a : Re) (names : Names) (text : List ℕ) → ((k : ℕ) → get_or text k 0 < 256) →
    IsSomeAnd {T = Re × Names} o (λ p. SameCaptures a p.0 × (names ≡ p.1)) →
    option_map (λ p. groups_found p.1 text (find_str p.0 text 0)) o ≡ Some (groups_found names text (find_str a text 0))
finds None a names text bytes h = absurd h
finds (Some p) a names text bytes h =
    ap (λ ns. Some (groups_found ns text (find_str p.0 text 0))) (sym h.1)
    ∙ ap Some (sym (groups_alike names text _ _ (is_match_alike h.0 text bytes true 0) (span_alike h.0 text bytes true 0) (found_alike h.0 text bytes true 0)))

pub groups_told : (r : Regex) (source text : List ℕ) → IsBuiltFrom source r → ((k : ℕ) → get_or text k 0 < 256) →
    found_groups source text ≡ Some (groups_found (regex_names r) text (find_str (regex_pattern r) text 0))
groups_told r source text b bytes = finds (pattern_of_text source) _ _ text bytes (meant r source b)

-- groups by two functions that agree
pub same_groups : (i : ℕ) (names : List (Option (List ℕ))) (f g : ℕ → List ℕ) (got : List (List ℕ × Val)) → ((n : ℕ) → f n ≡ g n) → groups_from i names f got ≡ groups_from i names g got
same_groups i [] f g got e = refl
same_groups i (n ∷ ns) f g got e = rw (e i) (same_groups (suc i) ns f g (put (group_key i n) (Str (g i)) got) e)

first_span : (c : Captures) → captures_span c 0 ≡ Some (match_span c.whole)
unfolding group_span
first_span c = refl

-- what a capture spans is what its group matched
pub span_is : (text : List ℕ) (m : Match) (c : Captures) → IsCapturesOf text m c → (n : ℕ) → bytes_of (captures_haystack c) (captures_span c n) ≡ group_bytes text m n
span_is text m c h zero =
    ap (λ x. bytes_of x (captures_span c 0)) h.0 ∙ ap (bytes_of text) (first_span c ∙ ap Some h.1.whole_is)
span_is text m c h (suc n) =
    let more : (suc n == 0) ≡ false = ne_eqb (suc n) 0 (omega arith) in
    ap (λ x. bytes_of x (captures_span c (suc n))) h.0 ∙ ap (bytes_of text) (h.2 (suc n) (omega arith))
    ∙ sym (ap (λ b. bytes_of text (if b then Some (span m) else group_of m (suc n))) more)

pub groups_some : (r : Regex) (source : List ℕ) (text : List ℕ) (a : Re) (m : Match) (c : Captures) (names : List (Option (List ℕ))) (ms : List (List ℕ × Val)) →
    IsBuiltFrom source r → ((k : ℕ) → get_or text k 0 < 256) → a ≡ regex_pattern r → find_str a text 0 ≡ Some m → IsCapturesOf text m c → names ≡ regex_names r →
    ms ≡ groups_from 0 names (λ n. bytes_of (captures_haystack c) (captures_span c n)) [] → found_groups source text ≡ Some ms
groups_some r source text a m c names ms b bytes same found caps named is =
    let here : find_str (regex_pattern r) text 0 ≡ Some m = subst (λ p. find_str p text 0 ≡ Some m) same found in
    groups_told r source text b bytes ∙ ap (λ o. Some (groups_found (regex_names r) text o)) here
    ∙ ap (λ ns. Some (groups_from 0 ns (group_bytes text m) [])) (sym named)
    ∙ ap Some (sym (is ∙ same_groups 0 names _ _ [] (span_is text m c caps)))

pub groups_none : (r : Regex) (source : List ℕ) (text : List ℕ) (a : Re) (ms : List (List ℕ × Val)) → IsBuiltFrom source r → ((k : ℕ) → get_or text k 0 < 256) →
    a ≡ regex_pattern r → find_str a text 0 ≡ None → ms ≡ [] → found_groups source text ≡ Some ms
groups_none r source text a ms b bytes same found is =
    let here : find_str (regex_pattern r) text 0 ≡ None = subst (λ p. find_str p text 0 ≡ None) same found in
    groups_told r source text b bytes ∙ ap (λ o. Some (groups_found (regex_names r) text o)) here ∙ ap Some (sym is)

pub rewritten_from : (r : Regex) (source : List ℕ) (text template : List ℕ) (a : Re) (names : List (Option (List ℕ))) (out : List ℕ) →
    IsBuiltFrom source r → ((k : ℕ) → get_or text k 0 < 256) → a ≡ regex_pattern r → names ≡ regex_names r →
    out ≡ replaced_by (λ m. written_after names (group_bytes text m) template 0) text 0 (find_all_str a text) → rewritten source text template ≡ Some out
rewritten_from r source text template a names out b bytes same named is =
    rewritten_told r source text template b bytes
    ∙ ap Some (sym (is ∙ ap (λ ns. replaced_by (λ m. written_after ns (group_bytes text m) template 0) text 0 (find_all_str a text)) named
    ∙ ap (λ p. replaced_by (λ m. written_after (regex_names r) (group_bytes text m) template 0) text 0 (find_all_str p text)) same))

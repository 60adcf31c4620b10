-- Texts that are read: of them only a pattern may be refused.
use Rattle.std.proofs.Common.{◌≡◌, ℕ, List, [], ◌∷◌, ◌++◌, Bool, true, false, true≢false, Some, None, inl, inr, map, refl, sym, subst}
use Rattle.std.specs.Prelude.{slice_range, if◌then◌else◌}
use Rattle.std.specs.List.{Contains, flat_map}
use Rattle.std.proofs.lemmas.List.Elements.{Contains-append_left, Contains-append_right, Contains-push}
use Rattle.bt_lexer.proofs.OneReading.{never_both, one_list}
use Rattle.bt_lexer.specs.declared.token.LexFault.TheVariants as lexer
use Rattle.bt_lexer.specs.declared.token.Token.{Token}
use Rattle.bt_lints.specs.declared.lint.Use.{Use}
use Rattle.bt_lints.specs.declared.lint.Use.TheVariants as usage
use Rattle.bt_mapping_text.specs.Faults.{HasFaultAt, IsReadAs}
use Rattle.bt_mapping_text.specs.declared.fault.FaultKind.{FaultKind}
use Rattle.bt_mapping_text.specs.declared.fault.FaultKind.TheVariants as kind
use Rattle.bt_pieces.proofs.CutLemmas.{one_cut_from}
use Rattle.bt_pieces.specs.Pieces.{IsCut}
use Rattle.bt_pieces.specs.declared.cut.Span.{Span}
use Rattle.bt_schema.specs.declared.forms.Language.{Language}
use Rattle.bt_schema.specs.declared.forms.Language.TheVariants as language
use Rattle.bt_schema.specs.declared.lints.Lint.{Lint}
use Rattle.bt_schema.specs.declared.lints.LintKind.{LintKind}
use Rattle.bt_schema.specs.declared.lints.LintKind.TheVariants as lints
use Rattle.bt_syntax.specs.Brackets.{deep_at}
use Rattle.bt_syntax.specs.Grammar.{ReadsCheck, ReadsMapping}
use Rattle.bt_syntax.specs.Lexemes.{Lexemes, lexemes}
use Rattle.bt_tree.specs.declared.tree.Mapping.{Mapping}
use Rattle.bt_text_lints.specs.Verdicts as verdicts
use Rattle.bt_text_lints.specs.Verdicts.{AreJudged, IsJudged, IsVerdict, joined, kinds_of, queries, query_of}
use Rattle.bt_text_lints.specs.declared.verdict.Verdict.{Verdict}
use Rattle.bt_making.specs.Made.{FirstUnready, HasBadPattern, IsUnready}
use Rattle.bt_making.specs.Sources.{IsFirstLint, IsUnmade, Source}
use Rattle.bt_compile_laws.specs.Patterns.{IsOfPattern, IsPatternLint}

abbrev pub IsQuery : List ℕ → Type 0
IsQuery text = (m : Mapping) × IsReadAs ReadsCheck text m

-- each query at these spans is read
abbrev pub AllQueries : List ℕ → List Span → Type 0
AllQueries text [] = Unit {0}
AllQueries text (x ∷ xs) = (x.query ≡ true → IsQuery (slice_range text x.from x.to)) × AllQueries text xs

-- a text of a language is read
abbrev pub IsRead : Language → List ℕ → Type 0
IsRead language.Mapping text = (m : Mapping) × IsReadAs ReadsMapping text m
IsRead language.Check text = IsQuery text
IsRead language.Interpolated text = (spans : List Span) × IsCut text spans × AllQueries text spans

abbrev pub AllRead : List Source → Type 0
AllRead [] = Unit {0}
AllRead (s ∷ ss) = IsRead s.language s.text × AllRead ss

pub all_along : (a b : List Source) → AllRead a → AllRead b → AllRead (a ++ b)
all_along [] b h k = k
all_along (s ∷ a) b h k = (h.0, all_along a b h.1 k)

-- ---- a text that is read has no fault

not_at : (R : Mapping → Lexemes → Type 0) (text : List ℕ) (m : Mapping) (k : FaultKind) (at : ℕ) → IsReadAs R text m → HasFaultAt R text k at → ⊥
not_at R text m kind.Character at read h = never_both text read.0 (lexer.Char at) read.1 h
not_at R text m kind.Text at read h = never_both text read.0 (lexer.Text at) read.1 h
not_at R text m kind.Number at read h = never_both text read.0 (lexer.Number at) read.1 h
not_at R text m kind.Syntax at read h =
    let same : read.0 ≡ h.0 = one_list text read.0 h.0 read.1 h.1 in
    h.2.2.none m (subst (λ (ts : List Token). R m (lexemes text ts)) same read.3)
not_at R text m kind.TooDeep at read h =
    let same : read.0 ≡ h.0 = one_list text read.0 h.0 read.1 h.1 in
    let shallow : deep_at 0 (lexemes text h.0) ≡ None = subst (λ (ts : List Token). deep_at 0 (lexemes text ts) ≡ None) same read.2 in
    let deep : deep_at 0 (lexemes text h.0) ≡ Some at = h.2 in
    absurd (cc)

pattern_of : (R : Mapping → Lexemes → Type 0) (text words : List ℕ) (m : Mapping) → IsReadAs R text m → IsUnready R text words → HasBadPattern R text words
pattern_of R text words m read (inl h) = absurd (not_at R text m h.0.kind h.0.at read h.1.0)
pattern_of R text words m read (inr h) = h

first_of_all : {X : Type 0} (x : X) (xs : List X) → Contains (x ∷ xs) x
first_of_all x xs = Contains-append_left (x ∷ []) xs x (Contains-push [] x)

further_on : {X : Type 0} (x y : X) (xs : List X) → Contains xs y → Contains (x ∷ xs) y
further_on x y xs h = Contains-append_right (x ∷ []) xs y h

abbrev BadQuery : List ℕ → List Span → List ℕ → Type 0
BadQuery text spans words =
    (span : Span) × Contains spans span × (span.query ≡ true) × HasBadPattern ReadsCheck (slice_range text span.from span.to) words

bad_query : (text words : List ℕ) (spans : List Span) → AllQueries text spans → FirstUnready text spans words → BadQuery text spans words
bad_query text words [] read h = absurd h
bad_query text words (x ∷ xs) read (inl u) =
    let q : IsQuery (slice_range text x.from x.to) = read.0 u.is_query in
    (x, first_of_all x xs, u.is_query, pattern_of ReadsCheck (slice_range text x.from x.to) words q.0 q.1 u.is_unready)
bad_query text words (x ∷ xs) read (inr k) =
    let rest : BadQuery text xs words = bad_query text words xs read.1 k.2 in
    (rest.0, further_on x rest.0 xs rest.1, rest.2, rest.3)

bad_text : (text words : List ℕ) → IsRead language.Interpolated text → IsUnmade language.Interpolated text words → IsOfPattern language.Interpolated text words
bad_text text words read h =
    let same : read.0 ≡ h.0 = one_cut_from text 0 read.0 h.0 read.1 h.1 in
    let bad : BadQuery text h.0 words = bad_query text words h.0 (subst (AllQueries text) same read.2) h.2 in
    (h.0, bad.0, h.1, bad.1, bad.2, bad.3)

of_pattern : (how : Language) (text words : List ℕ) → IsRead how text → IsUnmade how text words → IsOfPattern how text words
of_pattern language.Mapping text words read h = pattern_of ReadsMapping text words read.0 read.1 h
of_pattern language.Check text words read h = pattern_of ReadsCheck text words read.0 read.1 h
of_pattern language.Interpolated text words read h = bad_text text words read h

-- of texts that are read, the lint of the first that isn't made ready is one of a pattern
pub pattern_lint : (ss : List Source) (l : Lint) → AllRead ss → IsFirstLint ss l → IsPatternLint ss l
pattern_lint [] l read h = absurd h
pattern_lint (s ∷ ss) l read (inl h) = (s, h.0, first_of_all s ss, of_pattern s.language s.text h.0 read.0 h.1, h.2)
pattern_lint (s ∷ ss) l read (inr k) =
    let rest : IsPatternLint ss l = pattern_lint ss l read.1 k.2 in
    (rest.0, rest.1, further_on s rest.0 ss rest.2, rest.3, rest.4)

-- ---- a text of which nothing is said to be wrong is read

none_said : (x : LintKind) (xs : List LintKind) → x ∷ xs ≡ [] → ⊥
none_said x xs h = cc

judged_read : (R : Mapping → Lexemes → Type 0) (how : Use) (text : List ℕ) (v : Verdict) → IsJudged R how text v → kinds_of v ≡ [] → (m : Mapping) × IsReadAs R text m
judged_read R how text v (inl h) e = absurd (none_said _ _ (subst (λ (w : Verdict). kinds_of w ≡ []) h.2 e))
judged_read R how text v (inr h) e = (h.0, h.2)

parts : (a b c d : List (List ℕ)) → map lints.Fault (a ++ b) ++ map lints.MappingLint (c ++ d) ≡ [] →
    (map lints.Fault a ++ map lints.MappingLint c ≡ []) × (map lints.Fault b ++ map lints.MappingLint d ≡ [])
parts [] [] [] [] h = (refl, refl)
parts [] [] [] (x ∷ d) h = absurd (cc)
parts [] [] (x ∷ c) d h = absurd (cc)
parts [] (x ∷ b) c d h = absurd (cc)
parts (x ∷ a) b c d h = absurd (cc)

abbrev AllAsQueries : List (List ℕ) → Type 0
AllAsQueries [] = Unit {0}
AllAsQueries (q ∷ qs) = IsQuery q × AllAsQueries qs

one_behind : (qs : List (List ℕ)) (q : List ℕ) → AllAsQueries qs → IsQuery q → AllAsQueries (qs ++ q ∷ [])
one_behind [] q h k = (k, tt)
one_behind (p ∷ qs) q h k = (h.0, one_behind qs q h.1 k)

all_judged : (qs : List (List ℕ)) (v : Verdict) → AreJudged qs v → kinds_of v ≡ [] → AllAsQueries qs
all_judged _ _ verdicts.none h = tt
all_judged _ _ (verdicts.one_more {qs} {q} {v} {w} rest one) h =
    let both = parts v.faults w.faults v.lints w.lints h in
    one_behind qs q (all_judged qs v rest both.0) (judged_read ReadsCheck usage.Check q w one both.1)

at_span : (b : Bool) (q : List ℕ) (rest : List (List ℕ)) → AllAsQueries ((if b then q ∷ [] else []) ++ rest) → (b ≡ true → IsQuery q) × AllAsQueries rest
at_span true q rest h = (λ e. h.0, h.1)
at_span false q rest h = (λ e. absurd (true≢false (sym e)), h)

at_spans : (text : List ℕ) (spans : List Span) → AllAsQueries (queries text spans) → AllQueries text spans
at_spans text [] h = tt
at_spans text (x ∷ xs) h =
    let both = at_span x.query (slice_range text x.from x.to) (flat_map (query_of text) xs) h in
    (both.0, at_spans text xs both.1)

pub verdict_read : (how : Language) (text : List ℕ) (v : Verdict) → IsVerdict how text v → kinds_of v ≡ [] → IsRead how text
verdict_read language.Mapping text v h e = judged_read ReadsMapping usage.Mapping text v h e
verdict_read language.Check text v h e = judged_read ReadsCheck usage.Check text v h e
verdict_read language.Interpolated text v h e = (h.0, h.1, at_spans text h.0 (all_judged (queries text h.0) v h.2 e))

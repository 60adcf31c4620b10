-- What the language of mappings says is wrong with a text.
use Rattle.std.specs.Prelude.{◌≡◌, ◌⊎◌, ◌↔◌, ℕ, List, [], ◌∷◌, ◌++◌, map, slice_range, if◌then◌else◌}
use Rattle.std.specs.List.{Contains, flat_map}
use Rattle.std.specs.List.Sorted.{IsStrictlySortedBy}
use Rattle.bt_lints.specs.Lints.{IsLint}
use Rattle.bt_lints.specs.Order.{by_place}
use Rattle.bt_lints.specs.Told.{kind_text}
use Rattle.bt_lints.specs.declared.lint.MapLint.{MapLint}
use Rattle.bt_lints.specs.declared.lint.Use.{Use}
use Rattle.bt_lints.specs.declared.lint.Use.TheVariants as usage
use Rattle.bt_mapping_text.specs.Faults.{IsFault, IsReadAs, printed, words_of}
use Rattle.bt_mapping_text.specs.declared.fault.TextFault.{TextFault}
use Rattle.bt_pieces.specs.Pieces.{IsCut}
use Rattle.bt_pieces.specs.declared.cut.Span.{Span}
use Rattle.bt_schema.specs.declared.forms.Language.{Language}
use Rattle.bt_schema.specs.declared.forms.Language.TheVariants as language
use Rattle.bt_schema.specs.declared.lints.LintKind.{LintKind}
use Rattle.bt_schema.specs.declared.lints.LintKind.TheVariants as lint
use Rattle.bt_syntax.specs.Grammar.{ReadsCheck, ReadsMapping}
use Rattle.bt_syntax.specs.Lexemes.{Lexemes}
use Rattle.bt_tree.specs.declared.tree.Mapping.{Mapping}
use Rattle.bt_text_lints.specs.declared.verdict.Verdict.{Verdict}

-- these are the lints of the mapping, each once, in order of place and then of their kinds
pub record HasLints (m : Mapping) (how : Use) (ls : List MapLint) : Type 0 where
  pub all : (x : MapLint) → Contains ls x ↔ IsLint m how x
  pub in_order : IsStrictlySortedBy by_place ls

-- a lint in words, with its line and column in the text
abbrev pub printed_lint : List ℕ → MapLint → List ℕ
printed_lint text l = printed (kind_text l.kind) text l.at

-- A text that isn't read has its one fault, and no lint.
abbrev pub IsFaulty : (Mapping → Lexemes → Type 0) → List ℕ → Verdict → Type 0
IsFaulty R text v = (fault : TextFault) × IsFault R text fault × (v ≡ record { faults = printed (words_of fault.kind) text fault.at ∷ []; lints = [] })

-- A text that is read has the lints of the mapping that it is, in their order, and no fault.
abbrev pub IsLinted : (Mapping → Lexemes → Type 0) → Use → List ℕ → Verdict → Type 0
IsLinted R how text v =
    (m : Mapping) × (ls : List MapLint) × IsReadAs R text m × HasLints m how ls × (v ≡ record { faults = []; lints = map (printed_lint text) ls })

-- what is wrong with a text that is one mapping, or one query
abbrev pub IsJudged : (Mapping → Lexemes → Type 0) → Use → List ℕ → Verdict → Type 0
IsJudged R how text v = IsFaulty R text v ⊎ IsLinted R how text v

-- the query of a span, if it is one
abbrev pub query_of : List ℕ → Span → List (List ℕ)
query_of text span = if span.query then slice_range text span.from span.to ∷ [] else []

-- the queries among these spans
abbrev pub queries : List ℕ → List Span → List (List ℕ)
queries text spans = flat_map (query_of text) spans

abbrev pub nothing : Verdict
nothing = record { faults = []; lints = [] }

abbrev pub joined : Verdict → Verdict → Verdict
joined v w = record { faults = v.faults ++ w.faults; lints = v.lints ++ w.lints }

-- what is wrong with queries, one after another. The places of each count from its own beginning
pub data AreJudged : List (List ℕ) → Verdict → Type 0 where
  none : AreJudged [] nothing
  one_more : {qs : List (List ℕ)} {q : List ℕ} {v w : Verdict} → AreJudged qs v → IsJudged ReadsCheck usage.Check q w → AreJudged (qs ++ q ∷ []) (joined v w)

-- what is wrong with an interpolated text: all faults of its queries, and all their lints
abbrev pub IsInterpolation : List ℕ → Verdict → Type 0
IsInterpolation text v = (spans : List Span) × IsCut text spans × AreJudged (queries text spans) v

-- what is wrong with a text in a language
abbrev pub IsVerdict : Language → List ℕ → Verdict → Type 0
IsVerdict language.Mapping text v = IsJudged ReadsMapping usage.Mapping text v
IsVerdict language.Check text v = IsJudged ReadsCheck usage.Check text v
IsVerdict language.Interpolated text v = IsInterpolation text v

-- the same as what is wrong in a configuration: faults before lints
abbrev pub kinds_of : Verdict → List LintKind
kinds_of v = map lint.Fault v.faults ++ map lint.MappingLint v.lints

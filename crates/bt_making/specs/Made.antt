-- Texts in the language of mappings that are made ready to run, and why others aren't.
--
-- `R` says of which texts is spoken, of mappings or of queries alone: it relates a mapping and the tokens that are read as it.
use Rattle.std.specs.Prelude.{◌≡◌, ◌⊎◌, ℕ, List, [], ◌∷◌, codes, slice_range, true, false}
use Rattle.bt_literals.specs.Literals.{AllRead, FirstBad, patterns, texts}
use Rattle.bt_mapping_text.specs.Faults.{IsFault, IsReadAs, printed, words_of}
use Rattle.bt_mapping_text.specs.declared.fault.TextFault.{TextFault}
use Rattle.bt_mappings.specs.declared.interpolation.Bit.{Bit}
use Rattle.bt_mappings.specs.declared.interpolation.Bit.TheVariants as bit
use Rattle.bt_pieces.specs.Pieces.{IsCut}
use Rattle.bt_pieces.specs.declared.cut.Span.{Span}
use Rattle.bt_ready.specs.declared.ready.Ready.{Ready}
use Rattle.bt_schema.specs.declared.lints.Lint.{Lint}
use Rattle.bt_schema.specs.declared.lints.LintKind.TheVariants as kind
use Rattle.bt_syntax.specs.Grammar.{ReadsCheck}
use Rattle.bt_syntax.specs.Lexemes.{Lexemes}
use Rattle.bt_tree.specs.declared.tree.Mapping.{Mapping}
use Rattle.bt_making.specs.declared.refusal.Refusal.{Refusal}
use Rattle.bt_making.specs.declared.refusal.Refusal.TheVariants as refusal

-- The mapping with its patterns: the grammar of patterns reads each, and each is built, in order of the text.
pub record IsBuilt (m : Mapping) (r : Ready) : Type 0 where
  pub kept : r.mapping ≡ m
  pub are_read : AllRead (patterns m)
  pub are_built : r.patterns.list ≡ texts (patterns m)

-- the text is read as a mapping, which is made ready with its patterns
abbrev pub IsReady : (Mapping → Lexemes → Type 0) → List ℕ → Ready → Type 0
IsReady R text r = (m : Mapping) × IsReadAs R text m × IsBuilt m r

-- a text isn't read: its first fault, in words
abbrev pub IsFaulty : (Mapping → Lexemes → Type 0) → List ℕ → List ℕ → Type 0
IsFaulty R text words = (fault : TextFault) × IsFault R text fault × (words ≡ printed (words_of fault.kind) text fault.at)

-- a pattern of the mapping of a text is refused: the first such, in words
abbrev pub IsBad : List ℕ → Mapping → List ℕ → Type 0
IsBad text m words = (at : ℕ) × FirstBad at (patterns m) × (words ≡ printed (codes "pattern") text at)

-- a text is read, and a pattern of its mapping is refused
abbrev pub HasBadPattern : (Mapping → Lexemes → Type 0) → List ℕ → List ℕ → Type 0
HasBadPattern R text words = (m : Mapping) × IsReadAs R text m × IsBad text m words

-- why the text isn't made ready, in words
abbrev pub IsUnready : (Mapping → Lexemes → Type 0) → List ℕ → List ℕ → Type 0
IsUnready R text words = IsFaulty R text words ⊎ HasBadPattern R text words

-- The piece of the text at a span: a literal is what stands there, and a query is made ready. The places of a query count from its
-- own beginning.
abbrev pub IsPiece : List ℕ → Span → Bit → Type 0
IsPiece text span (bit.Literal t) = (span.query ≡ false) × (t ≡ slice_range text span.from span.to)
IsPiece text span (bit.Query r) = (span.query ≡ true) × IsReady ReadsCheck (slice_range text span.from span.to) r

-- the same of each span
abbrev pub ArePieces : List ℕ → List Span → List Bit → Type 0
ArePieces text [] [] = Unit {0}
ArePieces text (span ∷ spans) (b ∷ bs) = IsPiece text span b × ArePieces text spans bs
ArePieces text _ _ = ⊥

-- The pieces of an interpolated text, in their order.
abbrev pub IsInterpolation : List ℕ → List Bit → Type 0
IsInterpolation text bs = (spans : List Span) × IsCut text spans × ArePieces text spans bs

-- why the query at a span isn't made ready, in words
pub record IsUnreadyAt (text : List ℕ) (span : Span) (words : List ℕ) : Type 0 where
  pub is_query : span.query ≡ true
  pub is_unready : IsUnready ReadsCheck (slice_range text span.from span.to) words

-- why a query of these spans isn't made ready, where all that stand before it are
abbrev pub FirstUnready : List ℕ → List Span → List ℕ → Type 0
FirstUnready text [] words = ⊥
FirstUnready text (span ∷ spans) words = IsUnreadyAt text span words ⊎ ((b : Bit) × IsPiece text span b × FirstUnready text spans words)

-- why an interpolated text isn't made ready, in words
abbrev pub IsUnreadyText : List ℕ → List ℕ → Type 0
IsUnreadyText text words = (spans : List Span) × IsCut text spans × FirstUnready text spans words

-- the lint of a text at a place of the configuration
abbrev pub lint : List ℕ → List ℕ → Lint
lint at words = record { pointer = at; kind = kind.Fault words }

-- A text at a place isn't made ready: its one lint, with words of which `P` says that they are why. Want of memory may come at any
-- time.
abbrev pub IsRefusal : (List ℕ → Type 0) → List ℕ → Refusal → Type 0
IsRefusal P at (refusal.Lint l) = (words : List ℕ) × P words × (l ≡ lint at words)
IsRefusal P at refusal.NoMemory = Unit {0}

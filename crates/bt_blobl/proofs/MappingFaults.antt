-- The faults of a mapping's text.
use Rattle.std.proofs.Common.{◌≡◌, ◌≢◌, ℕ, ◌≤◌, List, [], ◌∷◌, ◌++◌, length, subst, arith, Bool, true, false, ◌&&◌, nat_eq, if◌then◌else◌, Option, Some}
use Rattle.bt_lexer.specs.Lines.{HasTokens, HasFault}
use Rattle.bt_lexer.specs.Spans.{AreSpans, IsFaultWithin}
use Rattle.bt_lexer.specs.declared.token.LexFault.{LexFault}
use Rattle.bt_lexer.specs.declared.token.LexFault.TheVariants as lexer
use Rattle.bt_lexer.specs.declared.token.Token.{Token}
use Rattle.bt_tree.specs.declared.tree.Mapping.{Mapping}
use Rattle.bt_syntax.specs.Brackets.{deep_at, opens, step, max_open}
use Rattle.bt_syntax.specs.Grammar.{ReadsMapping}
use Rattle.bt_syntax.specs.Lexemes.{Lexemes, lexemes}
use Rattle.bt_syntax.specs.Places.{Refuses, place_of}
use Rattle.bt_syntax.specs.declared.fault.SyntaxFault.{SyntaxFault}
use Rattle.bt_syntax.specs.declared.fault.SyntaxFault.TheVariants as parser
use Rattle.bt_blobl.specs.Inside.{IsUnread, IsWithin, LintsSay, MappingSays, PatternsSay, RefusalSays, TokensSay, lexer_halt, parser_halt}
use Rattle.bt_blobl.specs.Text.{HasNoLints, IsTextOf}
use Rattle.bt_blobl.specs.declared.course.Halt.{Halt}
use Rattle.bt_blobl.specs.declared.course.Halt.TheVariants as halt

-- each of them stands before the place n, or at it
abbrev AreWithin : ℕ → Lexemes → Type 0
AreWithin n [] = Unit {0}
AreWithin n (t ∷ ts) = (t.at ≤ n) × AreWithin n ts

tokens-within : (s : List ℕ) (low : ℕ) (ts : List Token) → AreSpans s low ts → AreWithin (length s) (lexemes s ts)
tokens-within s low [] spans = tt
tokens-within s low (t ∷ ts) spans = (omega (arith, spans.1.order, spans.1.within), tokens-within s t.to ts spans.2)

place-within : (n : ℕ) (u rest : Lexemes) → AreWithin n (u ++ rest) → place_of rest n ≤ n
place-within n [] [] all = omega arith
place-within n [] (t ∷ rest) all = all.0
place-within n (x ∷ u) rest all = place-within n u rest all.1

one-within : (b : Bool) (x at n : ℕ) (rest : Option ℕ) → x ≤ n → (rest ≡ Some at → at ≤ n) → (if b then Some x else rest) ≡ Some at → at ≤ n
one-within true x at n rest here there e = let same : x ≡ at = cc in omega (arith, here, same)
one-within false x at n rest here there e = there e

deep-within : (n d : ℕ) (ts : Lexemes) (at : ℕ) → AreWithin n ts → deep_at d ts ≡ Some at → at ≤ n
deep-within n d [] at all e = cc
deep-within n d (t ∷ ts) at all e = one-within (opens t.kind && nat_eq d max_open) t.at at n (deep_at (step d t.kind) ts) all.0 (deep-within n (step d t.kind) ts at all.1) e

-- the grammar refuses the tokens of a text
pub says-refused : (text : List ℕ) (ts : List Token) (f : SyntaxFault) → HasTokens text ts → AreSpans text 0 ts → Refuses ReadsMapping (lexemes text ts) (length text) f → TokensSay (parser_halt f) text
says-refused text ts (parser.Syntax at) has spans refuses =
    let bad = refuses.2 in
    let all : AreWithin (length text) (bad.u ++ refuses.1) = subst (AreWithin (length text)) bad.whole (tokens-within text 0 ts spans) in
    let inside = place-within (length text) bad.u refuses.1 all in
    ((ts, has, refuses), omega (arith, inside, refuses.3))
says-refused text ts (parser.TooDeep at) has spans refuses = ((ts, has, refuses), deep-within (length text) 0 (lexemes text ts) at (tokens-within text 0 ts spans) refuses)
says-refused text ts parser.NoMemory has spans refuses = tt

-- the grammar reads them
pub says-mapping : (text : List ℕ) (m : Mapping) (h : Halt) → IsTextOf m text → MappingSays m h → TokensSay h text
says-mapping text m (halt.Faulty fault at) reads says = absurd says
says-mapping text m (halt.Lints lints) reads says = (m, reads, says)
says-mapping text m (halt.Pattern at) reads says = (m, reads, says.0, says.1)
says-mapping text m halt.NoSource reads says = absurd says
says-mapping text m halt.NoMemory reads says = tt

-- what its lints and its patterns say, together
pub says-lints : (m : Mapping) (h : Halt) → LintsSay m h → MappingSays m h
says-lints m (halt.Faulty fault at) says = absurd says
says-lints m (halt.Lints lints) says = says
says-lints m (halt.Pattern at) says = absurd says
says-lints m halt.NoSource says = absurd says
says-lints m halt.NoMemory says = tt

pub says-patterns : (m : Mapping) (h : Halt) → HasNoLints m → PatternsSay m h → MappingSays m h
says-patterns m (halt.Faulty fault at) none says = absurd says
says-patterns m (halt.Lints lints) none says = absurd says
says-patterns m (halt.Pattern at) none says = (none, says)
says-patterns m halt.NoSource none says = absurd says
says-patterns m halt.NoMemory none says = tt

-- a text without tokens
pub says-lexed : (text : List ℕ) (f : LexFault) → (f ≢ lexer.NoMemory → HasFault text f) → RefusalSays (lexer_halt f) text
says-lexed text (lexer.Char at) fault = fault (λ e. cc)
says-lexed text (lexer.Text at) fault = fault (λ e. cc)
says-lexed text (lexer.Number at) fault = fault (λ e. cc)
says-lexed text lexer.NoMemory fault = tt

pub lexed-within : (text : List ℕ) (f : LexFault) → IsFaultWithin text 0 f → IsWithin (lexer_halt f) text
lexed-within text (lexer.Char at) inside = omega (arith, inside.1)
lexed-within text (lexer.Text at) inside = omega (arith, inside.1)
lexed-within text (lexer.Number at) inside = omega (arith, inside.1)
lexed-within text lexer.NoMemory inside = tt

pub lexed-unread : (f : LexFault) → IsUnread (lexer_halt f)
lexed-unread (lexer.Char at) = tt
lexed-unread (lexer.Text at) = tt
lexed-unread (lexer.Number at) = tt
lexed-unread lexer.NoMemory = tt

-- a text whose tokens are refused
module _ (text : List ℕ) where
  pub says-tokens : (h : Halt) → TokensSay h text → RefusalSays h text
  says-tokens (halt.Faulty fault at) says = says.0
  says-tokens (halt.Lints lints) says = says
  says-tokens (halt.Pattern at) says = says
  says-tokens halt.NoSource says = absurd says
  says-tokens halt.NoMemory says = tt

  pub tokens-within_text : (h : Halt) → TokensSay h text → IsWithin h text
  tokens-within_text (halt.Faulty fault at) says = says.1
  tokens-within_text (halt.Lints lints) says = tt
  tokens-within_text (halt.Pattern at) says = tt
  tokens-within_text halt.NoSource says = absurd says
  tokens-within_text halt.NoMemory says = tt

  pub tokens-unread : (h : Halt) → TokensSay h text → IsUnread h
  tokens-unread (halt.Faulty fault at) says = tt
  tokens-unread (halt.Lints lints) says = tt
  tokens-unread (halt.Pattern at) says = tt
  tokens-unread halt.NoSource says = absurd says
  tokens-unread halt.NoMemory says = tt

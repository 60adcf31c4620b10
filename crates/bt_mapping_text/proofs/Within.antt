-- The faults of a text stand within it.
use Rattle.std.proofs.Common.{◌≡◌, ◌≢◌, ℕ, ◌≤◌, List, [], ◌∷◌, ◌++◌, length, subst, arith, Bool, true, false, ◌&&◌, nat_eq, if◌then◌else◌, Option, Some}
use Rattle.bt_lexer.specs.Lines.{HasTokens, HasFault}
use Rattle.bt_lexer.specs.Spans.{AreSpans, IsFaultWithin}
use Rattle.bt_lexer.specs.declared.token.LexFault.{LexFault}
use Rattle.bt_lexer.specs.declared.token.LexFault.TheVariants as lexer
use Rattle.bt_lexer.specs.declared.token.Token.{Token}
use Rattle.bt_syntax.specs.Brackets.{deep_at, opens, step, max_open}
use Rattle.bt_syntax.specs.Lexemes.{Lexemes, lexemes}
use Rattle.bt_syntax.specs.Places.{Refuses, place_of}
use Rattle.bt_syntax.specs.declared.fault.SyntaxFault.{SyntaxFault}
use Rattle.bt_syntax.specs.declared.fault.SyntaxFault.TheVariants as parser
use Rattle.bt_tree.specs.declared.tree.Mapping.{Mapping}
use Rattle.bt_mapping_text.specs.Faults.{IsUnread}
use Rattle.bt_mapping_text.specs.Inside.{lexer_fault, parser_fault}

-- each of them stands before the place n, or at it
abbrev AreWithin : ℕ → Lexemes → Type 0
AreWithin n [] = Unit {0}
AreWithin n (t ∷ ts) = (t.at ≤ n) × AreWithin n ts

tokens-within : (s : List ℕ) (low : ℕ) (ts : List Token) → AreSpans s low ts → AreWithin (length s) (lexemes s ts)
tokens-within s low [] spans = tt
tokens-within s low (t ∷ ts) spans = (omega (arith, spans.1.order, spans.1.within), tokens-within s t.to ts spans.2)

place-within : (n : ℕ) (u rest : Lexemes) → AreWithin n (u ++ rest) → place_of rest n ≤ n
place-within n [] [] all = omega arith
place-within n [] (t ∷ rest) all = all.0
place-within n (x ∷ u) rest all = place-within n u rest all.1

one-within : (b : Bool) (x at n : ℕ) (rest : Option ℕ) → x ≤ n → (rest ≡ Some at → at ≤ n) → (if b then Some x else rest) ≡ Some at → at ≤ n
one-within true x at n rest here there e = let same : x ≡ at = cc in omega (arith, here, same)
one-within false x at n rest here there e = there e

deep-within : (n d : ℕ) (ts : Lexemes) (at : ℕ) → AreWithin n ts → deep_at d ts ≡ Some at → at ≤ n
deep-within n d [] at all e = cc
deep-within n d (t ∷ ts) at all e = one-within (opens t.kind && nat_eq d max_open) t.at at n (deep_at (step d t.kind) ts) all.0 (deep-within n (step d t.kind) ts at all.1) e

module _ (R : Mapping → Lexemes → Type 0) (text : List ℕ) where
  -- the grammar refuses the tokens of a text
  pub parsed-unread : (ts : List Token) (f : SyntaxFault) → HasTokens text ts → AreSpans text 0 ts → Refuses R (lexemes text ts) (length text) f →
      IsUnread R text (parser_fault f)
  parsed-unread ts (parser.Syntax at) has spans refuses =
      let bad = refuses.2 in
      let all : AreWithin (length text) (bad.u ++ refuses.1) = subst (AreWithin (length text)) bad.whole (tokens-within text 0 ts spans) in
      let inside = place-within (length text) bad.u refuses.1 all in
      ((ts, has, refuses), omega (arith, inside, refuses.3))
  parsed-unread ts (parser.TooDeep at) has spans refuses =
      ((ts, has, refuses), deep-within (length text) 0 (lexemes text ts) at (tokens-within text 0 ts spans) refuses)
  parsed-unread ts parser.NoMemory has spans refuses = tt

  -- a text without tokens
  pub lexed-unread : (f : LexFault) → (f ≢ lexer.NoMemory → HasFault text f) → IsFaultWithin text 0 f → IsUnread R text (lexer_fault f)
  lexed-unread (lexer.Char at) fault inside = (fault (λ e. cc), omega (arith, inside.1))
  lexed-unread (lexer.Text at) fault inside = (fault (λ e. cc), omega (arith, inside.1))
  lexed-unread (lexer.Number at) fault inside = (fault (λ e. cc), omega (arith, inside.1))
  lexed-unread lexer.NoMemory fault inside = tt

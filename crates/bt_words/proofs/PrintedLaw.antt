-- What is printed for a mapping that was read is read as the same mapping.
use Rattle.std.proofs.Common.{◌≡◌, ℕ, List, None, refl, sym}
use Rattle.bt_lexer.specs.declared.token.Token.{Token}
use Rattle.bt_lexer.specs.Lines.{HasTokens}
use Rattle.bt_tree.specs.declared.tree.Mapping.{Mapping}
use Rattle.bt_syntax.specs.Brackets.{deep_at}
use Rattle.bt_syntax.specs.Grammar as g
use Rattle.bt_syntax.specs.Grammar.{IsMapping, IsCheck, Nested, ReadsMapping, ReadsCheck}
use Rattle.bt_syntax.specs.Lexemes.{Lexemes, lexemes}
use Rattle.bt_words.specs.Printing.{words}
use Rattle.bt_words.specs.Printing as print
use Rattle.bt_words.specs.Layout.{printed}
use Rattle.bt_words.specs.PrintedReads.{ReadsAs}
use Rattle.bt_words.proofs.Keeping.{Kept, none, same, lost, parted}
use Rattle.bt_words.proofs.TextReads.{AllFine, ArePlaceless, tokens_at, text_has_tokens}
use Rattle.bt_words.proofs.MappingsBack.{words_back, read_back}
use Rattle.bt_words.proofs.MappingsLaid.{laid_out}
use Rattle.bt_words.proofs.SourceFine.{source_fine}

kept_fine : (u v : Lexemes) → Kept u v → AllFine u → AllFine v
kept_fine _ _ none f = tt
kept_fine _ _ (same {u} {v} t w st c) f = (st.fine f.0, kept_fine u v c f.1)
kept_fine _ _ (lost {u} {v} t h c) f = kept_fine u v c f.1
kept_fine _ _ (parted {u} {v} t h c) f = (refl, kept_fine u v c f.1)

kept_placeless : (u v : Lexemes) → Kept u v → ArePlaceless v
kept_placeless _ _ none = tt
kept_placeless _ _ (same {u} {v} t w st c) = (st.bare, kept_placeless u v c)
kept_placeless _ _ (lost {u} {v} t h c) = kept_placeless u v c
kept_placeless _ _ (parted {u} {v} t h c) = (refl, kept_placeless u v c)

pub printed_read : (s : List ℕ) (ts : List Token) (x : Mapping) → HasTokens s ts → ReadsMapping x (lexemes s ts) → deep_at 0 (lexemes s ts) ≡ None → ReadsAs x (printed x)
printed_read s ts x h r shallow =
    let b = words_back x (lexemes s ts) r in
    let (apart, lined) = laid_out x (lexemes s ts) r in
    let (has, words_are) = text_has_tokens (print.mapping x) (kept_fine (lexemes s ts) (words x) b.kept (source_fine s ts h)) (kept_placeless (lexemes s ts) (words x) b.kept) apart lined in
    let (y, reads, alike, flat) = read_back x (lexemes s ts) (lexemes (printed x) (tokens_at 0 (print.mapping x))) r shallow words_are in
    record { tokens = tokens_at 0 (print.mapping x); has = has; mapping = y; reads = reads; same = sym alike; shallow = flat }

-- a query alone
check_mapping : (n : ℕ) (x : Mapping) (u : Lexemes) → IsCheck (Nested n) x u → IsMapping (Nested n) x u
check_mapping n _ _ (g.check t r) = g.query_alone t r

pub printed_check_read : (s : List ℕ) (ts : List Token) (x : Mapping) → HasTokens s ts → ReadsCheck x (lexemes s ts) → deep_at 0 (lexemes s ts) ≡ None → ReadsAs x (printed x)
printed_check_read s ts x h (n, r) shallow = printed_read s ts x h (n, check_mapping n x (lexemes s ts) r) shallow

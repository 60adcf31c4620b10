-- The forms of the rules are read back where their parts are.
use Rattle.std.proofs.Common.{◌≡◌, Bool, true, List, [], ◌∷◌, ◌++◌, map, Option, refl, sym, ap, subst}
use Rattle.bt_lexer.specs.declared.token.Kind.{Kind}
use Rattle.bt_lexer.specs.declared.token.Kind.TheVariants as k
use Rattle.bt_syntax.specs.Lexemes.{Lexeme, Lexemes}
use Rattle.bt_syntax.specs.Rules as rule
use Rattle.bt_syntax.specs.Rules.{Repeated, Listed, Separated, Behind, Bracketed, Optional}
use Rattle.bt_tree.specs.Parts.{in_option}
use Rattle.bt_words.specs.Printing as print
use Rattle.bt_words.specs.Printing.{Piece, Space, Line, Token, Pieces, words_of, mark_word}
use Rattle.bt_words.proofs.Keeping.{Fine, Stands, Kept, none, same, lost, kept_append, words_append, mark_stands, Back, Printable, joined, ended}

-- ---- one part in brackets or behind a mark

module _ {A : Type 0} {R : A → Lexemes → Type 0} where
  pub bracketed_back : (opening closing : Kind) → Fine (mark_word opening) → Fine (mark_word closing) → (t t' : Lexeme) → t.kind ≡ opening → t'.kind ≡ closing → {a : A} {u : Lexemes} {p : Pieces} → Back A R a u p →
      Back A (Bracketed opening closing A R) a (t ∷ (u ++ t' ∷ [])) (print.bracketed opening closing p)
  bracketed_back opening closing f f' t t' h h' {a} {u} {p} b = record {
    reads = subst (λ v. Bracketed opening closing A R a (mark_word opening ∷ v)) (sym (words_append p (print.mark closing ∷ []))) (rule.bracketed (mark_word opening) (mark_word closing) refl b.reads refl);
    kept = same t (mark_word opening) (mark_stands opening f t h)
        (subst (Kept (u ++ t' ∷ [])) (sym (words_append p (print.mark closing ∷ []))) (kept_append b.kept (same t' (mark_word closing) (mark_stands closing f' t' h') none)));
  }

  pub behind_back : (mark : Kind) → Fine (mark_word mark) → (t : Lexeme) → t.kind ≡ mark → {a : A} {u : Lexemes} {p : Pieces} → Back A R a u p → Back A (Behind mark A R) a (t ∷ u) (print.mark mark ∷ p)
  behind_back mark f t h b = record { reads = rule.behind (mark_word mark) refl b.reads; kept = same t (mark_word mark) (mark_stands mark f t h) b.kept }

some_separated : {separates : Kind → Bool} {A : Type 0} {R : A → Lexemes → Type 0} (xs : List A) (u : Lexemes) → Separated separates A R xs u → xs ≡ [] → ⊥
some_separated _ _ (rule.single r) e = cc
some_separated _ _ (Separated.then t r h s) e = cc

-- ---- lists of parts

module _ {A : Type 0} {R : A → Lexemes → Type 0} {f : A → A} {P : A → Pieces} (H : Printable A R f P) where
  pub repeated_back : (xs : List A) (u : Lexemes) → Repeated A R xs u → Back (List A) (Repeated A R) (map f xs) u (print.all_of (map P xs))
  repeated_back _ _ rule.none = record { reads = rule.none; kept = none }
  repeated_back _ _ (rule.more {a} {rest} {u} {v} r s) =
      let b = H a u r in let c = repeated_back rest v s in
      joined (P a) (print.all_of (map P rest)) (rule.more b.reads c.reads) b.kept c.kept

  pub behind_each_back : (mark : Kind) → Fine (mark_word mark) → (xs : List A) (u : Lexemes) → Repeated A (Behind mark A R) xs u →
      Back (List A) (Repeated A (Behind mark A R)) (map f xs) u (print.behind_each (print.spaced mark) (map P xs))
  behind_each_back mark g _ _ rule.none = record { reads = rule.none; kept = none }
  behind_each_back mark g _ _ (rule.more {a} {rest} {v} (rule.behind {u} t h r) s) =
      let b = H a u r in let c = behind_each_back mark g rest v s in
      joined (print.spaced mark ++ P a) (print.behind_each (print.spaced mark) (map P rest)) (rule.more (rule.behind (mark_word mark) refl b.reads) c.reads)
      (same t (mark_word mark) (mark_stands mark g t h) b.kept) c.kept

  pub listed_back : (xs : List A) (u : Lexemes) → Listed A R xs u → Back (List A) (Listed A R) (map f xs) u (print.between print.comma (map P xs))
  listed_back _ _ rule.empty = record { reads = rule.empty; kept = none }
  listed_back _ _ (rule.last {a} {u} r) =
      let b = H a u r in ended {R = Listed A R} {a = f a ∷ []} {u = u} {p = P a} [] refl (record { reads = rule.last b.reads; kept = b.kept })
  listed_back _ _ (Listed.then {a} {rest = []} {u} {v} comma r h s) =
      let b = H a u r in let c = listed_back [] v s in
      joined (P a) [] (subst (Listed A R (f a ∷ [])) (none_after (words_of (P a))) (rule.last b.reads)) b.kept (lost comma h c.kept)
    where
      none_after : (u : Lexemes) → u ≡ u ++ []
      none_after [] = refl
      none_after (t ∷ u) = ap (λ v. t ∷ v) (none_after u)
  listed_back _ _ (Listed.then {a} {rest = x ∷ xs} {u} {v} comma r h s) =
      let b = H a u r in let c = listed_back (x ∷ xs) v s in
      joined (P a) (print.comma ++ print.between print.comma (map P (x ∷ xs))) (Listed.then (mark_word k.Comma) b.reads refl c.reads) b.kept (same comma (mark_word k.Comma) (mark_stands k.Comma refl comma h) c.kept)

  -- separators are printed as one
  module _ (separates : Kind → Bool) (separator : Pieces) (word : Lexeme) (is : (p : Pieces) → words_of (separator ++ p) ≡ word ∷ words_of p) (good : separates word.kind ≡ true)
      (keeps : (t : Lexeme) → separates t.kind ≡ true → (u v : Lexemes) → Kept u v → Kept (t ∷ u) (word ∷ v)) where
    pub separated_back : (xs : List A) (u : Lexemes) → Separated separates A R xs u → Back (List A) (Separated separates A R) (map f xs) u (print.between separator (map P xs))
    separated_back _ _ (rule.single {a} {u} r) =
        let b = H a u r in ended {R = Separated separates A R} {a = f a ∷ []} {u = u} {p = P a} [] refl (record { reads = rule.single b.reads; kept = b.kept })
    separated_back _ _ (Separated.then {a} {rest = []} {u} {v} t r h s) = absurd (some_separated [] v s refl)
    separated_back _ _ (Separated.then {a} {rest = x ∷ xs} {u} {v} t r h s) =
        let b = H a u r in let c = separated_back (x ∷ xs) v s in
        joined (P a) (separator ++ print.between separator (map P (x ∷ xs)))
        (subst (λ z. Separated separates A R (map f (a ∷ x ∷ xs)) (words_of (P a) ++ z)) (sym (is (print.between separator (map P (x ∷ xs))))) (Separated.then word b.reads good c.reads))
        b.kept (subst (Kept (t ∷ v)) (sym (is (print.between separator (map P (x ∷ xs))))) (keeps t h v (words_of (print.between separator (map P (x ∷ xs)))) c.kept))

  pub optional_back : (x : Option A) (u : Lexemes) → Optional A R x u → Back (Option A) (Optional A R) (in_option f x) u (print.subject (in_option P x))
  optional_back _ _ rule.absent = record { reads = rule.absent; kept = none }
  optional_back _ _ (rule.present {a} {u} r) = let b = H a u r in record { reads = rule.present b.reads; kept = b.kept }

-- a token first
pub led : {A : Type 0} {R : A → Lexemes → Type 0} {a : A} {u : Lexemes} {p : Pieces} (t w : Lexeme) → Stands t w → Back A (λ x v. R x (w ∷ v)) a u p → Back A R a (t ∷ u) (Token w ∷ p)
led t w h b = record { reads = b.reads; kept = same t w h b.kept }

-- spaces are no words
pub after_space : {A : Type 0} {R : A → Lexemes → Type 0} {a : A} {u : Lexemes} {p : Pieces} → Back A R a u p → Back A R a u (Space ∷ p)
after_space b = record { reads = b.reads; kept = b.kept }

pub block_back : {A : Type 0} {R : A → Lexemes → Type 0} (t t' : Lexeme) → t.kind ≡ k.LeftBrace → t'.kind ≡ k.RightBrace → {a : A} {u : Lexemes} {p : Pieces} → Back A R a u p →
    Back A (Bracketed k.LeftBrace k.RightBrace A R) a (t ∷ (u ++ t' ∷ [])) (print.block p)
block_back {R} t t' h h' b = after_space (bracketed_back k.LeftBrace k.RightBrace refl refl t t' h h' (after_space (ended {R = R} (Space ∷ []) refl b)))

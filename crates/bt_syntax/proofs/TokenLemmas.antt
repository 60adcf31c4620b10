-- Kinds and reserved names of tokens, samples of them, and which tokens go on behind a part of a query.
use Rattle.std.proofs.Common.{◌≡◌, ℕ, ◌≤◌, Bool, true, false, List, [], Option, Some, None, codes, refl, sym, ap, ◌∙◌, arith, rules, nat_lt, is_some}
use Rattle.std.proofs.lemmas.Bool.Decides.{nat_tests}
use denote.Enum.Bare.{same_true, true_same}
use Rattle.bt_lexer.specs.declared.token.Kind.{Kind}
use Rattle.bt_lexer.specs.declared.token.Kind.TheVariants as k
use Rattle.bt_lexer.specs.contracts.token.Kind.{the_type}
use Rattle.bt_syntax.specs.declared.keywords.Keyword.{Keyword}
use Rattle.bt_syntax.specs.declared.keywords.Keyword.TheVariants as w
use Rattle.bt_syntax.specs.contracts.keywords.Keyword as keyword
use Rattle.bt_syntax.specs.Lexemes.{Lexeme, reserved, reserved_in}
use Rattle.bt_syntax.specs.Brackets.{step}
use Rattle.bt_tree.specs.declared.tree.Key.{Key}
use Rattle.bt_syntax.specs.Grammar.{IsReserved, key_in, free_in, is_free}
use Rattle.bt_syntax.specs.Readers.{is, is_reserved, same_keyword, only, is_key}

pub is_kind : (a : Kind) (t : Lexeme) → is a t ≡ true → t.kind ≡ a
is_kind a t h = sym (same_true the_type (search rules) a t.kind h)

pub kind_is : (a : Kind) (t : Lexeme) → t.kind ≡ a → is a t ≡ true
kind_is a t h = true_same the_type a t.kind (sym h)

keyword_at : (v : Keyword) (o : Option Keyword) → same_keyword v o ≡ true → o ≡ Some v
keyword_at v None h = absurd (cc)
keyword_at v (Some x) h = ap (λ y. Some y) (sym (same_true keyword.the_type (search rules) v x h))

pub is_word : (v : Keyword) (t : Lexeme) → is_reserved v t ≡ true → IsReserved v t
is_word v t h = keyword_at v (reserved t) h

pub word_is : (v : Keyword) (t : Lexeme) → IsReserved v t → is_reserved v t ≡ true
word_is v t h = ap (same_keyword v) h ∙ true_same keyword.the_type v v refl

pub only_is : (b : Bool) (t t' : Lexeme) → only b t ≡ Some t' → (b ≡ true) × (t ≡ t')
only_is true t t' h = (refl, cc)
only_is false t t' h = absurd (cc)

-- ---- reserved names are names

name_kind : (kd : Kind) (t : Lexeme) (v : Keyword) → t.kind ≡ kd → IsReserved v t → kd ≡ k.Name
unfolding reserved
name_kind k.Name t v e h = refl
name_kind _ t v e h = absurd (let h' = rw e at h in cc)

pub word_kind : (v : Keyword) (t : Lexeme) → IsReserved v t → t.kind ≡ k.Name
word_kind v t h = name_kind t.kind t v refl h

pub no_word : (kd : Kind) → ((u : List ℕ) → reserved_in kd u ≡ None) → (t : Lexeme) → t.kind ≡ kd → reserved t ≡ None
unfolding reserved
no_word kd f t h = ap (λ y. reserved_in y t.text) h ∙ f t.text

-- ---- no bracket

abbrev pub Flat : Kind → Type 0
Flat kd = (d : ℕ) → step d kd ≡ d

-- ---- samples

abbrev pub sample : Kind → Lexeme
sample kd = record { kind = kd; text = []; at = 0; line = 1 }

abbrev spelled : Keyword → List ℕ
spelled w.This = codes "this"
spelled w.Root = codes "root"
spelled w.Match = codes "match"
spelled w.If = codes "if"
spelled w.Else = codes "else"
spelled w.True = codes "true"
spelled w.False = codes "false"
spelled w.Null = codes "null"
spelled w.Let = codes "let"
spelled w.Meta = codes "meta"
spelled w.Map = codes "map"
spelled w.Underscore = codes "_"

abbrev pub sample_name : List ℕ → Lexeme
sample_name u = record { kind = k.Name; text = u; at = 0; line = 1 }

abbrev pub sample_word : Keyword → Lexeme
sample_word v = sample_name (spelled v)

pub sample_reserved : (v : Keyword) → IsReserved v (sample_word v)
unfolding reserved
sample_reserved w.This = refl
sample_reserved w.Root = refl
sample_reserved w.Match = refl
sample_reserved w.If = refl
sample_reserved w.Else = refl
sample_reserved w.True = refl
sample_reserved w.False = refl
sample_reserved w.Null = refl
sample_reserved w.Let = refl
sample_reserved w.Meta = refl
sample_reserved w.Map = refl
sample_reserved w.Underscore = refl

-- ---- which tokens go on behind a part of a query: those that bind as tightly as its operators, and no others

abbrev pub rank : Kind → ℕ
rank k.Name = 1
rank k.Text = 1
rank k.LeftParen = 1
rank k.Dot = 2
rank k.Star = 3
rank k.Slash = 3
rank k.Percent = 3
rank k.Plus = 4
rank k.Minus = 4
rank k.Equal = 5
rank k.NotEqual = 5
rank k.Less = 5
rank k.LessEqual = 5
rank k.Greater = 5
rank k.GreaterEqual = 5
rank k.And = 6
rank k.Or = 7
rank k.Pipe = 8
rank k.Arrow = 9
rank _ = 10

abbrev pub below : {A : Type 0} → ℕ → A → Lexeme → Bool
below n a t = nat_lt (rank t.kind) n

pub below_wider : {A B : Type 0} (n m : ℕ) → n ≤ m → (a : A) (b : B) (t : Lexeme) → below m b t ≡ false → below n a t ≡ false
below_wider n m h a b t e = ranks (rank t.kind) n m h e
  where
    ranks : (r n m : ℕ) → n ≤ m → nat_lt r m ≡ false → nat_lt r n ≡ false
    ranks r n m h e = grind (arith, nat_tests)

-- a token that goes on behind nothing
pub ender : {A : Type 0} (n : ℕ) → n ≤ 10 → (kd : Kind) → rank kd ≡ 10 → (a : A) (t : Lexeme) → t.kind ≡ kd → below n a t ≡ false
ender n small kd r a t h = ranks (rank t.kind) n small (ap rank h ∙ r)
  where
    ranks : (r n : ℕ) → n ≤ 10 → r ≡ 10 → nat_lt r n ≡ false
    ranks r n small e = grind (arith, nat_tests)

-- a mark that goes on isn't next where nothing goes on
pub ends_mark : {A : Type 0} (n : ℕ) (kd : Kind) → nat_lt (rank kd) n ≡ true → (a : A) (t : Lexeme) → below n a t ≡ false → is kd t ≡ false
ends_mark n kd h a t e = go (is kd t) refl
  where
    go : (b : Bool) → is kd t ≡ b → b ≡ false
    go true s = absurd (let k' = is_kind kd t s in let e' : true ≡ false = sym h ∙ ap (λ y. nat_lt (rank y) n) (sym k') ∙ e in cc)
    go false s = refl

pub ends_word : {A : Type 0} (n : ℕ) (v : Keyword) → nat_lt 1 n ≡ true → (a : A) (t : Lexeme) → below n a t ≡ false → is_reserved v t ≡ false
ends_word n v h a t e = go (is_reserved v t) refl
  where
    go : (b : Bool) → is_reserved v t ≡ b → b ≡ false
    go true s = absurd (let k' = word_kind v t (is_word v t s) in let e' : true ≡ false = sym h ∙ ap (λ y. nat_lt (rank y) n) (sym k') ∙ e in cc)
    go false s = refl

-- ---- keys and names

pub key_flat : (kd : Kind) (u : List ℕ) (x : Key) → key_in kd u ≡ Some x → Flat kd
key_flat k.Name u x h = λ d. refl
key_flat k.Text u x h = λ d. refl
key_flat _ u x h = absurd (cc)

key_rank : (kd : Kind) (u : List ℕ) → is_some (key_in kd u) ≡ true → rank kd ≡ 1
key_rank k.Name u h = refl
key_rank k.Text u h = refl
key_rank _ u h = absurd (cc)

pub ends_key : {A : Type 0} (n : ℕ) → nat_lt 1 n ≡ true → (a : A) (t : Lexeme) → below n a t ≡ false → is_key t ≡ false
ends_key n h a t e = go (is_key t) refl
  where
    go : (b : Bool) → is_key t ≡ b → b ≡ false
    go true s = absurd (let r = key_rank t.kind t.text s in let e' : true ≡ false = sym h ∙ ap (λ y. nat_lt y n) (sym r) ∙ e in cc)
    go false s = refl

free_name : (kd : Kind) (o : Option Keyword) → free_in kd o ≡ true → kd ≡ k.Name
free_name k.Name o h = refl
free_name _ o h = absurd (cc)

pub free_kind : (t : Lexeme) → is_free t ≡ true → t.kind ≡ k.Name
free_kind t h = free_name t.kind (reserved t) h

pub word_not_free : (v : Keyword) (t : Lexeme) → IsReserved v t → is_free t ≡ false
word_not_free v t h = let e = word_kind v t h in rw h (rw e refl)

-- ---- tests by rank

pub over_rank : {A : Type 0} (n r : ℕ) → nat_lt r n ≡ false → (a : A) (t : Lexeme) → rank t.kind ≡ r → below n a t ≡ false
over_rank n r h a t e = ap (λ y. nat_lt y n) e ∙ h

pub ends_test : {A : Type 0} (h : Lexeme → Bool) (n r : ℕ) → ((t : Lexeme) → h t ≡ true → rank t.kind ≡ r) → nat_lt r n ≡ true → (a : A) (t : Lexeme) → below n a t ≡ false → h t ≡ false
ends_test h n r ranks low a t e = go (h t) refl
  where
    go : (b : Bool) → h t ≡ b → b ≡ false
    go true s = absurd (let e' : true ≡ false = sym low ∙ ap (λ y. nat_lt y n) (sym (ranks t s)) ∙ e in cc)
    go false s = refl

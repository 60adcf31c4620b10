-- What the parts of a query begin with.
use Rattle.std.proofs.Common.{◌≡◌, ℕ, zero, suc, Bool, true, false, not, ◌||◌, is_some, [], ◌∷◌, ◌++◌, Option, Some, None, refl, ap, ◌∙◌}
use Rattle.bt_lexer.specs.declared.token.Kind.{Kind}
use Rattle.bt_lexer.specs.declared.token.Kind.TheVariants as k
use Rattle.bt_value.specs.declared.names.PrefixOp.{PrefixOp}
use Rattle.bt_syntax.specs.declared.keywords.Keyword.{Keyword}
use Rattle.bt_syntax.specs.declared.keywords.Keyword.TheVariants as w
use Rattle.bt_tree.specs.declared.tree.Query.{Query}
use Rattle.bt_syntax.specs.Lexemes.{Lexeme, Lexemes, reserved}
use Rattle.bt_syntax.specs.Rules.{Bracketed, bracketed}
use Rattle.bt_syntax.specs.Grammar as g
use Rattle.bt_syntax.specs.Grammar.{IsReserved, free_in, is_free, head_in, token_head, reserved_query, reserved_head, prefix_op, IsHead, IsItem, IsUnary, IsProduct, IsSum, IsComparison, IsLogic, IsPlain, IsMatch, IsIf, IsQuery, Nested}
use Rattle.bt_syntax.specs.Readers.{is, is_not, is_reserved, is_prefix, same_keyword}
use Rattle.bt_syntax.proofs.Many.{Begins}
use Rattle.bt_syntax.proofs.TokenLemmas.{is_kind, is_word, word_is, word_kind, no_word}

abbrev pub name_first : Option Keyword → Bool
name_first None = true
name_first (Some w.Null) = true
name_first (Some w.True) = true
name_first (Some w.False) = true
name_first (Some w.This) = true
name_first (Some w.Root) = true
name_first (Some w.Meta) = true
name_first _ = false

abbrev pub head_first_in : Kind → Option Keyword → Bool
head_first_in k.Name o = name_first o
head_first_in k.Int o = true
head_first_in k.Text o = true
head_first_in k.Var o = true
head_first_in k.At o = true
head_first_in k.LeftParen o = true
head_first_in k.LeftBracket o = true
head_first_in k.LeftBrace o = true
head_first_in _ o = false

-- a head begins with such a token
abbrev pub head_first : Lexeme → Bool
head_first t = head_first_in t.kind (reserved t)

-- a plain query does
abbrev pub plain_first : Lexeme → Bool
plain_first t = head_first t || is_prefix t

-- a query does
abbrev pub query_first : Lexeme → Bool
query_first t = (head_first t || is_prefix t) || (is_reserved w.Match t || is_reserved w.If t)

-- ---- one token

named_first : (t : Lexeme) (o : Option Keyword) (q : Query) → reserved_head t o ≡ Some q → name_first o ≡ true
named_first t None q h = absurd (cc)
named_first t (Some w.Null) q h = refl
named_first t (Some w.True) q h = refl
named_first t (Some w.False) q h = refl
named_first t (Some w.This) q h = refl
named_first t (Some w.Root) q h = refl
named_first t (Some w.Meta) q h = refl
named_first t (Some _) q h = absurd (cc)

token_first_in : (kd : Kind) (t : Lexeme) (q : Query) → head_in kd t ≡ Some q → head_first_in kd (reserved t) ≡ true
token_first_in k.Name t q h = named_first t (reserved t) q h
token_first_in k.Int t q h = refl
token_first_in k.Text t q h = refl
token_first_in k.Var t q h = refl
token_first_in k.At t q h = refl
token_first_in k.LeftParen t q h = refl
token_first_in k.LeftBracket t q h = refl
token_first_in k.LeftBrace t q h = refl
token_first_in _ t q h = absurd (cc)

pub token_first : (t : Lexeme) (q : Query) → token_head t ≡ Some q → head_first t ≡ true
token_first t q h = token_first_in t.kind t q h

free_first_in : (kd : Kind) (o : Option Keyword) → free_in kd o ≡ true → head_first_in kd o ≡ true
free_first_in k.Name None h = refl
free_first_in k.Name (Some v) h = absurd (cc)
free_first_in _ o h = absurd (cc)

pub free_first : (t : Lexeme) → is_free t ≡ true → head_first t ≡ true
free_first t h = free_first_in t.kind (reserved t) h

pub mark_first : (kd : Kind) → ((o : Option Keyword) → head_first_in kd o ≡ true) → (t : Lexeme) → t.kind ≡ kd → head_first t ≡ true
mark_first kd h t e = ap (λ y. head_first_in y (reserved t)) e ∙ h (reserved t)

pub word_first : (v : Keyword) → name_first (Some v) ≡ true → (t : Lexeme) → IsReserved v t → head_first t ≡ true
word_first v h t e = ap (λ y. head_first_in y (reserved t)) (word_kind v t e) ∙ ap name_first e ∙ h

-- ---- parts

pub begins_more : (h : Lexeme → Bool) (u v : Lexemes) → Begins h u → Begins h (u ++ v)
begins_more h u v (t, x, e, b) = (t, x ++ v, ap (λ y. y ++ v) e, b)

pub begins_wider : (h h' : Lexeme → Bool) → ((t : Lexeme) → h t ≡ true → h' t ≡ true) → (u : Lexemes) → Begins h u → Begins h' u
begins_wider h h' wider u (t, x, e, b) = (t, x, e, wider t b)

pub bracketed_begins : (opening closing : Kind) (A : Type 0) (R : A → Lexemes → Type 0) (a : A) (u : Lexemes) → Bracketed opening closing A R a u → (t : Lexeme) × (v : Lexemes) × (u ≡ t ∷ v) × (t.kind ≡ opening)
bracketed_begins opening closing A R _ _ (bracketed {a} {u} t t' h s h') = (t, u ++ t' ∷ [], refl, h)

or_left : (a b : Bool) → a ≡ true → (a || b) ≡ true
or_left a b h = rw h

or_right : (a b : Bool) → b ≡ true → (a || b) ≡ true
or_right true b h = refl
or_right false b h = h

module _ (I : Query → Lexemes → Type 0) where
  brackets_first : (opening closing : Kind) (A : Type 0) (R : A → Lexemes → Type 0) (a : A) (u : Lexemes) → ((o : Option Keyword) → head_first_in opening o ≡ true) → Bracketed opening closing A R a u → Begins head_first u
  brackets_first opening closing A R a u h s = (let (t, v, e, b) = bracketed_begins opening closing A R a u s in (t, v, e, mark_first opening h t b))

  pub head_begins : (q : Query) (u : Lexemes) → IsHead I q u → Begins head_first u
  head_begins _ _ (g.IsHead.token {q} t h) = (t, [], refl, token_first t q h)
  head_begins _ _ (g.IsHead.name t h) = (t, [], refl, free_first t h)
  head_begins _ _ (g.IsHead.metadata t h) = (t, [], refl, mark_first k.At (λ o. refl) t h)
  head_begins _ _ (g.IsHead.meta_key t t' h h') = (t, t' ∷ [], refl, mark_first k.At (λ o. refl) t h)
  head_begins _ _ (g.IsHead.call {xs} {u} t h s) = (t, u, refl, free_first t h)
  head_begins _ _ (g.IsHead.meta_call {xs} {u} t h s) = (t, u, refl, word_first w.Meta refl t h)
  head_begins _ _ (g.IsHead.parens {q} {u} s) = brackets_first k.LeftParen k.RightParen _ _ _ u (λ o. refl) s
  head_begins _ _ (g.IsHead.«list» {qs} {u} s) = brackets_first k.LeftBracket k.RightBracket _ _ _ u (λ o. refl) s
  head_begins _ _ (g.IsHead.object {xs} {u} s) = brackets_first k.LeftBrace k.RightBrace _ _ _ u (λ o. refl) s

  pub item_begins : (q : Query) (u : Lexemes) → IsItem I q u → Begins head_first u
  item_begins q u (g.head_alone s) = head_begins q u s
  item_begins _ _ (g.suffixed {q} {x} {xs} {u} {v} s m) = begins_more head_first u v (head_begins q u s)

  prefix_some : (kd : Kind) (op : PrefixOp) → prefix_op kd ≡ Some op → is_some (prefix_op kd) ≡ true
  prefix_some kd op h = ap is_some h

  pub unary_begins : (q : Query) (u : Lexemes) → IsUnary I q u → Begins plain_first u
  unary_begins q u (g.item_alone s) = begins_wider head_first plain_first (λ t h. or_left (head_first t) (is_prefix t) h) u (item_begins q u s)
  unary_begins _ _ (g.prefixed {q} {op} {u} t h s) = (t, u, refl, or_right (head_first t) (is_prefix t) (prefix_some t.kind op h))

  pub product_begins : (q : Query) (u : Lexemes) → IsProduct I q u → Begins plain_first u
  product_begins q u (g.unary_alone s) = unary_begins q u s
  product_begins _ _ (g.multiplied {q} {x} {xs} {u} {v} s m) = begins_more plain_first u v (unary_begins q u s)

  pub sum_begins : (q : Query) (u : Lexemes) → IsSum I q u → Begins plain_first u
  sum_begins q u (g.product_alone s) = product_begins q u s
  sum_begins _ _ (g.added {q} {x} {xs} {u} {v} s m) = begins_more plain_first u v (product_begins q u s)

  pub comparison_begins : (q : Query) (u : Lexemes) → IsComparison I q u → Begins plain_first u
  comparison_begins q u (g.sum_alone s) = sum_begins q u s
  comparison_begins _ _ (g.compared {q} {r} {op} {u} {v} t s h m) = begins_more plain_first u (t ∷ v) (sum_begins q u s)

  pub logic_begins : (q : Query) (u : Lexemes) → IsLogic I q u → Begins plain_first u
  logic_begins q u (g.comparison_alone s) = comparison_begins q u s
  logic_begins _ _ (g.all_of {q} {r} {qs} {u} {v} s m) = begins_more plain_first u v (comparison_begins q u s)
  logic_begins _ _ (g.any_of {q} {r} {qs} {u} {v} s m) = begins_more plain_first u v (comparison_begins q u s)

  pub plain_begins : (q : Query) (u : Lexemes) → IsPlain I q u → Begins plain_first u
  plain_begins q u (g.logic s) = logic_begins q u s
  plain_begins _ _ (g.first_of {q} {r} {qs} {u} {v} s m) = begins_more plain_first u v (unary_begins q u s)

  pub match_begins : (q : Query) (u : Lexemes) → IsMatch I q u → Begins (is_reserved w.Match) u
  match_begins _ _ (g.«match» {q} {xs} {u} {v} t h s s') = (t, u ++ v, refl, word_is w.Match t h)

  pub if_begins : (q : Query) (u : Lexemes) → IsIf I q u → Begins (is_reserved w.If) u
  if_begins _ _ (g.«if» {x} {xs} {q} {u} {v} t h s s') = (t, u ++ v, refl, word_is w.If t h)

  pub query_begins : (q : Query) (u : Lexemes) → IsQuery I q u → Begins query_first u
  query_begins q u (g.match_query s) = begins_wider (is_reserved w.Match) query_first (λ t h. or_right (head_first t || is_prefix t) (is_reserved w.Match t || is_reserved w.If t) (or_left (is_reserved w.Match t) (is_reserved w.If t) h)) u (match_begins q u s)
  query_begins q u (g.if_query s) = begins_wider (is_reserved w.If) query_first (λ t h. or_right (head_first t || is_prefix t) (is_reserved w.Match t || is_reserved w.If t) (or_right (is_reserved w.Match t) (is_reserved w.If t) h)) u (if_begins q u s)
  query_begins q u (g.plain_query s) = begins_wider plain_first query_first (λ t h. or_left (head_first t || is_prefix t) (is_reserved w.Match t || is_reserved w.If t) h) u (plain_begins q u s)

pub nested_begins : (m : ℕ) (q : Query) (u : Lexemes) → Nested m q u → Begins query_first u
nested_begins zero q u s = absurd s
nested_begins (suc m) q u s = query_begins (Nested m) q u s

-- ---- what they don't begin with

excluded : (a b : Bool) → (b ≡ true → a ≡ false) → a ≡ true → b ≡ false
excluded a true f h = absurd (let e = f refl in cc)
excluded a false f h = refl

pub not_word : (v : Keyword) → name_first (Some v) ≡ false → (t : Lexeme) → plain_first t ≡ true → is_reserved v t ≡ false
not_word v h t e = excluded (plain_first t) (is_reserved v t) (λ b. (let b' = word_kind v t (is_word v t b) in let b'' = is_word v t b in rw b'' (rw b' (rw h refl)))) e

pub query_not_word : (v : Keyword) → name_first (Some v) ≡ false → same_keyword w.Match (Some v) ≡ false → same_keyword w.If (Some v) ≡ false → (t : Lexeme) → query_first t ≡ true → is_reserved v t ≡ false
query_not_word v h h' h'' t e = excluded (query_first t) (is_reserved v t) (λ b. (let b' = word_kind v t (is_word v t b) in let b'' = is_word v t b in rw b'' (rw b' (rw h (rw h' (rw h'' refl)))))) e

pub query_not_mark : (kd : Kind) → ((t : Lexeme) → t.kind ≡ kd → query_first t ≡ false) → (t : Lexeme) → query_first t ≡ true → is_not kd t ≡ true
query_not_mark kd f t e = ap not (excluded (query_first t) (is kd t) (λ b. f t (is_kind kd t b)) e)

-- no query begins with a closing bracket
pub not_paren : (t : Lexeme) → query_first t ≡ true → is_not k.RightParen t ≡ true
not_paren = query_not_mark k.RightParen (λ t h. (let h' = no_word k.RightParen (λ u. refl) t h in rw h' (rw h refl)))

pub not_bracket : (t : Lexeme) → query_first t ≡ true → is_not k.RightBracket t ≡ true
not_bracket = query_not_mark k.RightBracket (λ t h. (let h' = no_word k.RightBracket (λ u. refl) t h in rw h' (rw h refl)))

pub not_brace : (t : Lexeme) → query_first t ≡ true → is_not k.RightBrace t ≡ true
not_brace = query_not_mark k.RightBrace (λ t h. (let h' = no_word k.RightBrace (λ u. refl) t h in rw h' (rw h refl)))

pub head_is_query : (t : Lexeme) → head_first t ≡ true → query_first t ≡ true
head_is_query t h = or_left (head_first t || is_prefix t) (is_reserved w.Match t || is_reserved w.If t) (or_left (head_first t) (is_prefix t) h)

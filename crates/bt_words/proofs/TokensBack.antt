-- Tokens are read back as what they were read as.
use Rattle.std.proofs.Common.{◌≡◌, pos, ◌≤◌, true, [], ◌∷◌, Option, Some, None, refl, sym, ap, ◌∙◌, subst}
use Rattle.bt_lexer.specs.declared.token.Kind.{Kind}
use Rattle.bt_lexer.specs.declared.token.Kind.TheVariants as k
use Rattle.bt_value.specs.declared.names.Op.{Op}
use Rattle.bt_value.specs.declared.names.Op.TheVariants as o
use Rattle.bt_value.specs.declared.names.PrefixOp.{PrefixOp}
use Rattle.bt_value.specs.declared.names.PrefixOp.TheVariants as po
use Rattle.bt_syntax.specs.declared.keywords.Keyword.{Keyword}
use Rattle.bt_syntax.specs.declared.keywords.Keyword.TheVariants as w
use Rattle.bt_tree.specs.declared.tree.Key.{Key}
use Rattle.bt_tree.specs.declared.tree.Key.TheVariants as key
use Rattle.bt_tree.specs.declared.tree.Query.{Query}
use Rattle.bt_tree.specs.declared.tree.Query.TheVariants as node
use Rattle.bt_tree.specs.declared.tree.Suffix.{Suffix}
use Rattle.bt_tree.specs.declared.tree.Suffix.TheVariants as s
use Rattle.bt_syntax.specs.Lexemes.{Lexeme, Lexemes, reserved, reserved_in, number}
use Rattle.bt_syntax.specs.Grammar as g
use Rattle.bt_syntax.specs.Grammar.{IsReserved, is_free, free_in, key_of, key_in, token_head, head_in, reserved_head, segment_of, segment_in, prefix_op, product_op, sum_op, comparison_op, separates_statements, word, IsHead, IsSuffix, IsKey}
use Rattle.bt_tree.specs.Same.{query_erased}
use Rattle.bt_syntax.proofs.TokenLemmas.{word_kind, free_kind}
use Rattle.bt_tree.specs.Parts.{part_erased}
use Rattle.bt_words.specs.Printing as print
use Rattle.bt_words.specs.Printing.{Token, Pieces, words_of, placeless, mark_word, reserved_word, key_word, kind_of_op, kind_of_prefix, digits, query}
use Rattle.bt_words.proofs.DigitLemmas.{digits_value, digits_number}
use Rattle.bt_words.proofs.Keeping.{Fine, fine_in, Stands, none, same, mark_stands, Back, moved}
use Rattle.bt_tree.proofs.ErasedLayers.{erased-Null, erased-True, erased-False, erased-Int, erased-Quoted, erased-This, erased-Root, erased-Var}
use Rattle.bt_words.proofs.PrintedLayers.{of_suffix, printed-Null, printed-True, printed-False, printed-Int, printed-Quoted, printed-This, printed-Root, printed-Var}

-- a token that keeps what it says
pub same_stands : (kd : Kind) (t : Lexeme) → t.kind ≡ kd → Stands t (placeless kd t.text)
same_stands kd t h = record { kind = sym h; bare = refl; fine = λ y. subst (λ z. fine_in z t.text) h y }

-- ---- reserved names

pub spelled_reserved : (v : Keyword) → IsReserved v (reserved_word v)
unfolding reserved
spelled_reserved w.This = refl
spelled_reserved w.Root = refl
spelled_reserved w.Match = refl
spelled_reserved w.If = refl
spelled_reserved w.Else = refl
spelled_reserved w.True = refl
spelled_reserved w.False = refl
spelled_reserved w.Null = refl
spelled_reserved w.Let = refl
spelled_reserved w.Meta = refl
spelled_reserved w.Map = refl
spelled_reserved w.Underscore = refl

fine_word : (v : Keyword) → Fine (reserved_word v)
fine_word w.This = refl
fine_word w.Root = refl
fine_word w.Match = refl
fine_word w.If = refl
fine_word w.Else = refl
fine_word w.True = refl
fine_word w.False = refl
fine_word w.Null = refl
fine_word w.Let = refl
fine_word w.Meta = refl
fine_word w.Map = refl
fine_word w.Underscore = refl

pub word_stands : (v : Keyword) (t : Lexeme) → IsReserved v t → Stands t (reserved_word v)
word_stands v t h = record { kind = sym (word_kind v t h); bare = refl; fine = λ y. fine_word v }

-- ---- names and keys

pub free_back : (t : Lexeme) → is_free t ≡ true → is_free (placeless k.Name t.text) ≡ true
unfolding reserved
free_back t h = ap (λ kd. free_in kd (reserved_in kd t.text)) (sym (free_kind t h)) ∙ h

pub free_stands : (t : Lexeme) → is_free t ≡ true → Stands t (placeless k.Name t.text)
free_stands t h = same_stands k.Name t (free_kind t h)

-- `meta` keeps its spelling where it is a call's name
pub reserved_name : (v : Keyword) (t : Lexeme) → IsReserved v t → IsReserved v (placeless k.Name t.text)
unfolding reserved
reserved_name v t h = ap (λ kd. reserved_in kd t.text) (sym (word_kind v t h)) ∙ h

pub record KeyBack (x : Key) (t : Lexeme) : Type 0 where
  pub reads : key_of (key_word x) ≡ Some x
  pub stands : Stands t (key_word x)

key_at : (x y : Key) (t : Lexeme) → Some y ≡ Some x → KeyBack y t → KeyBack x t
key_at x y t h b = let h' : y ≡ x = cc in subst (λ z. KeyBack z t) h' b

key_kind : (kd : Kind) (x : Key) (t : Lexeme) → t.kind ≡ kd → key_in kd t.text ≡ Some x → KeyBack x t
key_kind k.Name x t h e = key_at x (key.Name t.text) t e (record { reads = refl; stands = same_stands k.Name t h })
key_kind k.Text x t h e = key_at x (key.Quoted t.text) t e (record { reads = refl; stands = same_stands k.Text t h })
key_kind _ x t h e = absurd (cc)

pub key_back : (x : Key) (t : Lexeme) → key_of t ≡ Some x → KeyBack x t
key_back x t h = key_kind t.kind x t refl h

-- ---- numbers

pub int_stands : (t : Lexeme) → t.kind ≡ k.Int → Stands t (placeless k.Int (digits (number t)))
int_stands t h = record {
  kind = sym h;
  bare = refl;
  fine = λ y. (digits_number (number t), (let z : fine_in k.Int t.text = subst (λ kd. fine_in kd t.text) h y in subst (λ n. n ≤ 9223372036854775807) (sym (digits_value (number t))) z.1));
}

-- ---- heads of one token

module _ (I : Query → Lexemes → Type 0) where
  head_one : (t v : Lexeme) (q : Query) → Stands t v → token_head v ≡ Some q → Back Query (IsHead I) q (t ∷ []) (Token v ∷ [])
  head_one t v q h e = record { reads = g.token v e; kept = same t v h none }

  abbrev IsBack : Lexeme → Query → Type 0
  IsBack t q = Back Query (IsHead I) (query_erased q) (t ∷ []) (query q)

  head_at : (t : Lexeme) (q p : Query) → Some p ≡ Some q → IsBack t p → IsBack t q
  head_at t q p h b = let h' : p ≡ q = cc in subst (IsBack t) h' b

  reserved_one : (t : Lexeme) (v : Keyword) (q : Query) → IsReserved v t → g.reserved_query (reserved_word v) v ≡ Some q → Back Query (IsHead I) q (t ∷ []) (print.keyword v ∷ [])
  reserved_one t v q h e = head_one t (reserved_word v) q (word_stands v t h) (ap (reserved_head (reserved_word v)) (spelled_reserved v) ∙ e)

  reserved_back : (x : Option Keyword) (t : Lexeme) (q : Query) → reserved t ≡ x → reserved_head t x ≡ Some q → IsBack t q
  reserved_back None t q h e = absurd (cc)
  reserved_back (Some w.Null) t q h e = head_at t q node.Null e (moved erased-Null printed-Null (reserved_one t w.Null node.Null h refl))
  reserved_back (Some w.True) t q h e = head_at t q node.True e (moved erased-True printed-True (reserved_one t w.True node.True h refl))
  reserved_back (Some w.False) t q h e = head_at t q node.False e (moved erased-False printed-False (reserved_one t w.False node.False h refl))
  reserved_back (Some w.This) t q h e = head_at t q node.This e (moved erased-This printed-This (reserved_one t w.This node.This h refl))
  reserved_back (Some w.Root) t q h e = head_at t q (node.Root t.at) e (moved (erased-Root t.at) (printed-Root t.at) (reserved_one t w.Root (node.Root 0) h refl))
  reserved_back (Some _) t q h e = absurd (cc)

  head_kind : (kd : Kind) (t : Lexeme) (q : Query) → t.kind ≡ kd → head_in kd t ≡ Some q → IsBack t q
  head_kind k.Int t q h e = head_at t q (node.Int (pos (number t))) e
      (moved (erased-Int (pos (number t))) (printed-Int (pos (number t)))
      (head_one t (placeless k.Int (digits (number t))) (node.Int (pos (number t))) (int_stands t h) (ap (λ n. Some (node.Int (pos n))) (digits_value (number t)))))
  head_kind k.Text t q h e = head_at t q (node.Quoted (word t)) e (moved (erased-Quoted (word t)) (printed-Quoted (word t)) (head_one t (placeless k.Text t.text) (node.Quoted (record { at = 0; text = t.text })) (same_stands k.Text t h) refl))
  head_kind k.Var t q h e = head_at t q (node.Var (word t)) e (moved (erased-Var (word t)) (printed-Var (word t)) (head_one t (placeless k.Var t.text) (node.Var (record { at = 0; text = t.text })) (same_stands k.Var t h) refl))
  head_kind k.Name t q h e = reserved_back (reserved t) t q refl e
  head_kind _ t q h e = absurd (cc)

  pub token_back : (t : Lexeme) (q : Query) → token_head t ≡ Some q → IsBack t q
  token_back t q e = head_kind t.kind t q refl e

  -- ---- segments

  segment_one : (dot t v : Lexeme) (x : Suffix Query) → dot.kind ≡ k.Dot → Stands t v → segment_of v ≡ Some x → Back (Suffix Query) (IsSuffix I) x (dot ∷ t ∷ []) (print.mark k.Dot ∷ Token v ∷ [])
  segment_one dot t v x h h' e = record { reads = g.segment (mark_word k.Dot) v refl e; kept = same dot (mark_word k.Dot) (mark_stands k.Dot refl dot h) (same t v h' none) }

  abbrev IsSegmentBack : Lexeme → Lexeme → Suffix Query → Type 0
  IsSegmentBack dot t x = Back (Suffix Query) (IsSuffix I) (part_erased x) (dot ∷ t ∷ []) (of_suffix x)

  segment_at : (dot t : Lexeme) (x y : Suffix Query) → Some y ≡ Some x → IsSegmentBack dot t y → IsSegmentBack dot t x
  segment_at dot t x y h b = let h' : y ≡ x = cc in subst (IsSegmentBack dot t) h' b

  segment_kind : (kd : Kind) (dot t : Lexeme) (x : Suffix Query) → dot.kind ≡ k.Dot → t.kind ≡ kd → segment_in kd t ≡ Some x → IsSegmentBack dot t x
  segment_kind k.Name dot t x h h' e = segment_at dot t x (s.Name t.text) e (segment_one dot t (placeless k.Name t.text) (s.Name t.text) h (same_stands k.Name t h') refl)
  segment_kind k.Text dot t x h h' e = segment_at dot t x (s.Quoted t.text) e (segment_one dot t (placeless k.Text t.text) (s.Quoted t.text) h (same_stands k.Text t h') refl)
  segment_kind k.Int dot t x h h' e = segment_at dot t x (s.Int (pos (number t))) e
      (segment_one dot t (placeless k.Int (digits (number t))) (s.Int (pos (number t))) h (int_stands t h') (ap (λ n. Some (s.Int (pos n))) (digits_value (number t))))
  segment_kind _ dot t x h h' e = absurd (cc)

  pub segment_back : (dot t : Lexeme) (x : Suffix Query) → dot.kind ≡ k.Dot → segment_of t ≡ Some x → IsSegmentBack dot t x
  segment_back dot t x h e = segment_kind t.kind dot t x h refl e

-- ---- operators

fine_op : (op : Op) → Fine (mark_word (kind_of_op op))
fine_op o.Add = refl
fine_op o.Sub = refl
fine_op o.Mul = refl
fine_op o.Div = refl
fine_op o.Rem = refl
fine_op o.Equal = refl
fine_op o.NotEqual = refl
fine_op o.Less = refl
fine_op o.AtMost = refl
fine_op o.More = refl
fine_op o.AtLeast = refl
fine_op o.And = refl
fine_op o.Or = refl

op_same : (op x : Op) → Some x ≡ Some op → kind_of_op x ≡ kind_of_op op
op_same op x e = let e' : x ≡ op = cc in ap kind_of_op e'

product_kind : (kd : Kind) (op : Op) → product_op kd ≡ Some op → kd ≡ kind_of_op op
product_kind k.Star op e = op_same op o.Mul e
product_kind k.Slash op e = op_same op o.Div e
product_kind k.Percent op e = op_same op o.Rem e
product_kind _ op e = absurd (cc)

sum_kind : (kd : Kind) (op : Op) → sum_op kd ≡ Some op → kd ≡ kind_of_op op
sum_kind k.Plus op e = op_same op o.Add e
sum_kind k.Minus op e = op_same op o.Sub e
sum_kind _ op e = absurd (cc)

comparison_kind : (kd : Kind) (op : Op) → comparison_op kd ≡ Some op → kd ≡ kind_of_op op
comparison_kind k.Equal op e = op_same op o.Equal e
comparison_kind k.NotEqual op e = op_same op o.NotEqual e
comparison_kind k.Less op e = op_same op o.Less e
comparison_kind k.LessEqual op e = op_same op o.AtMost e
comparison_kind k.Greater op e = op_same op o.More e
comparison_kind k.GreaterEqual op e = op_same op o.AtLeast e
comparison_kind _ op e = absurd (cc)

pub record OpBack (f : Kind → Option Op) (op : Op) (t : Lexeme) : Type 0 where
  pub reads : f (kind_of_op op) ≡ Some op
  pub stands : Stands t (mark_word (kind_of_op op))

op_back : (f : Kind → Option Op) → ((kd : Kind) (op : Op) → f kd ≡ Some op → kd ≡ kind_of_op op) → (op : Op) (t : Lexeme) → f t.kind ≡ Some op → OpBack f op t
op_back f is op t e =
    let h : t.kind ≡ kind_of_op op = is t.kind op e in
    record { reads = ap f (sym h) ∙ e; stands = mark_stands (kind_of_op op) (fine_op op) t h }

pub product_op_back : (op : Op) (t : Lexeme) → product_op t.kind ≡ Some op → OpBack product_op op t
product_op_back = op_back product_op product_kind

pub sum_op_back : (op : Op) (t : Lexeme) → sum_op t.kind ≡ Some op → OpBack sum_op op t
sum_op_back = op_back sum_op sum_kind

pub comparison_op_back : (op : Op) (t : Lexeme) → comparison_op t.kind ≡ Some op → OpBack comparison_op op t
comparison_op_back = op_back comparison_op comparison_kind

fine_prefix : (op : PrefixOp) → Fine (mark_word (kind_of_prefix op))
fine_prefix po.Not = refl
fine_prefix po.Minus = refl

prefix_same : (op x : PrefixOp) → Some x ≡ Some op → kind_of_prefix x ≡ kind_of_prefix op
prefix_same op x e = let e' : x ≡ op = cc in ap kind_of_prefix e'

prefix_kind : (kd : Kind) (op : PrefixOp) → prefix_op kd ≡ Some op → kd ≡ kind_of_prefix op
prefix_kind k.Bang op e = prefix_same op po.Not e
prefix_kind k.Minus op e = prefix_same op po.Minus e
prefix_kind _ op e = absurd (cc)

pub record PrefixBack (op : PrefixOp) (t : Lexeme) : Type 0 where
  pub reads : prefix_op (kind_of_prefix op) ≡ Some op
  pub stands : Stands t (mark_word (kind_of_prefix op))

pub prefix_op_back : (op : PrefixOp) (t : Lexeme) → prefix_op t.kind ≡ Some op → PrefixBack op t
prefix_op_back op t e =
    let h : t.kind ≡ kind_of_prefix op = prefix_kind t.kind op e in
    record { reads = ap prefix_op (sym h) ∙ e; stands = mark_stands (kind_of_prefix op) (fine_prefix op) t h }

-- ---- line feeds

line_kind : (kd : Kind) → separates_statements kd ≡ true → kd ≡ k.Nl
line_kind k.Nl h = refl
line_kind _ h = absurd (cc)

pub line_stands : (t : Lexeme) → separates_statements t.kind ≡ true → Stands t (mark_word k.Nl)
line_stands t h = mark_stands k.Nl refl t (line_kind t.kind h)

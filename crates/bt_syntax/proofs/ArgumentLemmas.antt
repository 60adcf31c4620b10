-- Arguments are read rightly.
use Rattle.std.proofs.Common.{◌≡◌, ℕ, zero, suc, true, List, [], ◌∷◌, ◌++◌, Option, Some, None, inl, inr, refl, sym, ap, ◌∙◌, subst, append-nil, lit≤, pos}
use Rattle.bt_lexer.specs.declared.token.Kind.{Kind}
use Rattle.bt_lexer.specs.declared.token.Kind.TheVariants as kinds
use Rattle.bt_tree.specs.declared.tree.Query.{Query, out-Query}
use Rattle.bt_tree.specs.declared.tree.Query.TheOpen.{Query-F}
use Rattle.bt_tree.specs.declared.tree.Query.TheVariants as e
use Rattle.bt_tree.specs.declared.tree.Arg.{Arg}
use Rattle.bt_tree.specs.declared.tree.Arg.TheVariants as a
use Rattle.bt_syntax.specs.declared.keywords.Keyword.{Keyword}
use Rattle.bt_syntax.specs.declared.keywords.Keyword.TheVariants as w
use Rattle.bt_syntax.specs.Lexemes.{Lexeme, Lexemes, reserved, number}
use Rattle.bt_syntax.specs.Rules.{Listed, Behind, behind}
use Rattle.bt_syntax.specs.Grammar as g
use Rattle.bt_syntax.specs.Grammar.{is_free, token_head, head_in, reserved_head, word, IsMatch, IsIf, IsArg, AreArgs, IsHead, IsItem, IsUnary, IsProduct, IsSum, IsComparison, IsLogic, IsPlain, IsQuery, Nested}
use Rattle.bt_syntax.specs.Reading.{Reader}
use Rattle.bt_syntax.specs.Readers as r
use Rattle.bt_syntax.specs.Readers.{is, is_not, name_of, name_in, lambda_or, lambda_after}
use Rattle.bt_syntax.proofs.Lawful.{Stops, stops_wider, Lawful, Seq, Nil, Image, nothing, seq_lawful, map_lawful, same_lawful, pure_lawful}
use Rattle.bt_syntax.proofs.Branches.{Either, branch_lawful}
use Rattle.bt_syntax.proofs.Many.{Begins, begins_some}
use Rattle.bt_syntax.proofs.TokenLemmas.{kind_is, below, below_wider, ends_mark}
use Rattle.bt_syntax.proofs.Forms.{behind_lawful, behind_begins, bracketed_lawful}
use Rattle.bt_syntax.proofs.Lists.{listed_lawful}
use Rattle.bt_tree.proofs.Layers.{out-Null, out-True, out-False, out-Int, out-Quoted, out-This, out-Root, out-Name, out-Var, out-Metadata, out-Meta, out-Call, out-Paren, out-List, out-Object, out-Item, out-Prefix, out-Product, out-Sum, out-Compare, out-And, out-Or, out-Coalesce, out-Match, out-If}
use Rattle.bt_syntax.proofs.FirstTokens.{query_first, nested_begins, begins_wider, not_paren, head_is_query, free_first}

-- ---- a query that is a name is one token

-- the query is a name that one token says
record NameToken (q : Query) (u : Lexemes) (name : List ℕ) : Type 0 where
  t : Lexeme
  whole : u ≡ t ∷ []
  free : is_free t ≡ true
  says : name ≡ t.text

no_name : {P : Type 0} (q : Query) (x : Query-F Query) (name : List ℕ) → out-Query q ≡ x → name_in x ≡ None → name_of q ≡ Some name → P
no_name q x name o n e = absurd (let e' : None ≡ Some name = sym n ∙ ap name_in (sym o) ∙ e in cc)

reserved_no_name : (t : Lexeme) (o : Option Keyword) (q : Query) → reserved_head t o ≡ Some q → name_of q ≡ None
reserved_no_name t None q h = absurd (cc)
reserved_no_name t (Some w.Null) q h = let e : e.Null ≡ q = cc in ap name_of (sym e) ∙ ap name_in out-Null
reserved_no_name t (Some w.True) q h = let e : e.True ≡ q = cc in ap name_of (sym e) ∙ ap name_in out-True
reserved_no_name t (Some w.False) q h = let e : e.False ≡ q = cc in ap name_of (sym e) ∙ ap name_in out-False
reserved_no_name t (Some w.This) q h = let e : e.This ≡ q = cc in ap name_of (sym e) ∙ ap name_in out-This
reserved_no_name t (Some w.Root) q h = let e : e.Root t.at ≡ q = cc in ap name_of (sym e) ∙ ap name_in (out-Root t.at)
reserved_no_name t (Some _) q h = absurd (cc)

token_no_name : (kd : Kind) (t : Lexeme) (q : Query) → head_in kd t ≡ Some q → name_of q ≡ None
token_no_name kinds.Name t q h = reserved_no_name t (reserved t) q h
token_no_name kinds.Int t q h = let e : e.Int (pos (number t)) ≡ q = cc in ap name_of (sym e) ∙ ap name_in (out-Int (pos (number t)))
token_no_name kinds.Text t q h = let e : e.Quoted (word t) ≡ q = cc in ap name_of (sym e) ∙ ap name_in (out-Quoted (word t))
token_no_name kinds.Var t q h = let e : e.Var (word t) ≡ q = cc in ap name_of (sym e) ∙ ap name_in (out-Var (word t))
token_no_name _ t q h = absurd (cc)

module _ (I : Query → Lexemes → Type 0) where
  head_name : (q : Query) (u : Lexemes) (name : List ℕ) → IsHead I q u → name_of q ≡ Some name → NameToken q u name
  head_name _ _ name (g.IsHead.token {q} t h) e = absurd (let e' : None ≡ Some name = sym (token_no_name t.kind t q h) ∙ e in cc)
  head_name _ _ name (g.IsHead.name t h) e = (let e' : Some t.text ≡ Some name = sym (ap name_in (out-Name (word t))) ∙ e in record { t = t; whole = refl; free = h; says = cc })
  head_name _ _ name (g.IsHead.metadata t h) e = no_name _ _ name out-Metadata refl e
  head_name _ _ name (g.IsHead.meta_key {x} t t' h h') e = no_name _ _ name (out-Meta x) refl e
  head_name _ _ name (g.IsHead.call {xs} {u} t h s) e = no_name _ _ name (out-Call (word t) xs) refl e
  head_name _ _ name (g.IsHead.meta_call {xs} {u} t h s) e = no_name _ _ name (out-Call (word t) xs) refl e
  head_name _ _ name (g.IsHead.parens {q} {u} s) e = no_name _ _ name (out-Paren q) refl e
  head_name _ _ name (g.IsHead.«list» {qs} {u} s) e = no_name _ _ name (out-List qs) refl e
  head_name _ _ name (g.IsHead.object {xs} {u} s) e = no_name _ _ name (out-Object xs) refl e

  item_name : (q : Query) (u : Lexemes) (name : List ℕ) → IsItem I q u → name_of q ≡ Some name → NameToken q u name
  item_name q u name (g.head_alone s) e = head_name q u name s e
  item_name _ _ name (g.suffixed {q} {x} {xs} {u} {v} s m) e = no_name _ _ name (out-Item q (x ∷ xs)) refl e

  unary_name : (q : Query) (u : Lexemes) (name : List ℕ) → IsUnary I q u → name_of q ≡ Some name → NameToken q u name
  unary_name q u name (g.item_alone s) e = item_name q u name s e
  unary_name _ _ name (g.prefixed {q} {op} {u} t h s) e = no_name _ _ name (out-Prefix op q) refl e

  product_name : (q : Query) (u : Lexemes) (name : List ℕ) → IsProduct I q u → name_of q ≡ Some name → NameToken q u name
  product_name q u name (g.unary_alone s) e = unary_name q u name s e
  product_name _ _ name (g.multiplied {q} {x} {xs} {u} {v} s m) e = no_name _ _ name (out-Product q (x ∷ xs)) refl e

  sum_name : (q : Query) (u : Lexemes) (name : List ℕ) → IsSum I q u → name_of q ≡ Some name → NameToken q u name
  sum_name q u name (g.product_alone s) e = product_name q u name s e
  sum_name _ _ name (g.added {q} {x} {xs} {u} {v} s m) e = no_name _ _ name (out-Sum q (x ∷ xs)) refl e

  comparison_name : (q : Query) (u : Lexemes) (name : List ℕ) → IsComparison I q u → name_of q ≡ Some name → NameToken q u name
  comparison_name q u name (g.sum_alone s) e = sum_name q u name s e
  comparison_name _ _ name (g.compared {q} {r} {op} {u} {v} t s h m) e = no_name _ _ name (out-Compare q op r) refl e

  logic_name : (q : Query) (u : Lexemes) (name : List ℕ) → IsLogic I q u → name_of q ≡ Some name → NameToken q u name
  logic_name q u name (g.comparison_alone s) e = comparison_name q u name s e
  logic_name _ _ name (g.all_of {q} {r} {qs} {u} {v} s m) e = no_name _ _ name (out-And q (r ∷ qs)) refl e
  logic_name _ _ name (g.any_of {q} {r} {qs} {u} {v} s m) e = no_name _ _ name (out-Or q (r ∷ qs)) refl e

  plain_name : (q : Query) (u : Lexemes) (name : List ℕ) → IsPlain I q u → name_of q ≡ Some name → NameToken q u name
  plain_name q u name (g.logic s) e = logic_name q u name s e
  plain_name _ _ name (g.first_of {q} {r} {qs} {u} {v} s m) e = no_name _ _ name (out-Coalesce q (r ∷ qs)) refl e

  match_name : (q : Query) (u : Lexemes) (name : List ℕ) → IsMatch I q u → name_of q ≡ Some name → NameToken q u name
  match_name _ _ name (g.«match» {q} {xs} {u} {v} t h s s') e = no_name _ _ name (out-Match q xs) refl e

  if_name : (q : Query) (u : Lexemes) (name : List ℕ) → IsIf I q u → name_of q ≡ Some name → NameToken q u name
  if_name _ _ name (g.«if» {x} {xs} {q} {u} {v} t h s s') e = no_name _ _ name (out-If (x ∷ xs) q) refl e

  query_name : (q : Query) (u : Lexemes) (name : List ℕ) → IsQuery I q u → name_of q ≡ Some name → NameToken q u name
  query_name q u name (g.match_query s) e = match_name q u name s e
  query_name q u name (g.if_query s) e = if_name q u name s e
  query_name q u name (g.plain_query s) e = plain_name q u name s e

  name_query : (t : Lexeme) → is_free t ≡ true → IsQuery I (e.Name (word t)) (t ∷ [])
  name_query t h = g.plain_query (g.logic (g.comparison_alone (g.sum_alone (g.product_alone (g.unary_alone (g.item_alone (g.head_alone (g.IsHead.name t h))))))))

nested_name : (m : ℕ) (q : Query) (u : Lexemes) (name : List ℕ) → Nested m q u → name_of q ≡ Some name → NameToken q u name
nested_name zero q u name s e = absurd s
nested_name (suc m) q u name s e = query_name (Nested m) q u name s e

-- where any query can stand, a name can
name_nested : (m : ℕ) (q : Query) (u : Lexemes) → Nested m q u → (t : Lexeme) → is_free t ≡ true → Nested m (e.Name (word t)) (t ∷ [])
name_nested zero q u s t h = absurd s
name_nested (suc m) q u s t h = name_query (Nested m) t h

-- ---- arguments

module _ {fuel n : ℕ} {inner : Reader Query} (N : Lawful Query fuel n 0 0 (below 9) Nested inner) where
  LambdaTail : ℕ → Query → Option (List ℕ) → Arg Query → Lexemes → Type 0
  LambdaTail m q None = Nil (a.Query q)
  LambdaTail m q (Some name) = Either (is kinds.Arrow) (Image (a.Lambda name) (Behind kinds.Arrow Query (Nested m))) (Nil (a.Query q))

  lambda_lawful : (q : Query) (o : Option (List ℕ)) → Lawful (Arg Query) fuel n 0 0 (below 10) (λ m. LambdaTail m q o) (lambda_or inner q o)
  unfolding LambdaTail
  lambda_lawful q None = pure_lawful fuel n 0 (below 10) (a.Query q)
  lambda_lawful q (Some name) = branch_lawful (is kinds.Arrow)
      (map_lawful (below 10) (a.Lambda name) (behind_lawful kinds.Arrow (λ d. refl) N) (λ q t h. below_wider 9 10 (lit≤ tt) q q t h))
      (pure_lawful fuel n 0 (below 10) (a.Query q))
      (λ m b u (q', same, s) e. begins_some (is kinds.Arrow) u (behind_begins kinds.Arrow Query (Nested m) q' u s) e)
      (λ m b _ t h. ends_mark 10 kinds.Arrow refl b t h)
      (a.Query q, [], inr ((refl, refl), refl))

  ArgParts : ℕ → Arg Query → Lexemes → Type 0
  ArgParts m = Seq (Nested m) (λ q. LambdaTail m q (name_of q))

  lambda_follows : (m : ℕ) (q : Query) (o : Option (List ℕ)) (b : Arg Query) (v rest : Lexemes) → LambdaTail m q o b v → Stops (below 10 b) rest → Stops (below 9 q) (v ++ rest)
  unfolding LambdaTail
  lambda_follows m q None b v rest (same, e) s = rw e (stops_wider (below 9 q) (below 10 b) (below_wider 9 10 (lit≤ tt) q b) rest s)
  lambda_follows m q (Some name) b v rest (inl ((q', same, behind t h s'), _)) s = rw h refl
  lambda_follows m q (Some name) b v rest (inr ((same, e), _)) s = rw e (stops_wider (below 9 q) (below 10 b) (below_wider 9 10 (lit≤ tt) q b) rest s)

  lambda_made : (m : ℕ) (name : List ℕ) (b : Arg Query) (t arrow : Lexeme) (u v : Lexemes) (q : Query) → u ≡ t ∷ [] → is_free t ≡ true → name ≡ t.text → b ≡ a.Lambda name q → arrow.kind ≡ kinds.Arrow → Nested m q v →
      IsArg (Nested m) b (u ++ arrow ∷ v)
  lambda_made m name b t arrow u v q whole free says same h s = rw whole (rw same (rw says (g.lambda t arrow free h s)))

  arg_into : (m : ℕ) (q : Query) (o : Option (List ℕ)) (b : Arg Query) (u v : Lexemes) → name_of q ≡ o → Nested m q u → LambdaTail m q o b v → IsArg (Nested m) b (u ++ v)
  unfolding LambdaTail
  arg_into m q None b u v n s (same, e) = rw e (rw append-nil (rw same (g.plain_arg s)))
  arg_into m q (Some name) b u v n s (inl ((q', same, behind t h s'), _)) =
      let x = nested_name m q u name s n in
      lambda_made m name b x.t t u _ q' x.whole x.free x.says same h s'
  arg_into m q (Some name) b u v n s (inr ((same, e), _)) = rw e (rw append-nil (rw same (g.plain_arg s)))

  plain_tail : (m : ℕ) (q : Query) (o : Option (List ℕ)) → LambdaTail m q o (a.Query q) []
  unfolding LambdaTail
  plain_tail m q None = (refl, refl)
  plain_tail m q (Some name) = inr ((refl, refl), refl)

  arg_from : (m : ℕ) (b : Arg Query) (w : Lexemes) → IsArg (Nested m) b w → ArgParts m b w
  unfolding LambdaTail ArgParts
  arg_from m _ _ (g.plain_arg {q} {u} s) = (q, u, [], simp append-nil, s, plain_tail m q (name_of q))
  arg_from m _ _ (g.lambda {q} {u} t arrow h h' s) =
      let n : name_of (e.Name (word t)) ≡ Some t.text = ap name_in (out-Name (word t)) in (
        e.Name (word t),
        t ∷ [],
        arrow ∷ u,
        refl,
        name_nested m q u s t h,
        subst (λ o. LambdaTail m (e.Name (word t)) o (a.Lambda t.text q) (arrow ∷ u)) (sym n) (inl ((q, refl, behind arrow h' s), kind_is kinds.Arrow arrow h')),
      )

  pub arg_lawful : Lawful (Arg Query) fuel n 0 0 (below 10) (λ m. IsArg (Nested m)) (r.arg inner)
  unfolding r.arg ArgParts
  arg_lawful = same_lawful (seq_lawful {S = λ m q. LambdaTail m q (name_of q)} N (λ q. lambda_lawful q (name_of q)) (λ m q b v rest t s. lambda_follows m q (name_of q) b v rest t s))
      (λ m. IsArg (Nested m))
      (λ m b w (q, u, v, e, s, t). rw e (arg_into m q (name_of q) b u v refl s t)) arg_from

  arg_begins : (m : ℕ) (x : Arg Query) (u : Lexemes) → IsArg (Nested m) x u → Begins (is_not kinds.RightParen) u
  arg_begins m _ _ (g.plain_arg {q} {u} s) = begins_wider query_first (is_not kinds.RightParen) not_paren u (nested_begins m q u s)
  arg_begins m _ _ (g.lambda {q} {u} t arrow h h' s) = (t, arrow ∷ u, refl, not_paren t (head_is_query t (free_first t h)))

  pub args_inside_lawful : Lawful (List (Arg Query)) fuel n 0 0 (λ _. is_not kinds.RightParen) (λ m. Listed (Arg Query) (IsArg (Nested m))) (r.args_inside inner)
  unfolding r.args_inside
  args_inside_lawful = listed_lawful 10 kinds.RightParen arg_lawful (lit≤ tt) arg_begins refl refl

  pub args_lawful : Lawful (List (Arg Query)) (suc fuel) n 0 0 nothing (λ m. AreArgs (Nested m)) (r.args inner)
  unfolding r.args
  args_lawful = bracketed_lawful kinds.LeftParen kinds.RightParen args_inside_lawful refl refl refl (λ b t h. rw h refl)

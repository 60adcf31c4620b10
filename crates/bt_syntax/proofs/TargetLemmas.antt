-- A first statement begins as a query does: `root` and keys.
use Rattle.std.proofs.Common.{◌≡◌, ℕ, List, [], ◌∷◌, ◌++◌, Option, Some, None, refl, sym, ap, ◌∙◌, subst, pos}
use Rattle.bt_lexer.specs.declared.token.Kind.{Kind}
use Rattle.bt_lexer.specs.declared.token.Kind.TheVariants as kinds
use Rattle.bt_syntax.specs.declared.keywords.Keyword.{Keyword}
use Rattle.bt_syntax.specs.declared.keywords.Keyword.TheVariants as w
use Rattle.bt_tree.specs.declared.tree.Key.{Key}
use Rattle.bt_tree.specs.declared.tree.Key.TheVariants as key
use Rattle.bt_tree.specs.declared.tree.Query.{Query, out-Query}
use Rattle.bt_tree.specs.declared.tree.Query.TheOpen.{Query-F}
use Rattle.bt_tree.specs.declared.tree.Query.TheVariants as node
use Rattle.bt_tree.specs.declared.tree.Suffix.{Suffix}
use Rattle.bt_tree.specs.declared.tree.Suffix.TheVariants as s
use Rattle.bt_syntax.specs.Lexemes.{Lexeme, Lexemes, reserved, number}
use Rattle.bt_syntax.specs.Rules.{Repeated, none, more, Behind, behind}
use Rattle.bt_syntax.specs.Grammar as g
use Rattle.bt_syntax.specs.Grammar.{IsReserved, word, key_of, key_in, segment_of, segment_in, head_in, token_head, reserved_head, IsKey, AreKeys, IsHead, IsSuffix, IsItem, IsUnary, IsProduct, IsSum, IsComparison, IsLogic, IsPlain, IsMatch, IsIf, IsQuery}
use Rattle.bt_syntax.specs.Readers.{root_in, root_of, target_keys, key_and, target_from, target_in, target_of}
use Rattle.bt_syntax.proofs.TokenLemmas.{word_kind}
use Rattle.bt_tree.proofs.Layers.{out-Null, out-True, out-False, out-Int, out-Quoted, out-This, out-Root, out-Name, out-Var, out-Metadata, out-Meta, out-Call, out-Paren, out-List, out-Object, out-Item, out-Prefix, out-Product, out-Sum, out-Compare, out-And, out-Or, out-Coalesce, out-Match, out-If}

-- the tokens are `root` at a place, and keys behind it
pub record Target (at : ℕ) (xs : List Key) (u : Lexemes) : Type 0 where
  pub t : Lexeme
  pub v : Lexemes
  pub whole : u ≡ t ∷ v
  pub reads_root : IsReserved w.Root t
  pub place : at ≡ t.at
  pub reads_keys : Repeated Key (Behind kinds.Dot Key IsKey) xs v

-- ---- a query that is `root` is one token

no_root : {P : Type 0} (q : Query) (x : Query-F Query) (at : ℕ) → out-Query q ≡ x → root_in x ≡ None → root_of q ≡ Some at → P
no_root q x at o n e = absurd (let e' : None ≡ Some at = sym n ∙ ap root_in (sym o) ∙ e in cc)

same_root : (q p : Query) (at : ℕ) → Some q ≡ Some p → root_of p ≡ Some at → root_of q ≡ Some at
same_root q p at h e = let e' : q ≡ p = cc in subst (λ y. root_of y ≡ Some at) (sym e') e

record RootToken (t : Lexeme) (at : ℕ) : Type 0 where
  is_root : IsReserved w.Root t
  place : at ≡ t.at

reserved_root : (t : Lexeme) (o : Option Keyword) (q : Query) (at : ℕ) → reserved t ≡ o → reserved_head t o ≡ Some q → root_of q ≡ Some at → RootToken t at
reserved_root t None q at o h e = absurd (cc)
reserved_root t (Some w.Null) q at o h e = no_root node.Null _ at out-Null refl (same_root node.Null q at h e)
reserved_root t (Some w.True) q at o h e = no_root node.True _ at out-True refl (same_root node.True q at h e)
reserved_root t (Some w.False) q at o h e = no_root node.False _ at out-False refl (same_root node.False q at h e)
reserved_root t (Some w.This) q at o h e = no_root node.This _ at out-This refl (same_root node.This q at h e)
reserved_root t (Some w.Root) q at o h e =
    let e' : Some t.at ≡ Some at = sym (ap root_in (out-Root t.at)) ∙ same_root (node.Root t.at) q at h e in
    record { is_root = o; place = cc }
reserved_root t (Some _) q at o h e = absurd (cc)

token_root : (kd : Kind) (t : Lexeme) (q : Query) (at : ℕ) → t.kind ≡ kd → head_in kd t ≡ Some q → root_of q ≡ Some at → RootToken t at
token_root kinds.Name t q at k h e = reserved_root t (reserved t) q at refl h e
token_root kinds.Int t q at k h e = no_root (node.Int (pos (number t))) _ at (out-Int (pos (number t))) refl (same_root (node.Int (pos (number t))) q at h e)
token_root kinds.Text t q at k h e = no_root (node.Quoted (word t)) _ at (out-Quoted (word t)) refl (same_root (node.Quoted (word t)) q at h e)
token_root kinds.Var t q at k h e = no_root (node.Var (word t)) _ at (out-Var (word t)) refl (same_root (node.Var (word t)) q at h e)
token_root _ t q at k h e = absurd (cc)

-- ---- what is a target isn't anything else

no_target : {P : Type 0} (q : Query) (x : Query-F Query) (p : ℕ × List Key) → out-Query q ≡ x → target_in x ≡ None → target_of q ≡ Some p → P
no_target q x p o n e = absurd (let e' : None ≡ Some p = sym n ∙ ap target_in (sym o) ∙ e in cc)

same_target : (q y : Query) (p : ℕ × List Key) → Some q ≡ Some y → target_of y ≡ Some p → target_of q ≡ Some p
same_target q y p h e = let e' : q ≡ y = cc in subst (λ z. target_of z ≡ Some p) (sym e') e

root_target : (t : Lexeme) (p : ℕ × List Key) → IsReserved w.Root t → target_of (node.Root t.at) ≡ Some p → Target (p.0) (p.1) (t ∷ [])
root_target t p h e =
    let e' : Some (t.at, []) ≡ Some p = sym (ap target_in (out-Root t.at)) ∙ e in
    let e'' : (t.at, []) ≡ p = cc in
    record { t = t; v = []; whole = refl; reads_root = h; place = ap (λ y. y.0) (sym e''); reads_keys = subst (λ y. Repeated Key (Behind kinds.Dot Key IsKey) y []) (ap (λ y. y.1) e'') none }

reserved_target : (t : Lexeme) (o : Option Keyword) (q : Query) (p : ℕ × List Key) → reserved t ≡ o → reserved_head t o ≡ Some q → target_of q ≡ Some p → Target (p.0) (p.1) (t ∷ [])
reserved_target t None q p o h e = absurd (cc)
reserved_target t (Some w.Null) q p o h e = no_target node.Null _ p out-Null refl (same_target node.Null q p h e)
reserved_target t (Some w.True) q p o h e = no_target node.True _ p out-True refl (same_target node.True q p h e)
reserved_target t (Some w.False) q p o h e = no_target node.False _ p out-False refl (same_target node.False q p h e)
reserved_target t (Some w.This) q p o h e = no_target node.This _ p out-This refl (same_target node.This q p h e)
reserved_target t (Some w.Root) q p o h e = root_target t p o (same_target (node.Root t.at) q p h e)
reserved_target t (Some _) q p o h e = absurd (cc)

token_target : (kd : Kind) (t : Lexeme) (q : Query) (p : ℕ × List Key) → head_in kd t ≡ Some q → target_of q ≡ Some p → Target (p.0) (p.1) (t ∷ [])
token_target kinds.Name t q p h e = reserved_target t (reserved t) q p refl h e
token_target kinds.Int t q p h e = no_target (node.Int (pos (number t))) _ p (out-Int (pos (number t))) refl (same_target (node.Int (pos (number t))) q p h e)
token_target kinds.Text t q p h e = no_target (node.Quoted (word t)) _ p (out-Quoted (word t)) refl (same_target (node.Quoted (word t)) q p h e)
token_target kinds.Var t q p h e = no_target (node.Var (word t)) _ p (out-Var (word t)) refl (same_target (node.Var (word t)) q p h e)
token_target _ t q p h e = absurd (cc)

-- ---- keys and suffixes

-- the first suffix says a key, and the others say the keys behind it
record FirstKey (x : Suffix Query) (rest : List (Suffix Query)) (xs : List Key) (u : Lexemes) : Type 0 where
  first : Key
  others : List Key
  same : xs ≡ first ∷ others
  keys : target_keys rest ≡ Some others
  reads : Behind kinds.Dot Key IsKey first u

key_and_some : (x : Key) (o : Option (List Key)) (xs : List Key) → key_and x o ≡ Some xs → (ys : List Key) × (o ≡ Some ys) × (xs ≡ x ∷ ys)
key_and_some x None xs h = absurd (cc)
key_and_some x (Some ys) xs h = (ys, refl, cc)

first_key : (x : Suffix Query) (k : Key) (rest : List (Suffix Query)) (xs : List Key) (dot t : Lexeme) → target_keys (x ∷ rest) ≡ key_and k (target_keys rest) → target_keys (x ∷ rest) ≡ Some xs →
    dot.kind ≡ kinds.Dot → key_of t ≡ Some k → FirstKey x rest xs (dot ∷ t ∷ [])
first_key x k rest xs dot t step h d says =
    (let (ys, e, e') = key_and_some k (target_keys rest) xs (sym step ∙ h) in
    record { first = k; others = ys; same = e'; keys = e; reads = behind dot d (t, refl, says) })

name_key : (kd : Kind) (t : Lexeme) (u : List ℕ) → segment_in kd t ≡ Some (s.Name u) → key_in kd t.text ≡ Some (key.Name u)
name_key kinds.Name t u h = (let e : t.text ≡ u = cc in ap (λ y. Some (key.Name y)) e)
name_key kinds.Text t u h = absurd (cc)
name_key kinds.Int t u h = absurd (cc)
name_key _ t u h = absurd (cc)

text_key : (kd : Kind) (t : Lexeme) (u : List ℕ) → segment_in kd t ≡ Some (s.Quoted u) → key_in kd t.text ≡ Some (key.Quoted u)
text_key kinds.Text t u h = (let e : t.text ≡ u = cc in ap (λ y. Some (key.Quoted y)) e)
text_key kinds.Name t u h = absurd (cc)
text_key kinds.Int t u h = absurd (cc)
text_key _ t u h = absurd (cc)

segment_first : (x : Suffix Query) (rest : List (Suffix Query)) (xs : List Key) (dot t : Lexeme) → target_keys (x ∷ rest) ≡ Some xs → dot.kind ≡ kinds.Dot → segment_of t ≡ Some x → FirstKey x rest xs (dot ∷ t ∷ [])
segment_first (s.Name u) rest xs dot t h d says = first_key (s.Name u) (key.Name u) rest xs dot t refl h d (name_key t.kind t u says)
segment_first (s.Quoted u) rest xs dot t h d says = first_key (s.Quoted u) (key.Quoted u) rest xs dot t refl h d (text_key t.kind t u says)
segment_first (s.Int z) rest xs dot t h d says = absurd (cc)
segment_first (s.Method x ys) rest xs dot t h d says = absurd (cc)
segment_first (s.Within y) rest xs dot t h d says = absurd (cc)

segment_of_key : (kd : Kind) (t : Lexeme) (k : Key) → key_in kd t.text ≡ Some k → (x : Suffix Query) × (segment_in kd t ≡ Some x) × ((rest : List (Suffix Query)) → target_keys (x ∷ rest) ≡ key_and k (target_keys rest))
segment_of_key kinds.Name t k h = (let e : key.Name t.text ≡ k = cc in (s.Name t.text, refl, λ rest. ap (λ y. key_and y (target_keys rest)) e))
segment_of_key kinds.Text t k h = (let e : key.Quoted t.text ≡ k = cc in (s.Quoted t.text, refl, λ rest. ap (λ y. key_and y (target_keys rest)) e))
segment_of_key _ t k h = absurd (cc)

module _ (I : Query → Lexemes → Type 0) where
  suffix_first : (x : Suffix Query) (u : Lexemes) (rest : List (Suffix Query)) (xs : List Key) → IsSuffix I x u → target_keys (x ∷ rest) ≡ Some xs → FirstKey x rest xs u
  suffix_first _ _ rest xs (g.segment {x} dot t d says) h = segment_first x rest xs dot t h d says
  suffix_first _ _ rest xs (g.method {xs = ys} {u} dot t d h' s) h = absurd (cc)
  suffix_first _ _ rest xs (g.within {x} {u} dot d s) h = absurd (cc)

  suffix_keys : (ys : List (Suffix Query)) (v : Lexemes) (xs : List Key) → Repeated (Suffix Query) (IsSuffix I) ys v → target_keys ys ≡ Some xs → Repeated Key (Behind kinds.Dot Key IsKey) xs v
  suffix_keys _ _ xs none h = (let e : [] ≡ xs = cc in subst (λ y. Repeated Key (Behind kinds.Dot Key IsKey) y []) e none)
  suffix_keys _ _ xs (more {a = x} {rest} {u} {v} s m) h =
      (let f = suffix_first x u rest xs s h in
      subst (λ y. Repeated Key (Behind kinds.Dot Key IsKey) y (u ++ v)) (sym f.same) (more f.reads (suffix_keys rest v f.others m f.keys)))

  -- ---- from a query to its target

  head_root : (q : Query) (u : Lexemes) (at : ℕ) → IsHead I q u → root_of q ≡ Some at → (t : Lexeme) × (u ≡ t ∷ []) × RootToken t at
  head_root _ _ at (g.IsHead.token {q} t h) e = (t, refl, token_root t.kind t q at refl h e)
  head_root _ _ at (g.IsHead.name t h) e = no_root _ _ at (out-Name (word t)) refl e
  head_root _ _ at (g.IsHead.metadata t h) e = no_root _ _ at out-Metadata refl e
  head_root _ _ at (g.IsHead.meta_key {x} t t' h h') e = no_root _ _ at (out-Meta x) refl e
  head_root _ _ at (g.IsHead.call {xs} {u} t h s) e = no_root _ _ at (out-Call (word t) xs) refl e
  head_root _ _ at (g.IsHead.meta_call {xs} {u} t h s) e = no_root _ _ at (out-Call (word t) xs) refl e
  head_root _ _ at (g.IsHead.parens {q} {u} s) e = no_root _ _ at (out-Paren q) refl e
  head_root _ _ at (g.IsHead.«list» {qs} {u} s) e = no_root _ _ at (out-List qs) refl e
  head_root _ _ at (g.IsHead.object {xs} {u} s) e = no_root _ _ at (out-Object xs) refl e

  head_target : (q : Query) (u : Lexemes) (p : ℕ × List Key) → IsHead I q u → target_of q ≡ Some p → Target (p.0) (p.1) u
  head_target _ _ p (g.IsHead.token {q} t h) e = token_target t.kind t q p h e
  head_target _ _ p (g.IsHead.name t h) e = no_target _ _ p (out-Name (word t)) refl e
  head_target _ _ p (g.IsHead.metadata t h) e = no_target _ _ p out-Metadata refl e
  head_target _ _ p (g.IsHead.meta_key {x} t t' h h') e = no_target _ _ p (out-Meta x) refl e
  head_target _ _ p (g.IsHead.call {xs} {u} t h s) e = no_target _ _ p (out-Call (word t) xs) refl e
  head_target _ _ p (g.IsHead.meta_call {xs} {u} t h s) e = no_target _ _ p (out-Call (word t) xs) refl e
  head_target _ _ p (g.IsHead.parens {q} {u} s) e = no_target _ _ p (out-Paren q) refl e
  head_target _ _ p (g.IsHead.«list» {qs} {u} s) e = no_target _ _ p (out-List qs) refl e
  head_target _ _ p (g.IsHead.object {xs} {u} s) e = no_target _ _ p (out-Object xs) refl e

  from_some : (o : Option ℕ) (o' : Option (List Key)) (p : ℕ × List Key) → target_from o o' ≡ Some p → (o ≡ Some (p.0)) × (o' ≡ Some (p.1))
  from_some (Some at) (Some xs) p h = (let e : (at, xs) ≡ p = cc in (ap (λ y. Some (y.0)) e, ap (λ y. Some (y.1)) e))
  from_some (Some at) None p h = absurd (cc)
  from_some None o' p h = absurd (cc)

  suffixed_target : (q : Query) (ys : List (Suffix Query)) (u v : Lexemes) (p : ℕ × List Key) → IsHead I q u → Repeated (Suffix Query) (IsSuffix I) ys v → target_of (node.Item q ys) ≡ Some p → Target (p.0) (p.1) (u ++ v)
  suffixed_target q ys u v p s m e =
      (let (e1, e2) = from_some (root_of q) (target_keys ys) p (sym (ap target_in (out-Item q ys)) ∙ e) in
      let (t, whole, root) = head_root q u (p.0) s e1 in
      record { t = t; v = v; whole = ap (λ y. y ++ v) whole; reads_root = root.is_root; place = root.place; reads_keys = suffix_keys ys v (p.1) m e2 })

  item_target : (q : Query) (u : Lexemes) (p : ℕ × List Key) → IsItem I q u → target_of q ≡ Some p → Target (p.0) (p.1) u
  item_target q u p (g.head_alone s) e = head_target q u p s e
  item_target _ _ p (g.suffixed {q} {x} {xs} {u} {v} s m) e = suffixed_target q (x ∷ xs) u v p s m e

  unary_target : (q : Query) (u : Lexemes) (p : ℕ × List Key) → IsUnary I q u → target_of q ≡ Some p → Target (p.0) (p.1) u
  unary_target q u p (g.item_alone s) e = item_target q u p s e
  unary_target _ _ p (g.prefixed {q} {op} {u} t h s) e = no_target _ _ p (out-Prefix op q) refl e

  product_target : (q : Query) (u : Lexemes) (p : ℕ × List Key) → IsProduct I q u → target_of q ≡ Some p → Target (p.0) (p.1) u
  product_target q u p (g.unary_alone s) e = unary_target q u p s e
  product_target _ _ p (g.multiplied {q} {x} {xs} {u} {v} s m) e = no_target _ _ p (out-Product q (x ∷ xs)) refl e

  sum_target : (q : Query) (u : Lexemes) (p : ℕ × List Key) → IsSum I q u → target_of q ≡ Some p → Target (p.0) (p.1) u
  sum_target q u p (g.product_alone s) e = product_target q u p s e
  sum_target _ _ p (g.added {q} {x} {xs} {u} {v} s m) e = no_target _ _ p (out-Sum q (x ∷ xs)) refl e

  comparison_target : (q : Query) (u : Lexemes) (p : ℕ × List Key) → IsComparison I q u → target_of q ≡ Some p → Target (p.0) (p.1) u
  comparison_target q u p (g.sum_alone s) e = sum_target q u p s e
  comparison_target _ _ p (g.compared {q} {r} {op} {u} {v} t s h m) e = no_target _ _ p (out-Compare q op r) refl e

  logic_target : (q : Query) (u : Lexemes) (p : ℕ × List Key) → IsLogic I q u → target_of q ≡ Some p → Target (p.0) (p.1) u
  logic_target q u p (g.comparison_alone s) e = comparison_target q u p s e
  logic_target _ _ p (g.all_of {q} {r} {qs} {u} {v} s m) e = no_target _ _ p (out-And q (r ∷ qs)) refl e
  logic_target _ _ p (g.any_of {q} {r} {qs} {u} {v} s m) e = no_target _ _ p (out-Or q (r ∷ qs)) refl e

  plain_target : (q : Query) (u : Lexemes) (p : ℕ × List Key) → IsPlain I q u → target_of q ≡ Some p → Target (p.0) (p.1) u
  plain_target q u p (g.logic s) e = logic_target q u p s e
  plain_target _ _ p (g.first_of {q} {r} {qs} {u} {v} s m) e = no_target _ _ p (out-Coalesce q (r ∷ qs)) refl e

  match_target : (q : Query) (u : Lexemes) (p : ℕ × List Key) → IsMatch I q u → target_of q ≡ Some p → Target (p.0) (p.1) u
  match_target _ _ p (g.«match» {q} {xs} {u} {v} t h s s') e = no_target _ _ p (out-Match q xs) refl e

  if_target : (q : Query) (u : Lexemes) (p : ℕ × List Key) → IsIf I q u → target_of q ≡ Some p → Target (p.0) (p.1) u
  if_target _ _ p (g.«if» {x} {xs} {q} {u} {v} t h s s') e = no_target _ _ p (out-If (x ∷ xs) q) refl e

  pub query_target : (q : Query) (u : Lexemes) (p : ℕ × List Key) → IsQuery I q u → target_of q ≡ Some p → Target (p.0) (p.1) u
  query_target q u p (g.match_query s) e = match_target q u p s e
  query_target q u p (g.if_query s) e = if_target q u p s e
  query_target q u p (g.plain_query s) e = plain_target q u p s e

  -- ---- and back

  key_suffix : (k : Key) (u : Lexemes) → Behind kinds.Dot Key IsKey k u → (x : Suffix Query) × IsSuffix I x u × ((rest : List (Suffix Query)) → target_keys (x ∷ rest) ≡ key_and k (target_keys rest))
  key_suffix _ _ (behind {a = k} {u} dot d (t, e, h)) = (let (x, says, step) = segment_of_key t.kind t k h in (x, rw e (g.segment dot t d says), step))

  keys_suffixes : (xs : List Key) (v : Lexemes) → Repeated Key (Behind kinds.Dot Key IsKey) xs v → (ys : List (Suffix Query)) × Repeated (Suffix Query) (IsSuffix I) ys v × (target_keys ys ≡ Some xs)
  keys_suffixes _ _ none = ([], none, refl)
  keys_suffixes _ _ (more {a = k} {rest} {u} {v} s m) =
      (let (x, s', step) = key_suffix k u s in
      let (ys, m', e) = keys_suffixes rest v m in
      (x ∷ ys, more s' m', step ys ∙ ap (key_and k) e))

  item_query : (q : Query) (u : Lexemes) → IsItem I q u → IsQuery I q u
  item_query q u s = g.plain_query (g.logic (g.comparison_alone (g.sum_alone (g.product_alone (g.unary_alone (g.item_alone s))))))

  root_head : (t : Lexeme) → IsReserved w.Root t → IsHead I (node.Root t.at) (t ∷ [])
  root_head t h = g.IsHead.token t (ap (λ y. head_in y t) (word_kind w.Root t h) ∙ ap (reserved_head t) h)

  root_query : (t : Lexeme) (xs : List Key) (ys : List (Suffix Query)) (v : Lexemes) → IsReserved w.Root t → Repeated (Suffix Query) (IsSuffix I) ys v → target_keys ys ≡ Some xs →
      (q : Query) × IsQuery I q (t ∷ v) × (target_of q ≡ Some (t.at, xs))
  root_query t xs _ _ h none e = (let e' : [] ≡ xs = cc in (node.Root t.at, item_query _ _ (g.head_alone (root_head t h)), ap target_in (out-Root t.at) ∙ ap (λ y. Some (t.at, y)) e'))
  root_query t xs _ _ h (more {a = x} {rest} {u} {v} s m) e = (
    node.Item (node.Root t.at) (x ∷ rest),
    item_query _ _ (g.suffixed (root_head t h) (more s m)),
    ap target_in (out-Item (node.Root t.at) (x ∷ rest)) ∙ ap (λ y. target_from y (target_keys (x ∷ rest))) (ap root_in (out-Root t.at)) ∙ ap (target_from (Some t.at)) e,
  )

  pub target_query : (t : Lexeme) (xs : List Key) (v : Lexemes) → IsReserved w.Root t → Repeated Key (Behind kinds.Dot Key IsKey) xs v → (q : Query) × IsQuery I q (t ∷ v) × (target_of q ≡ Some (t.at, xs))
  target_query t xs v h s = (let (ys, m, e) = keys_suffixes xs v s in root_query t xs ys v h m e)

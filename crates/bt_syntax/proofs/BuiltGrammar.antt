-- A text of the form that is run so far is read by the grammar as the same mapping.
use Rattle.std.proofs.Common.{◌≡◌, true, ℕ, suc, pos, List, [], ◌∷◌, ◌++◌, map, codes, Option, Some, None, refl, sym, ap, ◌∙◌, subst, append-nil, slice_range}
use Rattle.bt_lexer.specs.Lines.{HasTokens}
use Rattle.bt_lexer.specs.Places.{line_of}
use Rattle.bt_lexer.specs.Strings.{text_value}
use Rattle.bt_lexer.specs.declared.token.Kind.{Kind}
use Rattle.bt_lexer.specs.declared.token.Kind.TheVariants as kinds
use Rattle.bt_lexer.specs.declared.token.Token.{Token}
use Rattle.bt_value.specs.Keys.{find}
use Rattle.bt_syntax.specs.declared.keywords.Keyword.{Keyword}
use Rattle.bt_syntax.specs.declared.keywords.Keyword.TheVariants as w
use Rattle.bt_tree.specs.declared.tree.Mapping.{Mapping}
use Rattle.bt_tree.specs.declared.tree.Query.{Query}
use Rattle.bt_tree.specs.declared.tree.Query.TheVariants as e
use Rattle.bt_tree.specs.declared.tree.Suffix.{Suffix}
use Rattle.bt_tree.specs.declared.tree.Suffix.TheVariants as x
use Rattle.bt_syntax.specs.Built.{AreSteps, BuiltReading, IsName, ReadsQuery, assignment, bytes_of, path}
use Rattle.bt_syntax.specs.Built as built
use Rattle.bt_syntax.specs.Grammar as g
use Rattle.bt_syntax.specs.Grammar.{IsHead, IsItem, IsQuery, IsReserved, IsSuffix, Nested, ReadsMapping, head_in, reserved_head, reserved_query, segment_in, word}
use Rattle.bt_syntax.specs.Keywords.{keywords}
use Rattle.bt_syntax.specs.Lexemes.{Lexeme, Lexemes, lexeme, lexemes, reserved, reserved_in, says}
use Rattle.bt_syntax.specs.Rules as rule
use Rattle.bt_syntax.specs.Rules.{Repeated}
use Rattle.std.specs.List.{list_all}
use Rattle.bt_lexer.specs.Bytes.{quote}
use Rattle.bt_lexer.specs.Strings.{is_plain}
use Rattle.bt_lexer.proofs.SpellingLemmas.{spelled_text}
use Rattle.bt_syntax.proofs.BuiltLemmas.{plain_spells}

-- what a text without escapes stands for
quoted_value : (v : List ℕ) → list_all is_plain v ≡ true → text_value (quote ∷ (v ++ quote ∷ [])) ≡ v
quoted_value v plain = (spelled_text v v (plain_spells v plain)).1

module _ (s : List ℕ) where
  name-reserved : (t : Token) (name : List ℕ) (word : Keyword) → IsName s t name → find name keywords ≡ Some word → reserved (lexeme s t) ≡ Some word
  unfolding reserved
  name-reserved t name word is found =
      ap (λ (k : Kind). reserved_in k (says k (bytes_of s t))) is.kind ∙ ap (λ (u : List ℕ). find u keywords) is.bytes ∙ found

  -- a head of one reserved name
  name-head : (t : Token) (name : List ℕ) (word : Keyword) (q : Query) → IsName s t name → find name keywords ≡ Some word → reserved_query (lexeme s t) word ≡ Some q → IsHead (Nested 1) q (lexeme s t ∷ [])
  name-head t name word q is found gives =
      g.token (lexeme s t) (ap (λ (k : Kind). head_in k (lexeme s t)) is.kind ∙ ap (reserved_head (lexeme s t)) (name-reserved t name word is found) ∙ gives)

  item-query : (q : Query) (u : Lexemes) → IsItem (Nested 1) q u → IsQuery (Nested 1) q u
  item-query q u item = g.plain_query (g.logic (g.comparison_alone (g.sum_alone (g.product_alone (g.unary_alone (g.item_alone item))))))

  -- names behind dots
  steps : (ts : List Token) (names : List (List ℕ)) → AreSteps s ts names → Repeated (Suffix Query) (IsSuffix (Nested 1)) (map x.Name names) (lexemes s ts)
  steps _ _ built.none = rule.none
  steps _ _ (built.step {ts} {names} dot name dot_is name_is rest) =
      rule.more (g.segment (lexeme s dot) (lexeme s name) dot_is
      (ap (λ (k : Kind). segment_in k (record { kind = k; text = says k (bytes_of s name); at = name.from; line = line_of s name.from })) name_is)) (steps ts names rest)

  -- a path from `this`
  path-query : (t : Token) (ts : List Token) (names : List (List ℕ)) → IsName s t (codes "this") → AreSteps s ts names → IsQuery (Nested 1) (path names) (lexemes s (t ∷ ts))
  path-query t _ _ is built.none = item-query _ _ (g.head_alone (name-head t (codes "this") w.This e.This is refl refl))
  path-query t _ _ is (built.step {ts} {names} dot name dot_is name_is rest) =
      item-query _ _ (g.suffixed (name-head t (codes "this") w.This e.This is refl refl) (steps (dot ∷ name ∷ ts) (bytes_of s name ∷ names) (built.step dot name dot_is name_is rest)))

  value-query : (ts : List Token) (q : Query) → ReadsQuery s ts q → IsQuery (Nested 1) q (lexemes s ts)
  value-query _ _ (built.null t is) = item-query _ _ (g.head_alone (name-head t (codes "null") w.Null e.Null is refl refl))
  value-query _ _ (built.holds t is) = item-query _ _ (g.head_alone (name-head t (codes "true") w.True e.True is refl refl))
  value-query _ _ (built.fails t is) = item-query _ _ (g.head_alone (name-head t (codes "false") w.False e.False is refl refl))
  value-query _ _ (built.int t is) =
      item-query _ _ (g.head_alone (g.token (lexeme s t) (ap (λ (k : Kind). head_in k (record { kind = k; text = says k (bytes_of s t); at = t.from; line = line_of s t.from })) is)))
  value-query _ _ (built.text t v is bytes plain) =
      item-query _ _ (g.head_alone (g.token (lexeme s t)
      (ap (λ (k : Kind). head_in k (record { kind = k; text = says k (bytes_of s t); at = t.from; line = line_of s t.from })) is
      ∙ ap (λ (u : List ℕ). Some (e.Quoted (record { at = t.from; text = u }))) (ap text_value bytes ∙ quoted_value v plain))))
  value-query _ _ (built.this {ts} {names} t is rest) = path-query t ts names is rest

  pub built-reads : (m : Mapping) → BuiltReading s m → (ts : List Token) × HasTokens s ts × ReadsMapping m (lexemes s ts)
  built-reads m r =
      let assigned = rule.behind (lexeme s r.assign) r.assign_is (value-query r.value r.query r.reads) in
      let stmt = g.«root» (lexeme s r.root) (name-reserved r.root (codes "root") w.Root r.root_is refl) rule.none assigned in (
        r.root ∷ r.assign ∷ r.value,
        r.tokens,
        (1, subst (λ (y : Mapping). g.IsMapping (Nested 1) y (lexemes s (r.root ∷ r.assign ∷ r.value))) (sym r.gives) (g.statements (rule.single stmt))),
      )

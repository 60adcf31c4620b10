-- What is printed for a query is read back as the query without its places.
use Rattle.std.proofs.Common.{◌≡◌, ℕ, zero, suc, Bool, true, false, ◌||◌, is_some, List, [], ◌∷◌, ◌++◌, map, Option, refl, sym, ap, ◌∙◌, subst, append_assoc}
use Rattle.bt_lexer.specs.declared.token.Kind.TheVariants as k
use Rattle.bt_syntax.specs.declared.keywords.Keyword.TheVariants as w
use Rattle.bt_tree.specs.declared.tree.Query.{Query}
use Rattle.bt_tree.specs.declared.tree.Suffix.{Suffix}
use Rattle.bt_tree.specs.declared.tree.Suffix.TheVariants as s
use Rattle.bt_tree.specs.declared.tree.Arg.{Arg}
use Rattle.bt_tree.specs.declared.tree.Member.{Member}
use Rattle.bt_tree.specs.declared.tree.Term.{Term}
use Rattle.bt_tree.specs.declared.tree.Case.{Case}
use Rattle.bt_tree.specs.declared.tree.Branch.{Branch}
use Rattle.bt_syntax.specs.Lexemes.{Lexeme, Lexemes, reserved}
use Rattle.bt_tree.specs.Same.{word_erased, query_erased}
use Rattle.bt_syntax.specs.Rules as rule
use Rattle.bt_syntax.specs.Rules.{Repeated, Listed, Separated, Behind, Bracketed, Optional}
use Rattle.bt_syntax.specs.Grammar as g
use Rattle.bt_syntax.specs.Grammar.{word, prefix_op, begins, separates_cases, IsArg, IsMember, AreArgs, IsHead, IsSuffix, IsItem, IsUnary, IsFactor, IsProduct, IsTerm, IsSum, IsComparison, IsLogic, IsPlain, IsBlock, IsCase, IsSubject, IsMatch, IsBranch, AreElses, IsIf, IsQuery, Nested}
use Rattle.bt_syntax.proofs.FirstTokens.{head_first_in, plain_first, plain_begins}
use Rattle.bt_tree.specs.Parts.{in_member, in_term, in_case, in_branch, in_suffix, in_option, arg_erased, part_erased}
use Rattle.bt_words.specs.Printing as print
use Rattle.bt_words.specs.Printing.{Piece, Space, Line, Token, Pieces, words_of, placeless, mark_word, reserved_word, key_word, kind_of_op, kind_of_prefix, query}
use Rattle.bt_words.proofs.Keeping.{Kept, none, same, lost, parted, words_append, mark_stands, Back, Printable, moved, joined}
use Rattle.bt_words.proofs.RulesBack.{bracketed_back, repeated_back, behind_each_back, listed_back, separated_back, optional_back, led, block_back}
use Rattle.bt_words.proofs.TokensBack.{same_stands, spelled_reserved, word_stands, free_back, free_stands, reserved_name, key_back, token_back, segment_back, product_op_back, sum_op_back, comparison_op_back, prefix_op_back}
use Rattle.bt_syntax.proofs.TokenLemmas.{word_kind}
use Rattle.bt_tree.proofs.ErasedLayers.{erased-Name, erased-Metadata, erased-Meta, erased-Call, erased-Paren, erased-List, erased-Object, erased-Item, erased-Prefix, erased-Product, erased-Sum, erased-Compare, erased-And, erased-Or, erased-Coalesce, erased-Match, erased-If}
use Rattle.bt_words.proofs.PrintedLayers.{of_arg, of_args, of_member, of_suffix, of_term, of_case, of_others, of_last, args_fused, printed-Name, printed-Metadata, printed-Meta, printed-Call, printed-Paren, printed-List, printed-Object, printed-Item, printed-Prefix, printed-Product, printed-Sum, printed-Compare, printed-And, printed-Or, printed-Coalesce, printed-Match, printed-If}

-- a front that has no words
fronted : {A : Type 0} {R : A → Lexemes → Type 0} {x : A} {u : Lexemes} {p : Pieces} (q : Pieces) → words_of q ≡ [] → Back A R x u p → Back A R x u (q ++ p)
fronted {R} {x} {u} {p} q h b =
    let same_words : words_of (q ++ p) ≡ words_of p = words_append q p ∙ ap (λ v. v ++ words_of p) h in
    record { reads = subst (R x) (sym same_words) b.reads; kept = subst (Kept u) (sym same_words) b.kept }

gap_words : (b c : Bool) → words_of (print.gap_between b c) ≡ []
gap_words true true = refl
gap_words true false = refl
gap_words false c = refl

-- a plain query begins with no comma
no_comma : (t : Lexeme) → t.kind ≡ k.Comma → plain_first t ≡ true → ⊥
no_comma t h e = let e' : plain_first t ≡ false = ap (λ kd. head_first_in kd (reserved t) || is_some (prefix_op kd)) h in cc

brace_kept : (u v : Lexemes) → Kept u v → (t : Lexeme) (r : Lexemes) → u ≡ t ∷ r → plain_first t ≡ true → begins k.LeftBrace v → begins k.LeftBrace u
brace_kept _ _ none t r e f h = h
brace_kept _ _ (same t' x st c) t r e f h = sym st.kind ∙ h
brace_kept _ _ (lost t' l c) t r e f h = let h' : t' ≡ t = cc in absurd (no_comma t (ap (λ y. y.kind) (sym h') ∙ l) f)
brace_kept _ _ (parted t' l c) t r e f h = absurd (cc)

module _ (I : Query → Lexemes → Type 0) (H : Printable Query I query_erased query) where
  -- ---- arguments

  arg_back : Printable (Arg Query) (IsArg I) arg_erased of_arg
  arg_back _ _ (g.plain_arg {q} {u} r) = let b = H q u r in record { reads = g.plain_arg b.reads; kept = b.kept }
  arg_back _ _ (g.lambda {q} {u} name arrow free h r) =
      let b = H q u r in
      record {
        reads = g.lambda (placeless k.Name name.text) (mark_word k.Arrow) (free_back name free) refl b.reads;
        kept = same name (placeless k.Name name.text) (free_stands name free) (same arrow (mark_word k.Arrow) (mark_stands k.Arrow refl arrow h) b.kept);
      }

  args_back : Printable (List (Arg Query)) (AreArgs I) (map arg_erased) of_args
  args_back _ _ (rule.bracketed {a = xs} {u} t t' h r h') = bracketed_back k.LeftParen k.RightParen refl refl t t' h h' (listed_back arg_back xs u r)

  -- ---- heads

  member_back : Printable (Member Query) (IsMember I) (in_member query_erased) of_member
  member_back _ _ (g.member {q} {u} text colon h h' r) =
      let b = H q u r in
      record {
        reads = g.member (placeless k.Text text.text) (mark_word k.Colon) refl refl b.reads;
        kept = same text (placeless k.Text text.text) (same_stands k.Text text h) (same colon (mark_word k.Colon) (mark_stands k.Colon refl colon h') b.kept);
      }

  head_back : Printable Query (IsHead I) query_erased query
  head_back q _ (g.token t h) = token_back I t q h
  head_back _ _ (g.name t free) =
      moved (erased-Name (word t)) (printed-Name (word t)) (record { reads = g.name (placeless k.Name t.text) (free_back t free); kept = same t (placeless k.Name t.text) (free_stands t free) none })
  head_back _ _ (g.metadata t h) = moved erased-Metadata printed-Metadata (record { reads = g.metadata (mark_word k.At) refl; kept = same t (mark_word k.At) (mark_stands k.At refl t h) none })
  head_back _ _ (g.meta_key {x} t t' h h') =
      let b = key_back x t' h' in
      moved (erased-Meta x) (printed-Meta x) (record { reads = g.meta_key (mark_word k.At) (key_word x) refl b.reads; kept = same t (mark_word k.At) (mark_stands k.At refl t h) (same t' (key_word x) b.stands none) })
  head_back _ _ (g.call {xs} {u} t free r) =
      let b = args_back xs u r in
      moved (erased-Call (word t) xs) (printed-Call (word t) xs) (record { reads = g.call (placeless k.Name t.text) (free_back t free) b.reads; kept = same t (placeless k.Name t.text) (free_stands t free) b.kept })
  head_back _ _ (g.meta_call {xs} {u} t h r) =
      let b = args_back xs u r in
      moved (erased-Call (word t) xs) (printed-Call (word t) xs)
      (record { reads = g.meta_call (placeless k.Name t.text) (reserved_name w.Meta t h) b.reads; kept = same t (placeless k.Name t.text) (same_stands k.Name t (word_kind w.Meta t h)) b.kept })
  head_back _ _ (g.parens (rule.bracketed {a = q} {u} t t' h r h')) =
      let b = bracketed_back k.LeftParen k.RightParen refl refl t t' h h' (H q u r) in
      moved (erased-Paren q) (printed-Paren q) (record { reads = g.parens b.reads; kept = b.kept })
  head_back _ _ (g.«list» (rule.bracketed {a = qs} {u} t t' h r h')) =
      let b = bracketed_back k.LeftBracket k.RightBracket refl refl t t' h h' (listed_back H qs u r) in
      moved (erased-List qs) (printed-List qs) (record { reads = g.«list» b.reads; kept = b.kept })
  head_back _ _ (g.object (rule.bracketed {a = xs} {u} t t' h r h')) =
      let b = bracketed_back k.LeftBrace k.RightBrace refl refl t t' h h' (listed_back member_back xs u r) in
      moved (erased-Object xs) (printed-Object xs) (record { reads = g.object b.reads; kept = b.kept })

  -- ---- suffixes

  suffix_back : Printable (Suffix Query) (IsSuffix I) part_erased of_suffix
  suffix_back x _ (g.segment dot t h h') = segment_back I dot t x h h'
  suffix_back _ _ (g.method {xs} {u} dot t h free r) =
      let b = args_back xs u r in
      moved {R = IsSuffix I} {a = s.Method (word_erased (word t)) (map arg_erased xs)} refl (ap (λ p. print.mark k.Dot ∷ print.name t.text ∷ p) (args_fused xs))
      (record {
        reads = g.method (mark_word k.Dot) (placeless k.Name t.text) refl (free_back t free) b.reads;
        kept = same dot (mark_word k.Dot) (mark_stands k.Dot refl dot h) (same t (placeless k.Name t.text) (free_stands t free) b.kept);
      })
  suffix_back _ _ (g.within dot h (rule.bracketed {a = x} {u} t t' h' r h'')) =
      let b = bracketed_back k.LeftParen k.RightParen refl refl t t' h' h'' (arg_back x u r) in
      record { reads = g.within (mark_word k.Dot) refl b.reads; kept = same dot (mark_word k.Dot) (mark_stands k.Dot refl dot h) b.kept }

  -- ---- operators

  item_back : Printable Query (IsItem I) query_erased query
  item_back _ _ (g.head_alone {q} {u} r) = let b = head_back q u r in record { reads = g.head_alone b.reads; kept = b.kept }
  item_back _ _ (g.suffixed {q} {x} {xs} {u} {v} r rs) =
      let b = head_back q u r in
      let gap = print.gap_between (print.begins_with_digit (print.text_of (query q))) (print.begins_with_int (map (in_suffix query) (x ∷ xs))) in
      let c = fronted gap (gap_words (print.begins_with_digit (print.text_of (query q))) (print.begins_with_int (map (in_suffix query) (x ∷ xs)))) (repeated_back suffix_back (x ∷ xs) v rs) in
      moved (erased-Item q (x ∷ xs)) (printed-Item q (x ∷ xs)) (joined (query q) (gap ++ print.all_of (map of_suffix (x ∷ xs))) (g.suffixed b.reads c.reads) b.kept c.kept)

  unary_back : Printable Query (IsUnary I) query_erased query
  unary_back _ _ (g.item_alone {q} {u} r) = let b = item_back q u r in record { reads = g.item_alone b.reads; kept = b.kept }
  unary_back _ _ (g.prefixed {q} {op} {u} t h r) =
      let b = item_back q u r in let p = prefix_op_back op t h in
      moved (erased-Prefix op q) (printed-Prefix op q) (record { reads = g.prefixed (mark_word (kind_of_prefix op)) p.reads b.reads; kept = same t (mark_word (kind_of_prefix op)) p.stands b.kept })

  factor_back : Printable (Term Query) (IsFactor I) (in_term query_erased) of_term
  factor_back _ _ (g.factor {q} {op} {u} t h r) =
      let b = unary_back q u r in let p = product_op_back op t h in
      record { reads = g.factor (mark_word (kind_of_op op)) p.reads b.reads; kept = same t (mark_word (kind_of_op op)) p.stands b.kept }

  product_back : Printable Query (IsProduct I) query_erased query
  product_back _ _ (g.unary_alone {q} {u} r) = let b = unary_back q u r in record { reads = g.unary_alone b.reads; kept = b.kept }
  product_back _ _ (g.multiplied {q} {x} {xs} {u} {v} r rs) =
      let b = unary_back q u r in let c = repeated_back factor_back (x ∷ xs) v rs in
      moved (erased-Product q (x ∷ xs)) (printed-Product q (x ∷ xs)) (joined (query q) (print.all_of (map of_term (x ∷ xs))) (g.multiplied b.reads c.reads) b.kept c.kept)

  term_back : Printable (Term Query) (IsTerm I) (in_term query_erased) of_term
  term_back _ _ (g.term {q} {op} {u} t h r) =
      let b = product_back q u r in let p = sum_op_back op t h in
      record { reads = g.term (mark_word (kind_of_op op)) p.reads b.reads; kept = same t (mark_word (kind_of_op op)) p.stands b.kept }

  sum_back : Printable Query (IsSum I) query_erased query
  sum_back _ _ (g.product_alone {q} {u} r) = let b = product_back q u r in record { reads = g.product_alone b.reads; kept = b.kept }
  sum_back _ _ (g.added {q} {x} {xs} {u} {v} r rs) =
      let b = product_back q u r in let c = repeated_back term_back (x ∷ xs) v rs in
      moved (erased-Sum q (x ∷ xs)) (printed-Sum q (x ∷ xs)) (joined (query q) (print.all_of (map of_term (x ∷ xs))) (g.added b.reads c.reads) b.kept c.kept)

  comparison_back : Printable Query (IsComparison I) query_erased query
  comparison_back _ _ (g.sum_alone {q} {u} r) = let b = sum_back q u r in record { reads = g.sum_alone b.reads; kept = b.kept }
  comparison_back _ _ (g.compared {q} {r = q'} {op} {u} {v} t r h r') =
      let b = sum_back q u r in let c = sum_back q' v r' in let p = comparison_op_back op t h in
      moved (erased-Compare q op q') (printed-Compare q op q')
      (joined (query q) (print.spaced (kind_of_op op) ++ query q') (g.compared (mark_word (kind_of_op op)) b.reads p.reads c.reads) b.kept (same t (mark_word (kind_of_op op)) p.stands c.kept))

  logic_back : Printable Query (IsLogic I) query_erased query
  logic_back _ _ (g.comparison_alone {q} {u} r) = let b = comparison_back q u r in record { reads = g.comparison_alone b.reads; kept = b.kept }
  logic_back _ _ (g.all_of {q} {r = p} {qs} {u} {v} r rs) =
      let b = comparison_back q u r in let c = behind_each_back comparison_back k.And refl (p ∷ qs) v rs in
      moved (erased-And q (p ∷ qs)) (printed-And q (p ∷ qs)) (joined (query q) (print.behind_each (print.spaced k.And) (map query (p ∷ qs))) (g.all_of b.reads c.reads) b.kept c.kept)
  logic_back _ _ (g.any_of {q} {r = p} {qs} {u} {v} r rs) =
      let b = comparison_back q u r in let c = behind_each_back comparison_back k.Or refl (p ∷ qs) v rs in
      moved (erased-Or q (p ∷ qs)) (printed-Or q (p ∷ qs)) (joined (query q) (print.behind_each (print.spaced k.Or) (map query (p ∷ qs))) (g.any_of b.reads c.reads) b.kept c.kept)

  plain_back : Printable Query (IsPlain I) query_erased query
  plain_back _ _ (g.logic {q} {u} r) = let b = logic_back q u r in record { reads = g.logic b.reads; kept = b.kept }
  plain_back _ _ (g.first_of {q} {r = p} {qs} {u} {v} r rs) =
      let b = unary_back q u r in let c = behind_each_back unary_back k.Pipe refl (p ∷ qs) v rs in
      moved (erased-Coalesce q (p ∷ qs)) (printed-Coalesce q (p ∷ qs)) (joined (query q) (print.behind_each (print.spaced k.Pipe) (map query (p ∷ qs))) (g.first_of b.reads c.reads) b.kept c.kept)

  -- ---- match and if

  case_back : Printable (Case Query) (IsCase I) (in_case query_erased) of_case
  case_back _ _ (g.any {q} {u} t arrow h h' r) =
      let b = H q u r in
      record {
        reads = g.any (reserved_word w.Underscore) (mark_word k.FatArrow) (spelled_reserved w.Underscore) refl b.reads;
        kept = same t (reserved_word w.Underscore) (word_stands w.Underscore t h) (same arrow (mark_word k.FatArrow) (mark_stands k.FatArrow refl arrow h') b.kept);
      }
  case_back _ _ (g.when {p} {q} {u} {v} arrow r h r') =
      let b = H p u r in let c = H q v r' in
      joined (query p) (print.spaced k.FatArrow ++ query q) (g.when (mark_word k.FatArrow) b.reads refl c.reads) b.kept (same arrow (mark_word k.FatArrow) (mark_stands k.FatArrow refl arrow h) c.kept)

  subject_back : Printable Query (IsSubject I) query_erased query
  subject_back q u r =
      let b = plain_back q u r.reads in
      let (t, v, e, f) = plain_begins I q u r.reads in
      record { reads = record { reads = b.reads; no_brace = λ h. r.no_brace (brace_kept u (words_of (query q)) b.kept t v e f h) }; kept = b.kept }

  match_back : Printable Query (IsMatch I) query_erased query
  match_back _ _ (g.«match» {q} {xs} {u} t h r (rule.bracketed {u = v} t' t'' h' r' h'')) =
      let b = optional_back subject_back q u r in
      let c = block_back t' t'' h' h'' (separated_back case_back separates_cases print.comma (mark_word k.Comma) (λ p. refl) refl (λ x i y z c. parted x i c) xs v r') in
      moved (erased-Match q xs) (printed-Match q xs)
      (led t (reserved_word w.Match) (word_stands w.Match t h)
      (joined (print.subject (in_option query q)) (print.block (print.between print.comma (map of_case xs))) (g.«match» (reserved_word w.Match) (spelled_reserved w.Match) b.reads c.reads) b.kept c.kept))

  abbrev tested : Branch Query → Pieces
  tested x = query x.test ++ print.block (query x.gives)

  branch_back : Printable (Branch Query) (IsBranch I) (in_branch query_erased) tested
  branch_back _ _ (g.branch {p} {q} {u} r (rule.bracketed {u = v} t t' h r' h')) =
      let b = plain_back p u r in let c = block_back t t' h h' (H q v r') in
      joined (query p) (print.block (query q)) (g.branch b.reads c.reads) b.kept c.kept

  elses_back : (xs : List (Branch Query)) (q : Option Query) (u : Lexemes) → AreElses I xs q u →
      Back (Option Query) (AreElses I (map (in_branch query_erased) xs)) (in_option query_erased q) u (of_others xs ++ of_last q)
  elses_back _ _ _ g.no_else = record { reads = g.no_else; kept = none }
  elses_back _ _ _ (g.else_if {x} {xs} {q} {u} {v} t t' h h' r rs) =
      let b = branch_back x u r in let c = elses_back xs q v rs in
      let both = joined {R = λ y z. AreElses I (map (in_branch query_erased) (x ∷ xs)) y (reserved_word w.Else ∷ reserved_word w.If ∷ z)} (tested x) (of_others xs ++ of_last q)
      (g.else_if (reserved_word w.Else) (reserved_word w.If) (spelled_reserved w.Else) (spelled_reserved w.If) b.reads c.reads) b.kept c.kept in
      moved {R = AreElses I (map (in_branch query_erased) (x ∷ xs))} refl (ap (λ p. Space ∷ print.keyword w.Else ∷ Space ∷ print.keyword w.If ∷ Space ∷ p) (append_assoc (tested x) (of_others xs) (of_last q)))
      (record { reads = both.reads; kept = same t (reserved_word w.Else) (word_stands w.Else t h) (same t' (reserved_word w.If) (word_stands w.If t' h') both.kept) })
  elses_back _ _ _ (g.else_last {q} t h (rule.bracketed {u = v} t' t'' h' r h'')) =
      let c = block_back t' t'' h' h'' (H q v r) in
      record { reads = g.else_last (reserved_word w.Else) (spelled_reserved w.Else) c.reads; kept = same t (reserved_word w.Else) (word_stands w.Else t h) c.kept }

  if_back : Printable Query (IsIf I) query_erased query
  if_back _ _ (g.«if» {x} {xs} {q} {u} {v} t h r rs) =
      let b = branch_back x u r in let c = elses_back xs q v rs in
      let both = joined {R = λ y z. IsIf I y (reserved_word w.If ∷ z)} (tested x) (of_others xs ++ of_last q) (g.«if» (reserved_word w.If) (spelled_reserved w.If) b.reads c.reads) b.kept c.kept in
      moved (erased-If (x ∷ xs) q) (printed-If (x ∷ xs) q) (record { reads = both.reads; kept = same t (reserved_word w.If) (word_stands w.If t h) both.kept })

  pub query_back : Printable Query (IsQuery I) query_erased query
  query_back _ _ (g.match_query {q} {u} r) = let b = match_back q u r in record { reads = g.match_query b.reads; kept = b.kept }
  query_back _ _ (g.if_query {q} {u} r) = let b = if_back q u r in record { reads = g.if_query b.reads; kept = b.kept }
  query_back _ _ (g.plain_query {q} {u} r) = let b = plain_back q u r in record { reads = g.plain_query b.reads; kept = b.kept }

pub nested_back : (n : ℕ) → Printable Query (Nested n) query_erased query
nested_back zero q u r = absurd r
nested_back (suc n) q u r = let b = query_back (Nested n) (nested_back n) q u r in record { reads = b.reads; kept = b.kept }

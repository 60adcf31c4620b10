-- Worked examples: where lists of tokens go wrong, what they are read as, and folds over the tree.
-- A token's place is its number here.
use Rattle.std.proofs.Common.{◌≡◌, ℕ, suc, ℤ, pos, ◌+ℤ◌, List, [], ◌∷◌, Option, Some, None, codes, refl, ap, sym, ◌∙◌}
use Rattle.bt_lexer.specs.declared.token.Kind.{Kind}
use Rattle.bt_lexer.specs.declared.token.Kind.TheVariants as k
use Rattle.bt_value.specs.declared.names.Op.TheVariants as op
use Rattle.bt_value.specs.declared.names.PrefixOp.TheVariants as po
use Rattle.bt_tree.specs.declared.tree.Key.TheVariants as key
use denote.Hole.Carrier.{out, shown, hidden}
use Rattle.bt_tree.specs.declared.tree.Query.TheBlock as block
use Rattle.bt_tree.specs.declared.tree.Query.{Query, fold-Query, out-Query}
use Rattle.bt_tree.specs.declared.tree.Query.TheFolds.{fold-roll-Query}
use Rattle.bt_tree.specs.declared.tree.Query.TheVariants as e
use Rattle.bt_tree.specs.declared.tree.Query.TheOpen.{Query-F}
use Rattle.bt_tree.specs.declared.tree.Word.{Word}
use Rattle.bt_tree.specs.declared.tree.Term.{Term}
use Rattle.bt_tree.specs.declared.tree.Suffix.TheVariants as s
use Rattle.bt_tree.specs.declared.tree.Arg.TheVariants as a
use Rattle.bt_tree.specs.declared.tree.Case.TheVariants as case
use Rattle.bt_tree.specs.declared.tree.Stmt.TheVariants as st
use Rattle.bt_tree.specs.declared.tree.Mapping.{Mapping}
use Rattle.bt_tree.specs.declared.tree.Mapping.TheVariants as m
use Rattle.bt_syntax.specs.Lexemes.{Lexemes, reserved}
use Rattle.bt_syntax.specs.Reading.{Res, Got, Stuck, Deep}
use Rattle.bt_syntax.specs.Readers as r
use Rattle.bt_tree.specs.Same.{erase_step, query_erased, IsSame}

answer : Lexemes → Res Mapping
unfolding out-Query out shown hidden block.shown-the_row-Query-1 block.shown-the_row-Query-Item-1-13-4 reserved r.expect r.expect_reserved r.key r.arg r.args_inside r.args r.parens r.items_inside r.list_head r.member r.members_inside r.object_head r.metadata r.named r.meta_call r.token_alone r.head r.within r.named_suffix r.after_dot r.suffix r.suffixes r.item r.prefixed r.unary r.factor r.factors r.product r.term r.terms r.sum r.compared r.comparison r.ands r.ors r.logic r.pipes r.plain r.any_case r.when_case r.one_case r.cases r.subject r.match_query r.block r.tested r.if_tested r.else_turn r.elses r.if_query r.query_by r.query r.keys r.optional_key r.map_root r.map_let r.map_stmt r.map_body r.assigned r.root_stmt r.meta_stmt r.let_stmt r.map_definition r.stmt r.more_stmts r.statements r.assigned_first r.query_first r.draft r.mapping_by r.mapping
answer ts = r.mapping 64 ts

abbrev word : List ℕ → Kind × List ℕ
word u = (k.Name, u)

abbrev mark : Kind → Kind × List ℕ
mark kd = (kd, [])

abbrev numbered : ℕ → List (Kind × List ℕ) → Lexemes
numbered n [] = []
numbered n (x ∷ xs) = record { kind = x.0; text = x.1; at = n; line = 1 } ∷ numbered (suc n) xs

abbrev first_of : Lexemes → Option ℕ
first_of [] = None
first_of (t ∷ ts) = Some t.at

-- the first bad token, and none where the tokens only stop too soon
abbrev bad : Res Mapping → Option ℕ
bad (Got x rest) = first_of rest
bad (Stuck rest) = first_of rest
bad Deep = None

-- `root = a | b + c`: at the `+`
mixed_operators : bad (answer (numbered 0 (word (codes "root") ∷ mark k.Assign ∷ word (codes "a") ∷ mark k.Pipe ∷ word (codes "b") ∷ mark k.Plus ∷ word (codes "c") ∷ []))) ≡ Some 5
unfolding answer
mixed_operators = refl

-- `a && b || c`: at the `||`
mixed_logic : bad (answer (numbered 0 (word (codes "a") ∷ mark k.And ∷ word (codes "b") ∷ mark k.Or ∷ word (codes "c") ∷ []))) ≡ Some 3
unfolding answer
mixed_logic = refl

-- `root = this . a == 1 == 2`: at the second `==`
compared_twice : bad (answer (numbered 0 (word (codes "root") ∷ mark k.Assign ∷ word (codes "this") ∷ mark k.Dot ∷ word (codes "a") ∷ mark k.Equal ∷ (k.Int, codes "1") ∷ mark k.Equal ∷ (k.Int, codes "2") ∷ []))) ≡ Some 7
unfolding answer
compared_twice = refl

-- `match { "a" : 1 } { _ => 1 }`: at the `:`, since `{` opens cases
braces_behind_match : bad (answer (numbered 0 (word (codes "match") ∷ mark k.LeftBrace ∷ (k.Text, codes "a") ∷ mark k.Colon ∷ (k.Int, codes "1") ∷ mark k.RightBrace ∷ mark k.LeftBrace ∷ word (codes "_") ∷ mark k.FatArrow ∷ (k.Int, codes "1") ∷ mark k.RightBrace ∷ []))) ≡ Some 3
unfolding answer
braces_behind_match = refl

-- `root . a . 1 = 2`: at the `=`
number_in_target : bad (answer (numbered 0 (word (codes "root") ∷ mark k.Dot ∷ word (codes "a") ∷ mark k.Dot ∷ (k.Int, codes "1") ∷ mark k.Assign ∷ (k.Int, codes "2") ∷ []))) ≡ Some 5
unfolding answer
number_in_target = refl

-- `root . a . 1 LF x`: at the line feed
query_then_line : bad (answer (numbered 0 (word (codes "root") ∷ mark k.Dot ∷ word (codes "a") ∷ mark k.Dot ∷ (k.Int, codes "1") ∷ mark k.Nl ∷ word (codes "x") ∷ []))) ≡ Some 5
unfolding answer
query_then_line = refl

-- `meta ( "a" ) = 1`: at the `=`
call_of_meta : bad (answer (numbered 0 (word (codes "meta") ∷ mark k.LeftParen ∷ (k.Text, codes "a") ∷ mark k.RightParen ∷ mark k.Assign ∷ (k.Int, codes "1") ∷ []))) ≡ Some 4
unfolding answer
call_of_meta = refl

-- `let x`: the tokens only stop too soon
let_alone : bad (answer (numbered 0 (word (codes "let") ∷ word (codes "x") ∷ []))) ≡ None
unfolding answer
let_alone = refl

-- `root = -`: the tokens only stop too soon
minus_alone : bad (answer (numbered 0 (word (codes "root") ∷ mark k.Assign ∷ mark k.Minus ∷ []))) ≡ None
unfolding answer
minus_alone = refl

-- `x -> y`: at the `->`
lambda_alone : bad (answer (numbered 0 (word (codes "x") ∷ mark k.Arrow ∷ word (codes "y") ∷ []))) ≡ Some 1
unfolding answer
lambda_alone = refl

-- `{ "a" 1 }`: at the number
member_without_colon : bad (answer (numbered 0 (mark k.LeftBrace ∷ (k.Text, codes "a") ∷ (k.Int, codes "1") ∷ mark k.RightBrace ∷ []))) ≡ Some 2
unfolding answer
member_without_colon = refl

-- `a . b ( c -> )`: at the `)`
lambda_without_query : bad (answer (numbered 0 (word (codes "a") ∷ mark k.Dot ∷ word (codes "b") ∷ mark k.LeftParen ∷ word (codes "c") ∷ mark k.Arrow ∷ mark k.RightParen ∷ []))) ≡ Some 6
unfolding answer
lambda_without_query = refl

-- `a . b ( this -> 1 )`: at the `->`
reserved_lambda : bad (answer (numbered 0 (word (codes "a") ∷ mark k.Dot ∷ word (codes "b") ∷ mark k.LeftParen ∷ word (codes "this") ∷ mark k.Arrow ∷ (k.Int, codes "1") ∷ mark k.RightParen ∷ []))) ≡ Some 5
unfolding answer
reserved_lambda = refl

-- `root = a LF this`: at `this`
line_without_statement : bad (answer (numbered 0 (word (codes "root") ∷ mark k.Assign ∷ word (codes "a") ∷ mark k.Nl ∷ word (codes "this") ∷ []))) ≡ Some 4
unfolding answer
line_without_statement = refl

-- `this . map ( a )`: at the `(`
reserved_method : bad (answer (numbered 0 (word (codes "this") ∷ mark k.Dot ∷ word (codes "map") ∷ mark k.LeftParen ∷ word (codes "a") ∷ mark k.RightParen ∷ []))) ≡ Some 3
unfolding answer
reserved_method = refl

-- `match a { b => c , }`: at the `}`
trailing_comma_of_cases : bad (answer (numbered 0 (word (codes "match") ∷ word (codes "a") ∷ mark k.LeftBrace ∷ word (codes "b") ∷ mark k.FatArrow ∷ word (codes "c") ∷ mark k.Comma ∷ mark k.RightBrace ∷ []))) ≡ Some 7
unfolding answer
trailing_comma_of_cases = refl

-- `! ! a`: at the second `!`
two_prefixes : bad (answer (numbered 0 (mark k.Bang ∷ mark k.Bang ∷ word (codes "a") ∷ []))) ≡ Some 1
unfolding answer
two_prefixes = refl

-- ---- what is read

-- `root.a = f(x -> x, 1,).b | !"t"`, on line 1
assigned : answer (numbered 0 (word (codes "root") ∷ mark k.Dot ∷ word (codes "a") ∷ mark k.Assign ∷ word (codes "f") ∷ mark k.LeftParen ∷ word (codes "x") ∷ mark k.Arrow ∷ word (codes "x") ∷ mark k.Comma ∷ (k.Int, codes "1") ∷ mark k.Comma ∷ mark k.RightParen ∷ mark k.Dot ∷ word (codes "b") ∷ mark k.Pipe ∷ mark k.Bang ∷ (k.Text, codes "t") ∷ []))
    ≡ Got (m.Statements (st.Root 0 1 (key.Name (codes "a") ∷ [])
    (e.Coalesce
    (e.Item (e.Call (record { at = 4; text = codes "f" }) (a.Lambda (codes "x") (e.Name (record { at = 8; text = codes "x" })) ∷ a.Query (e.Int (pos 1)) ∷ [])) (s.Name (codes "b") ∷ []))
    (e.Prefix po.Not (e.Quoted (record { at = 17; text = codes "t" })) ∷ [])) ∷ [])) []
unfolding answer
assigned = refl

-- `if a { match b { _ => 1 } } else if c { 2 } else { [@, @k] }`
conditions : answer (numbered 0 (word (codes "if") ∷ word (codes "a") ∷ mark k.LeftBrace ∷ word (codes "match") ∷ word (codes "b") ∷ mark k.LeftBrace ∷ word (codes "_") ∷ mark k.FatArrow ∷ (k.Int, codes "1") ∷ mark k.RightBrace ∷ mark k.RightBrace ∷ word (codes "else") ∷ word (codes "if") ∷ word (codes "c") ∷ mark k.LeftBrace ∷ (k.Int, codes "2") ∷ mark k.RightBrace ∷ word (codes "else") ∷ mark k.LeftBrace ∷ mark k.LeftBracket ∷ mark k.At ∷ mark k.Comma ∷ mark k.At ∷ word (codes "k") ∷ mark k.RightBracket ∷ mark k.RightBrace ∷ []))
    ≡ Got (m.Query 1
    (e.If
    (record { test = e.Name (record { at = 1; text = codes "a" }); gives = e.Match (Some (e.Name (record { at = 4; text = codes "b" }))) (case.Any (e.Int (pos 1)) ∷ []) }
    ∷ record { test = e.Name (record { at = 13; text = codes "c" }); gives = e.Int (pos 2) } ∷ [])
    (Some (e.List (e.Metadata ∷ e.Meta (key.Name (codes "k")) ∷ []))))) []
unfolding answer
conditions = refl

-- ---- folds over the tree

-- the number that whole numbers, parentheses and sums of them mean
both : Option ℤ → Option ℤ → Option ℤ
both None o = None
both (Some z) None = None
both (Some z) (Some y) = Some (z +ℤ y)

abbrev added : Option ℤ → List (Term (Option ℤ)) → Option ℤ
added o [] = o
added o (x ∷ xs) = added (both o x.query) xs

abbrev total_step : Query-F (Option ℤ) → Option ℤ
total_step (Query-F.Int z) = Some z
total_step (Query-F.Paren o) = o
total_step (Query-F.Sum o xs) = added o xs
total_step _ = None

abbrev total : Query → Option ℤ
total = fold-Query (Option ℤ) total_step

total_int : (z : ℤ) → total (e.Int z) ≡ Some z
total_int z = ap total (sym (e.rolls-Int z)) ∙ fold-roll-Query (Option ℤ) total_step (Query-F.Int z)

total_paren : (q : Query) → total (e.Paren q) ≡ total q
total_paren q = ap total (sym (e.rolls-Paren q)) ∙ fold-roll-Query (Option ℤ) total_step (Query-F.Paren q)

total_sum : (q p : Query) → total (e.Sum q (record { op = op.Add; query = p } ∷ [])) ≡ both (total q) (total p)
total_sum q p = ap total (sym (e.rolls-Sum q (record { op = op.Add; query = p } ∷ []))) ∙ fold-roll-Query (Option ℤ) total_step (Query-F.Sum q (record { op = op.Add; query = p } ∷ []))

-- `1 + (2)`
three : total (e.Sum (e.Int (pos 1)) (record { op = op.Add; query = e.Paren (e.Int (pos 2)) } ∷ [])) ≡ Some (pos 3)
unfolding both
three = total_sum (e.Int (pos 1)) (e.Paren (e.Int (pos 2))) ∙ ap (λ o. both o (total (e.Paren (e.Int (pos 2))))) (total_int (pos 1)) ∙ ap (both (Some (pos 1))) (total_paren (e.Int (pos 2)) ∙ total_int (pos 2))

-- two mappings that differ in places and lines alone are the same
erased_paren : (q : Query) → query_erased (e.Paren q) ≡ e.Paren (query_erased q)
erased_paren q = ap query_erased (sym (e.rolls-Paren q)) ∙ fold-roll-Query Query erase_step (Query-F.Paren q) ∙ e.rolls-Paren (query_erased q)

erased_name : (v : Word) → query_erased (e.Name v) ≡ e.Name (record { at = 0; text = v.text })
erased_name v = ap query_erased (sym (e.rolls-Name v)) ∙ fold-roll-Query Query erase_step (Query-F.Name v)

same_elsewhere : (line line' at at' : ℕ) (u : List ℕ) → IsSame (m.Query line (e.Paren (e.Name (record { at = at; text = u })))) (m.Query line' (e.Paren (e.Name (record { at = at'; text = u }))))
same_elsewhere line line' at at' u =
    ap (m.Query 0) (erased_paren (e.Name (record { at = at; text = u })) ∙ ap (λ q. e.Paren q) (erased_name (record { at = at; text = u }) ∙ sym (erased_name (record { at = at'; text = u }))) ∙ sym (erased_paren (e.Name (record { at = at'; text = u }))))

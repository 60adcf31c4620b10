-- The layer of a query without its places.
use Rattle.std.proofs.Common.{◌≡◌, map, sym, ap, ◌∙◌, rules}
use Rattle.bt_tree.specs.declared.tree.Query.{Query, roll-Query, out-Query, the_lemmas}
use Rattle.bt_tree.specs.declared.tree.Query.TheOpen.{Query-F}
use Rattle.bt_tree.specs.declared.tree.Query.TheVariants as e
use Rattle.bt_tree.specs.Same.{word_erased, query_erased}
use Rattle.bt_tree.proofs.Layers.{out-Null, out-True, out-False, out-Int, out-Quoted, out-This, out-Root, out-Name, out-Var, out-Metadata, out-Meta, out-Call, out-Paren, out-List, out-Object, out-Item, out-Prefix, out-Product, out-Sum, out-Compare, out-And, out-Or, out-Coalesce, out-Match, out-If}
use Rattle.bt_tree.specs.Parts.{in_member, in_term, in_case, in_branch, in_option, arg_erased, part_erased}
use Rattle.bt_tree.proofs.ErasedLayers.{erased-Null, erased-True, erased-False, erased-Int, erased-Quoted, erased-This, erased-Root, erased-Name, erased-Var, erased-Metadata, erased-Meta, erased-Call, erased-Paren, erased-List, erased-Object, erased-Item, erased-Prefix, erased-Product, erased-Sum, erased-Compare, erased-And, erased-Or, erased-Coalesce, erased-Match, erased-If}

abbrev pub layer_erased : Query-F Query → Query-F Query
layer_erased Query-F.Null = Query-F.Null
layer_erased Query-F.True = Query-F.True
layer_erased Query-F.False = Query-F.False
layer_erased (Query-F.Int n) = Query-F.Int n
layer_erased (Query-F.Quoted v) = Query-F.Quoted (word_erased v)
layer_erased Query-F.This = Query-F.This
layer_erased (Query-F.Root at) = Query-F.Root 0
layer_erased (Query-F.Name v) = Query-F.Name (word_erased v)
layer_erased (Query-F.Var v) = Query-F.Var (word_erased v)
layer_erased Query-F.Metadata = Query-F.Metadata
layer_erased (Query-F.Meta x) = Query-F.Meta x
layer_erased (Query-F.Call v xs) = Query-F.Call (word_erased v) (map arg_erased xs)
layer_erased (Query-F.Paren q) = Query-F.Paren (query_erased q)
layer_erased (Query-F.List qs) = Query-F.List (map query_erased qs)
layer_erased (Query-F.Object xs) = Query-F.Object (map (in_member query_erased) xs)
layer_erased (Query-F.Item q xs) = Query-F.Item (query_erased q) (map part_erased xs)
layer_erased (Query-F.Prefix op q) = Query-F.Prefix op (query_erased q)
layer_erased (Query-F.Product q xs) = Query-F.Product (query_erased q) (map (in_term query_erased) xs)
layer_erased (Query-F.Sum q xs) = Query-F.Sum (query_erased q) (map (in_term query_erased) xs)
layer_erased (Query-F.Compare q op r) = Query-F.Compare (query_erased q) op (query_erased r)
layer_erased (Query-F.And q qs) = Query-F.And (query_erased q) (map query_erased qs)
layer_erased (Query-F.Or q qs) = Query-F.Or (query_erased q) (map query_erased qs)
layer_erased (Query-F.Coalesce q qs) = Query-F.Coalesce (query_erased q) (map query_erased qs)
layer_erased (Query-F.Match x xs) = Query-F.Match (in_option query_erased x) (map (in_case query_erased) xs)
layer_erased (Query-F.If xs x) = Query-F.If (map (in_branch query_erased) xs) (in_option query_erased x)

pub out_erased : (x : Query-F Query) → out-Query (query_erased (roll-Query x)) ≡ layer_erased x
out_erased Query-F.Null = ap (λ y. out-Query (query_erased y)) e.rolls-Null ∙ ap out-Query erased-Null ∙ out-Null
out_erased Query-F.True = ap (λ y. out-Query (query_erased y)) e.rolls-True ∙ ap out-Query erased-True ∙ out-True
out_erased Query-F.False = ap (λ y. out-Query (query_erased y)) e.rolls-False ∙ ap out-Query erased-False ∙ out-False
out_erased (Query-F.Int n) = ap (λ y. out-Query (query_erased y)) (e.rolls-Int n) ∙ ap out-Query (erased-Int n) ∙ out-Int n
out_erased (Query-F.Quoted v) = ap (λ y. out-Query (query_erased y)) (e.rolls-Quoted v) ∙ ap out-Query (erased-Quoted v) ∙ out-Quoted (word_erased v)
out_erased Query-F.This = ap (λ y. out-Query (query_erased y)) e.rolls-This ∙ ap out-Query erased-This ∙ out-This
out_erased (Query-F.Root at) = ap (λ y. out-Query (query_erased y)) (e.rolls-Root at) ∙ ap out-Query (erased-Root at) ∙ out-Root 0
out_erased (Query-F.Name v) = ap (λ y. out-Query (query_erased y)) (e.rolls-Name v) ∙ ap out-Query (erased-Name v) ∙ out-Name (word_erased v)
out_erased (Query-F.Var v) = ap (λ y. out-Query (query_erased y)) (e.rolls-Var v) ∙ ap out-Query (erased-Var v) ∙ out-Var (word_erased v)
out_erased Query-F.Metadata = ap (λ y. out-Query (query_erased y)) e.rolls-Metadata ∙ ap out-Query erased-Metadata ∙ out-Metadata
out_erased (Query-F.Meta x) = ap (λ y. out-Query (query_erased y)) (e.rolls-Meta x) ∙ ap out-Query (erased-Meta x) ∙ out-Meta x
out_erased (Query-F.Call v xs) = ap (λ y. out-Query (query_erased y)) (e.rolls-Call v xs) ∙ ap out-Query (erased-Call v xs) ∙ out-Call (word_erased v) (map arg_erased xs)
out_erased (Query-F.Paren q) = ap (λ y. out-Query (query_erased y)) (e.rolls-Paren q) ∙ ap out-Query (erased-Paren q) ∙ out-Paren (query_erased q)
out_erased (Query-F.List qs) = ap (λ y. out-Query (query_erased y)) (e.rolls-List qs) ∙ ap out-Query (erased-List qs) ∙ out-List (map query_erased qs)
out_erased (Query-F.Object xs) = ap (λ y. out-Query (query_erased y)) (e.rolls-Object xs) ∙ ap out-Query (erased-Object xs) ∙ out-Object (map (in_member query_erased) xs)
out_erased (Query-F.Item q xs) = ap (λ y. out-Query (query_erased y)) (e.rolls-Item q xs) ∙ ap out-Query (erased-Item q xs) ∙ out-Item (query_erased q) (map part_erased xs)
out_erased (Query-F.Prefix op q) = ap (λ y. out-Query (query_erased y)) (e.rolls-Prefix op q) ∙ ap out-Query (erased-Prefix op q) ∙ out-Prefix op (query_erased q)
out_erased (Query-F.Product q xs) = ap (λ y. out-Query (query_erased y)) (e.rolls-Product q xs) ∙ ap out-Query (erased-Product q xs) ∙ out-Product (query_erased q) (map (in_term query_erased) xs)
out_erased (Query-F.Sum q xs) = ap (λ y. out-Query (query_erased y)) (e.rolls-Sum q xs) ∙ ap out-Query (erased-Sum q xs) ∙ out-Sum (query_erased q) (map (in_term query_erased) xs)
out_erased (Query-F.Compare q op r) = ap (λ y. out-Query (query_erased y)) (e.rolls-Compare q op r) ∙ ap out-Query (erased-Compare q op r) ∙ out-Compare (query_erased q) op (query_erased r)
out_erased (Query-F.And q qs) = ap (λ y. out-Query (query_erased y)) (e.rolls-And q qs) ∙ ap out-Query (erased-And q qs) ∙ out-And (query_erased q) (map query_erased qs)
out_erased (Query-F.Or q qs) = ap (λ y. out-Query (query_erased y)) (e.rolls-Or q qs) ∙ ap out-Query (erased-Or q qs) ∙ out-Or (query_erased q) (map query_erased qs)
out_erased (Query-F.Coalesce q qs) = ap (λ y. out-Query (query_erased y)) (e.rolls-Coalesce q qs) ∙ ap out-Query (erased-Coalesce q qs) ∙ out-Coalesce (query_erased q) (map query_erased qs)
out_erased (Query-F.Match x xs) = ap (λ y. out-Query (query_erased y)) (e.rolls-Match x xs) ∙ ap out-Query (erased-Match x xs) ∙ out-Match (in_option query_erased x) (map (in_case query_erased) xs)
out_erased (Query-F.If xs x) = ap (λ y. out-Query (query_erased y)) (e.rolls-If xs x) ∙ ap out-Query (erased-If xs x) ∙ out-If (map (in_branch query_erased) xs) (in_option query_erased x)

pub roll_out : (q : Query) → roll-Query (out-Query q) ≡ q
roll_out q = search (rules, the_lemmas)

pub layer : (q : Query) → out-Query (query_erased q) ≡ layer_erased (out-Query q)
layer q = ap (λ y. out-Query (query_erased y)) (sym (roll_out q)) ∙ out_erased (out-Query q)

-- Each variant of a query without its places.
use Rattle.std.proofs.Common.{◌≡◌, ℕ, ℤ, List, [], ◌∷◌, map, Option, refl, sym, ap, ◌∙◌}
use Rattle.bt_value.specs.declared.names.Op.{Op}
use Rattle.bt_value.specs.declared.names.PrefixOp.{PrefixOp}
use Rattle.bt_tree.specs.declared.tree.Word.{Word}
use Rattle.bt_tree.specs.declared.tree.Key.{Key}
use Rattle.bt_tree.specs.declared.tree.Query.{Query}
use Rattle.bt_tree.specs.declared.tree.Query.TheFolds.{fold-roll-Query}
use Rattle.bt_tree.specs.declared.tree.Query.TheOpen.{Query-F}
use Rattle.bt_tree.specs.declared.tree.Query.TheVariants as e
use Rattle.bt_tree.specs.declared.tree.Suffix.{Suffix}
use Rattle.bt_tree.specs.declared.tree.Arg.{Arg}
use Rattle.bt_tree.specs.declared.tree.Member.{Member}
use Rattle.bt_tree.specs.declared.tree.Term.{Term}
use Rattle.bt_tree.specs.declared.tree.Case.{Case}
use Rattle.bt_tree.specs.declared.tree.Branch.{Branch}
use Rattle.bt_tree.specs.Same.{word_erased, suffix_erased, erase_step, query_erased}
use Rattle.bt_tree.specs.Parts.{in_arg, in_member, in_term, in_case, in_branch, in_suffix, in_option, part_erased}
use Rattle.bt_tree.proofs.MapLayers.{map-Call, map-Item, map-Match, map-If}

pub erased-Null : query_erased e.Null ≡ e.Null
erased-Null = ap query_erased (sym e.rolls-Null) ∙ fold-roll-Query Query erase_step Query-F.Null ∙ e.rolls-Null

pub erased-True : query_erased e.True ≡ e.True
erased-True = ap query_erased (sym e.rolls-True) ∙ fold-roll-Query Query erase_step Query-F.True ∙ e.rolls-True

pub erased-False : query_erased e.False ≡ e.False
erased-False = ap query_erased (sym e.rolls-False) ∙ fold-roll-Query Query erase_step Query-F.False ∙ e.rolls-False

pub erased-Int : (n : ℤ) → query_erased (e.Int n) ≡ e.Int n
erased-Int n = ap query_erased (sym (e.rolls-Int n)) ∙ fold-roll-Query Query erase_step (Query-F.Int n) ∙ e.rolls-Int n

pub erased-Quoted : (v : Word) → query_erased (e.Quoted v) ≡ e.Quoted (word_erased v)
erased-Quoted v = ap query_erased (sym (e.rolls-Quoted v)) ∙ fold-roll-Query Query erase_step (Query-F.Quoted v)

pub erased-This : query_erased e.This ≡ e.This
erased-This = ap query_erased (sym e.rolls-This) ∙ fold-roll-Query Query erase_step Query-F.This ∙ e.rolls-This

pub erased-Root : (at : ℕ) → query_erased (e.Root at) ≡ e.Root 0
erased-Root at = ap query_erased (sym (e.rolls-Root at)) ∙ fold-roll-Query Query erase_step (Query-F.Root at)

pub erased-Name : (v : Word) → query_erased (e.Name v) ≡ e.Name (word_erased v)
erased-Name v = ap query_erased (sym (e.rolls-Name v)) ∙ fold-roll-Query Query erase_step (Query-F.Name v)

pub erased-Var : (v : Word) → query_erased (e.Var v) ≡ e.Var (word_erased v)
erased-Var v = ap query_erased (sym (e.rolls-Var v)) ∙ fold-roll-Query Query erase_step (Query-F.Var v)

pub erased-Metadata : query_erased e.Metadata ≡ e.Metadata
erased-Metadata = ap query_erased (sym e.rolls-Metadata) ∙ fold-roll-Query Query erase_step Query-F.Metadata ∙ e.rolls-Metadata

pub erased-Meta : (x : Key) → query_erased (e.Meta x) ≡ e.Meta x
erased-Meta x = ap query_erased (sym (e.rolls-Meta x)) ∙ fold-roll-Query Query erase_step (Query-F.Meta x) ∙ e.rolls-Meta x

pub erased-Call : (v : Word) (xs : List (Arg Query)) → query_erased (e.Call v xs) ≡ e.Call (word_erased v) (map (in_arg query_erased) xs)
erased-Call v xs = ap query_erased (sym (e.rolls-Call v xs)) ∙ fold-roll-Query Query erase_step (Query-F.Call v xs) ∙ ap erase_step (map-Call query_erased v xs)

pub erased-Paren : (q : Query) → query_erased (e.Paren q) ≡ e.Paren (query_erased q)
erased-Paren q = ap query_erased (sym (e.rolls-Paren q)) ∙ fold-roll-Query Query erase_step (Query-F.Paren q) ∙ e.rolls-Paren (query_erased q)

pub erased-List : (qs : List Query) → query_erased (e.List qs) ≡ e.List (map query_erased qs)
erased-List qs = ap query_erased (sym (e.rolls-List qs)) ∙ fold-roll-Query Query erase_step (Query-F.List qs) ∙ e.rolls-List (map query_erased qs)

pub erased-Object : (xs : List (Member Query)) → query_erased (e.Object xs) ≡ e.Object (map (in_member query_erased) xs)
erased-Object xs = ap query_erased (sym (e.rolls-Object xs)) ∙ fold-roll-Query Query erase_step (Query-F.Object xs) ∙ e.rolls-Object (map (in_member query_erased) xs)

fused : {A B C : Type 0} (f : A → B) (g : B → C) (xs : List A) → map g (map f xs) ≡ map (λ x. g (f x)) xs
fused f g [] = refl
fused f g (x ∷ xs) = ap (λ ys. g (f x) ∷ ys) (fused f g xs)

pub erased-Item : (q : Query) (xs : List (Suffix Query)) → query_erased (e.Item q xs) ≡ e.Item (query_erased q) (map part_erased xs)
erased-Item q xs = ap query_erased (sym (e.rolls-Item q xs)) ∙ fold-roll-Query Query erase_step (Query-F.Item q xs) ∙ ap erase_step (map-Item query_erased q xs) ∙ ap (e.Item (query_erased q)) (fused (in_suffix query_erased) suffix_erased xs)

pub erased-Prefix : (op : PrefixOp) (q : Query) → query_erased (e.Prefix op q) ≡ e.Prefix op (query_erased q)
erased-Prefix op q = ap query_erased (sym (e.rolls-Prefix op q)) ∙ fold-roll-Query Query erase_step (Query-F.Prefix op q) ∙ e.rolls-Prefix op (query_erased q)

pub erased-Product : (q : Query) (xs : List (Term Query)) → query_erased (e.Product q xs) ≡ e.Product (query_erased q) (map (in_term query_erased) xs)
erased-Product q xs = ap query_erased (sym (e.rolls-Product q xs)) ∙ fold-roll-Query Query erase_step (Query-F.Product q xs) ∙ e.rolls-Product (query_erased q) (map (in_term query_erased) xs)

pub erased-Sum : (q : Query) (xs : List (Term Query)) → query_erased (e.Sum q xs) ≡ e.Sum (query_erased q) (map (in_term query_erased) xs)
erased-Sum q xs = ap query_erased (sym (e.rolls-Sum q xs)) ∙ fold-roll-Query Query erase_step (Query-F.Sum q xs) ∙ e.rolls-Sum (query_erased q) (map (in_term query_erased) xs)

pub erased-Compare : (q : Query) (op : Op) (r : Query) → query_erased (e.Compare q op r) ≡ e.Compare (query_erased q) op (query_erased r)
erased-Compare q op r = ap query_erased (sym (e.rolls-Compare q op r)) ∙ fold-roll-Query Query erase_step (Query-F.Compare q op r) ∙ e.rolls-Compare (query_erased q) op (query_erased r)

pub erased-And : (q : Query) (qs : List Query) → query_erased (e.And q qs) ≡ e.And (query_erased q) (map query_erased qs)
erased-And q qs = ap query_erased (sym (e.rolls-And q qs)) ∙ fold-roll-Query Query erase_step (Query-F.And q qs) ∙ e.rolls-And (query_erased q) (map query_erased qs)

pub erased-Or : (q : Query) (qs : List Query) → query_erased (e.Or q qs) ≡ e.Or (query_erased q) (map query_erased qs)
erased-Or q qs = ap query_erased (sym (e.rolls-Or q qs)) ∙ fold-roll-Query Query erase_step (Query-F.Or q qs) ∙ e.rolls-Or (query_erased q) (map query_erased qs)

pub erased-Coalesce : (q : Query) (qs : List Query) → query_erased (e.Coalesce q qs) ≡ e.Coalesce (query_erased q) (map query_erased qs)
erased-Coalesce q qs = ap query_erased (sym (e.rolls-Coalesce q qs)) ∙ fold-roll-Query Query erase_step (Query-F.Coalesce q qs) ∙ e.rolls-Coalesce (query_erased q) (map query_erased qs)

pub erased-Match : (x : Option Query) (xs : List (Case Query)) → query_erased (e.Match x xs) ≡ e.Match (in_option query_erased x) (map (in_case query_erased) xs)
erased-Match x xs = ap query_erased (sym (e.rolls-Match x xs)) ∙ fold-roll-Query Query erase_step (Query-F.Match x xs) ∙ ap erase_step (map-Match query_erased x xs) ∙ e.rolls-Match (in_option query_erased x) (map (in_case query_erased) xs)

pub erased-If : (xs : List (Branch Query)) (x : Option Query) → query_erased (e.If xs x) ≡ e.If (map (in_branch query_erased) xs) (in_option query_erased x)
erased-If xs x = ap query_erased (sym (e.rolls-If xs x)) ∙ fold-roll-Query Query erase_step (Query-F.If xs x) ∙ ap erase_step (map-If query_erased xs x) ∙ e.rolls-If (map (in_branch query_erased) xs) (in_option query_erased x)

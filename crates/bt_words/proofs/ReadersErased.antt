-- What readers ask of a query, without its places.
use Rattle.std.proofs.Common.{◌≡◌, ℕ, List, [], ◌∷◌, map, Option, Some, None, refl, ap, ◌∙◌}
use Rattle.bt_tree.specs.declared.tree.Key.{Key}
use Rattle.bt_tree.specs.declared.tree.Key.TheVariants as steps
use Rattle.bt_tree.specs.declared.tree.Query.{Query, out-Query}
use Rattle.bt_tree.specs.declared.tree.Query.TheOpen.{Query-F}
use Rattle.bt_tree.specs.declared.tree.Suffix.{Suffix}
use Rattle.bt_tree.specs.declared.tree.Suffix.TheVariants as s
use Rattle.bt_tree.specs.Same.{query_erased}
use Rattle.bt_syntax.specs.Readers.{name_in, name_of, unary_layer, is_unary, root_in, root_of, key_and, target_keys, target_from, target_in, target_of}
use Rattle.bt_tree.specs.Parts.{in_option, part_erased}
use Rattle.bt_tree.proofs.LayerErased.{layer_erased, layer}

name_layer : (x : Query-F Query) → name_in (layer_erased x) ≡ name_in x
name_layer (Query-F.Name v) = refl
name_layer _ = refl

pub name_erased : (q : Query) → name_of (query_erased q) ≡ name_of q
name_erased q = ap name_in (layer q) ∙ name_layer (out-Query q)

unary_erased_layer : (x : Query-F Query) → unary_layer (layer_erased x) ≡ unary_layer x
unary_erased_layer (Query-F.Product q xs) = refl
unary_erased_layer (Query-F.Sum q xs) = refl
unary_erased_layer (Query-F.Compare q op r) = refl
unary_erased_layer (Query-F.And q qs) = refl
unary_erased_layer (Query-F.Or q qs) = refl
unary_erased_layer _ = refl

pub unary_erased : (q : Query) → is_unary (query_erased q) ≡ is_unary q
unary_erased q = ap unary_layer (layer q) ∙ unary_erased_layer (out-Query q)

-- a place without what it says
abbrev pub no_place : ℕ → ℕ
no_place at = 0

abbrev pub target_erased : ℕ × List Key → ℕ × List Key
target_erased x = (0, x.1)

root_layer : (x : Query-F Query) → root_in (layer_erased x) ≡ in_option no_place (root_in x)
root_layer (Query-F.Root at) = refl
root_layer _ = refl

pub root_erased : (q : Query) → root_of (query_erased q) ≡ in_option no_place (root_of q)
root_erased q = ap root_in (layer q) ∙ root_layer (out-Query q)

keys_erased : (xs : List (Suffix Query)) → target_keys (map part_erased xs) ≡ target_keys xs
keys_erased [] = refl
keys_erased (s.Name u ∷ xs) = ap (key_and (steps.Name u)) (keys_erased xs)
keys_erased (s.Quoted u ∷ xs) = ap (key_and (steps.Quoted u)) (keys_erased xs)
keys_erased (s.Int n ∷ xs) = refl
keys_erased (s.Method v ys ∷ xs) = refl
keys_erased (s.Within x ∷ xs) = refl

from_erased : (o : Option ℕ) (xs : Option (List Key)) → target_from (in_option no_place o) xs ≡ in_option target_erased (target_from o xs)
from_erased (Some at) (Some xs) = refl
from_erased (Some at) None = refl
from_erased None (Some xs) = refl
from_erased None None = refl

target_layer : (x : Query-F Query) → target_in (layer_erased x) ≡ in_option target_erased (target_in x)
target_layer (Query-F.Root at) = refl
target_layer (Query-F.Item q xs) = ap (λ o. target_from o (target_keys (map part_erased xs))) (root_erased q) ∙ ap (target_from (in_option no_place (root_of q))) (keys_erased xs) ∙ from_erased (root_of q) (target_keys xs)
target_layer _ = refl

pub target_of_erased : (q : Query) → target_of (query_erased q) ≡ in_option target_erased (target_of q)
target_of_erased q = ap target_in (layer q) ∙ target_layer (out-Query q)

-- The keys behind a `root`.
use Rattle.std.proofs.Common.{◌≡◌, ℕ, Bool, ◌&&◌, true, List, [], ◌∷◌, ◌++◌, reverse, Option, Some, None, is_some, refl, sym, ap, ◌∙◌, append_assoc}
use Rattle.std.specs.List.{list_all}
use Rattle.std.proofs.lemmas.List.{reverse-append}
use Rattle.bt_tree.specs.declared.tree.Key.{Key}
use Rattle.bt_tree.specs.declared.tree.Query.{Query}
use Rattle.bt_tree.specs.declared.tree.Query.TheVariants as e
use Rattle.bt_tree.specs.declared.tree.Query.TheVariants.{outs-Item}
use Rattle.bt_tree.specs.declared.tree.Suffix.{Suffix}
use Rattle.bt_tree.specs.declared.tree.Suffix.TheVariants as s
use Rattle.bt_syntax.specs.Readers.{target_keys, key_and, target_from, target_in, target_of, root_of}
use Rattle.bt_syntax.specs.Code.{key_in}

-- keys, and others behind them
abbrev pub keys_then : Option (List Key) → List Key → Option (List Key)
keys_then None ys = None
keys_then (Some xs) ys = Some (xs ++ ys)

key_and_then : (x : Key) (o : Option (List Key)) (ys : List Key) → key_and x (keys_then o ys) ≡ keys_then (key_and x o) ys
key_and_then x None ys = refl
key_and_then x (Some xs) ys = refl

and_some : (x : Key) (o : Option (List Key)) → is_some (key_and x o) ≡ is_some o
and_some x None = refl
and_some x (Some xs) = refl

-- one more suffix at the end that is a key
pub key_last : (xs : List (Suffix Query)) (x : Suffix Query) (y : Key) → key_in x ≡ Some y → target_keys (xs ++ x ∷ []) ≡ keys_then (target_keys xs) (y ∷ [])
key_last [] (s.Name u) y e = cc
key_last [] (s.Quoted u) y e = cc
key_last [] (s.Int n) y e = absurd (cc)
key_last [] (s.Method v ys) y e = absurd (cc)
key_last [] (s.Within z) y e = absurd (cc)
key_last (s.Name u ∷ xs) x y e = ap (key_and _) (key_last xs x y e) ∙ key_and_then _ (target_keys xs) (y ∷ [])
key_last (s.Quoted u ∷ xs) x y e = ap (key_and _) (key_last xs x y e) ∙ key_and_then _ (target_keys xs) (y ∷ [])
key_last (s.Int n ∷ xs) x y e = refl
key_last (s.Method v ys ∷ xs) x y e = refl
key_last (s.Within z ∷ xs) x y e = refl

-- one at the end that is none
pub no_key_last : (xs : List (Suffix Query)) (x : Suffix Query) → key_in x ≡ None → target_keys (xs ++ x ∷ []) ≡ None
no_key_last [] (s.Name u) e = absurd (cc)
no_key_last [] (s.Quoted u) e = absurd (cc)
no_key_last [] (s.Int n) e = refl
no_key_last [] (s.Method v ys) e = refl
no_key_last [] (s.Within z) e = refl
no_key_last (s.Name u ∷ xs) x e = ap (key_and _) (no_key_last xs x e)
no_key_last (s.Quoted u ∷ xs) x e = ap (key_and _) (no_key_last xs x e)
no_key_last (s.Int n ∷ xs) x e = refl
no_key_last (s.Method v ys ∷ xs) x e = refl
no_key_last (s.Within z ∷ xs) x e = refl

then_assoc : (o : Option (List Key)) (xs ys : List Key) → keys_then (keys_then o xs) ys ≡ keys_then o (xs ++ ys)
then_assoc None xs ys = refl
then_assoc (Some zs) xs ys = ap (λ z. Some z) (append_assoc zs xs ys)

-- the loop that takes suffixes from the end
pub from_end_go : (all xs zs : List (Suffix Query)) (x : Suffix Query) (ks : List Key) (y : Key) → target_keys all ≡ keys_then (target_keys xs) (reverse ks) → xs ≡ zs ++ x ∷ [] → key_in x ≡ Some y →
    target_keys all ≡ keys_then (target_keys zs) (reverse (ks ++ y ∷ []))
from_end_go all xs zs x ks y inv e k =
    inv ∙ ap (λ us. keys_then (target_keys us) (reverse ks)) e ∙ ap (λ o. keys_then o (reverse ks)) (key_last zs x y k) ∙ then_assoc (target_keys zs) (y ∷ []) (reverse ks)
    ∙ ap (keys_then (target_keys zs)) (sym (reverse-append ks (y ∷ [])))

pub from_end_none : (all xs zs : List (Suffix Query)) (x : Suffix Query) (ks : List Key) → target_keys all ≡ keys_then (target_keys xs) (reverse ks) → xs ≡ zs ++ x ∷ [] → key_in x ≡ None →
    is_some (target_keys all) ≡ true → ⊥
from_end_none all xs zs x ks inv e k some =
    let none : target_keys all ≡ None = inv ∙ ap (λ us. keys_then (target_keys us) (reverse ks)) e ∙ ap (λ o. keys_then o (reverse ks)) (no_key_last zs x k) in
    let bad : is_some {T = List Key} None ≡ true = sym (ap is_some none) ∙ some in cc

pub reversed_go : (all xs zs ks : List Key) (x : Key) → reverse all ≡ ks ++ reverse xs → xs ≡ zs ++ x ∷ [] → reverse all ≡ (ks ++ x ∷ []) ++ reverse zs
reversed_go all xs zs ks x inv e = inv ∙ ap (λ us. ks ++ reverse us) e ∙ ap (λ us. ks ++ us) (reverse-append zs (x ∷ [])) ∙ sym (append_assoc ks (x ∷ []) (reverse zs))

all_keys : (xs : List (Suffix Query)) → is_some (target_keys xs) ≡ list_all (λ x. is_some (key_in x)) xs
all_keys [] = refl
all_keys (s.Name u ∷ xs) = and_some _ (target_keys xs) ∙ all_keys xs
all_keys (s.Quoted u ∷ xs) = and_some _ (target_keys xs) ∙ all_keys xs
all_keys (s.Int n ∷ xs) = refl
all_keys (s.Method v ys ∷ xs) = refl
all_keys (s.Within z ∷ xs) = refl

from_parts : (o : Option ℕ) (ks : Option (List Key)) → is_some (target_from o ks) ≡ (is_some o && is_some ks)
from_parts None ks = refl
from_parts (Some at) None = refl
from_parts (Some at) (Some xs) = refl

pub is_item_target : (q : Query) (xs : List (Suffix Query)) → is_some (target_from (root_of q) (target_keys xs)) ≡ (is_some (root_of q) && list_all (λ x. is_some (key_in x)) xs)
is_item_target q xs = from_parts (root_of q) (target_keys xs) ∙ ap (λ b. is_some (root_of q) && b) (all_keys xs)

both_some : (o : Option ℕ) (ks : Option (List Key)) → is_some (target_from o ks) ≡ true → (is_some o ≡ true) × (is_some ks ≡ true)
both_some None ks h = absurd (cc)
both_some (Some at) None h = absurd (cc)
both_some (Some at) (Some xs) h = (refl, refl)

pub item_root : (q : Query) (xs : List (Suffix Query)) → is_some (target_from (root_of q) (target_keys xs)) ≡ true → is_some (root_of q) ≡ true
item_root q xs h = (both_some (root_of q) (target_keys xs) h).0

pub item_keys : (q : Query) (xs : List (Suffix Query)) → is_some (target_from (root_of q) (target_keys xs)) ≡ true → is_some (target_keys xs) ≡ true
item_keys q xs h = (both_some (root_of q) (target_keys xs) h).1

pub target_of_item : (q h : Query) (xs : List (Suffix Query)) → q ≡ e.Item h xs → target_of q ≡ target_from (root_of h) (target_keys xs)
target_of_item q h xs is = ap target_of is ∙ ap target_in (outs-Item h xs)

pub item_is_target : (q h h' : Query) (xs xs' : List (Suffix Query)) (r k : Bool) → q ≡ e.Item h xs → h' ≡ h → xs' ≡ xs → r ≡ is_some (root_of h') → r ≡ true → k ≡ list_all (λ x. is_some (key_in x)) xs' → k ≡ is_some (target_of q)
item_is_target q h h' xs xs' r k is same same' root rooted_test keys =
    let rooted : is_some (root_of h) ≡ true = ap (λ z. is_some (root_of z)) (sym same) ∙ sym root ∙ rooted_test in
    let all : is_some (target_of q) ≡ (is_some (root_of h) && list_all (λ x. is_some (key_in x)) xs) = ap is_some (target_of_item q h xs is) ∙ is_item_target h xs in
    keys ∙ ap (list_all (λ x. is_some (key_in x))) same' ∙ sym (all ∙ ap (λ b. b && list_all (λ x. is_some (key_in x)) xs) rooted)

pub item_needs : (q h : Query) (xs : List (Suffix Query)) → q ≡ e.Item h xs → is_some (target_of q) ≡ true → (is_some (root_of h) ≡ true) × (is_some (target_keys xs) ≡ true)
item_needs q h xs is some = both_some (root_of h) (target_keys xs) (sym (ap is_some (target_of_item q h xs is)) ∙ some)

pub item_target : (q h : Query) (xs : List (Suffix Query)) (at : ℕ) (ks : List Key) → q ≡ e.Item h xs → root_of h ≡ Some at → target_keys xs ≡ Some ks → target_of q ≡ Some (at, ks)
item_target q h xs at ks is root keys = target_of_item q h xs is ∙ ap (λ o. target_from o (target_keys xs)) root ∙ ap (target_from (Some at)) keys

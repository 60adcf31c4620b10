-- The elements that equal none before them are those that stand without later equal ones.
use Rattle.std.proofs.Common.{◌≡◌, ℕ, ◌+◌, ◌<◌, List, [], ◌∷◌, ◌++◌, ◌∙◌, length, take, drop, get_or, append_assoc, Bool, true, false, not, ◌||◌, ◌&&◌, cond, filter, refl, sym, ap, if◌then◌else◌}
use Rattle.std.specs.List.{list_any}
use Rattle.std.proofs.lemmas.List.{take_more, drop_more}
use Rattle.std.proofs.lemmas.List.Folds.{list_any-append}
use Rattle.bt_value.specs.declared.val.Val.{Val}
use Rattle.bt_lists.specs.Distinct.{are_equal, distinct, firsts_behind, marked}

or-false : (b : Bool) → (b || false) ≡ b
or-false true = refl
or-false false = refl

any_behind : (before : List Val) (x y : Val) → list_any (λ z. are_equal z y) (before ++ x ∷ []) ≡ (list_any (λ z. are_equal z y) before || are_equal x y)
any_behind before x y =
    list_any-append (λ z. are_equal z y) before (x ∷ [])
    ∙ ap (λ b. list_any (λ z. are_equal z y) before || b) (or-false (are_equal x y))

taken : (items : List Val) (i : ℕ) (x : Val) → i < length items → x ≡ get_or items i x → take (i + 1) items ≡ take i items ++ x ∷ []
taken items i x within here = take_more items i x within ∙ ap (λ y. take i items ++ y ∷ []) (sym here)

left : (items : List Val) (i : ℕ) (x : Val) → i < length items → x ≡ get_or items i x → drop i items ≡ x ∷ drop (i + 1) items
left items i x within here = drop_more items i x within ∙ ap (λ y. y ∷ drop (i + 1) items) (sym here)

either : (a b : Bool) → cond a true b ≡ (b || a)
either true true = refl
either true false = refl
either false true = refl
either false false = refl

-- one more element stands before the others
pub seen_next : (items : List Val) (i : ℕ) (x q : Val) (old : Bool) → i < length items → x ≡ get_or items i x → old ≡ list_any (λ y. are_equal y q) (take i items)
    → cond (are_equal x q) true old ≡ list_any (λ y. are_equal y q) (take (i + 1) items)
seen_next items i x q old within here e =
    ap (cond (are_equal x q) true) e
    ∙ either (are_equal x q) (list_any (λ y. are_equal y q) (take i items))
    ∙ sym (any_behind (take i items) x q)
    ∙ ap (list_any (λ y. are_equal y q)) (sym (taken items i x within here))

-- whether an element equals none of some others
abbrev fresh : List Val → Val → Bool
fresh before x = not (list_any (λ y. are_equal y x) before)

-- the mark of one more stands behind those of the others
pub marks_next : (items : List Val) (i : ℕ) (x : Val) (m : Bool) (got new : List Bool) → i < length items → x ≡ get_or items i x → m ≡ fresh (take i items) x → new ≡ got ++ m ∷ []
    → firsts_behind [] items ≡ got ++ firsts_behind (take i items) (drop i items) → firsts_behind [] items ≡ new ++ firsts_behind (take (i + 1) items) (drop (i + 1) items)
marks_next items i x m got new within here is new_is so_far =
    so_far
    ∙ ap (λ xs. got ++ firsts_behind (take i items) xs) (left items i x within here)
    ∙ ap (λ b. got ++ b ∷ firsts_behind (take i items ++ x ∷ []) (drop (i + 1) items)) (sym is)
    ∙ ap (λ xs. got ++ m ∷ firsts_behind xs (drop (i + 1) items)) (sym (taken items i x within here))
    ∙ sym (append_assoc got (m ∷ []) (firsts_behind (take (i + 1) items) (drop (i + 1) items)))
    ∙ ap (λ l. l ++ firsts_behind (take (i + 1) items) (drop (i + 1) items)) (sym new_is)

neither : (a b : Bool) → not (a || b) ≡ (not a && not b)
neither true b = refl
neither false b = refl

fresh_behind : (before : List Val) (x y : Val) → fresh (before ++ x ∷ []) y ≡ (fresh before y && not (are_equal x y))
fresh_behind before x y = ap not (any_behind before x y) ∙ neither (list_any (λ z. are_equal z y) before) (are_equal x y)

filter_same : (p q : Val → Bool) → ((x : Val) → p x ≡ q x) → (xs : List Val) → filter p xs ≡ filter q xs
filter_same p q e [] = refl
filter_same p q e (x ∷ xs) = ap (λ b. if b then x ∷ filter p xs else filter p xs) (e x) ∙ ap (λ l. if q x then x ∷ l else l) (filter_same p q e xs)

filter_first : (p : Val → Bool) (x : Val) (b : Bool) (l : List Val) → filter p (if b then x ∷ l else l) ≡ (if b then (if p x then x ∷ filter p l else filter p l) else filter p l)
filter_first p x true l = refl
filter_first p x false l = refl

both_pass : (x : Val) (a b : Bool) (l r : List Val) → l ≡ r → (if b then (if a then x ∷ l else l) else l) ≡ (if a && b then x ∷ r else r)
both_pass x true true l r e = ap (λ k. x ∷ k) e
both_pass x true false l r e = e
both_pass x false true l r e = e
both_pass x false false l r e = e

filter-filter : (p q : Val → Bool) (xs : List Val) → filter p (filter q xs) ≡ filter (λ x. p x && q x) xs
filter-filter p q [] = refl
filter-filter p q (x ∷ xs) = filter_first p x (q x) (filter q xs) ∙ both_pass x (p x) (q x) _ _ (filter-filter p q xs)

filter_all : (xs : List Val) → filter (fresh []) xs ≡ xs
filter_all [] = refl
filter_all (x ∷ xs) = ap (λ l. x ∷ l) (filter_all xs)

pub marked_none : (xs : List Val) → marked xs [] ≡ []
marked_none [] = refl
marked_none (x ∷ xs) = refl

marked_behind : (before xs : List Val) → marked xs (firsts_behind before xs) ≡ filter (fresh before) (distinct xs)
marked_behind before [] = refl
marked_behind before (x ∷ xs) =
    ap (λ l. if fresh before x then x ∷ l else l)
    (marked_behind (before ++ x ∷ []) xs
    ∙ filter_same (fresh (before ++ x ∷ [])) (λ y. fresh before y && not (are_equal x y)) (fresh_behind before x) (distinct xs)
    ∙ sym (filter-filter (fresh before) (λ y. not (are_equal x y)) (distinct xs)))

pub firsts_are : (xs : List Val) → marked xs (firsts_behind [] xs) ≡ distinct xs
firsts_are xs = marked_behind [] xs ∙ filter_all (distinct xs)

-- Laws of the pieces between delimiters.
use Rattle.std.proofs.Common.{◌≡◌, ◌⊎◌, ℕ, zero, suc, ◌+◌, ◌-◌, ◌<◌, ◌≤◌, Bool, true, false, ◌&&◌, eqb, List, [], ◌∷◌, ◌++◌, length, take, drop, refl, sym, ap, ◌∙◌, arith, inl, inr, zero-add, length-append}
use Rattle.std.specs.List.{onto_first}
use Rattle.std.proofs.lemmas.Bool.{cases_Bool, cases_lt, and_parts, and_from, eq-eqb}
use Rattle.std.proofs.lemmas.List.{drop_all, drop-drop, drop-take, length-drop, length-take, take_at, take-append-drop}
use Rattle.bt_cut.proofs.Pieces.{chosen, other}
use Rattle.bt_lines.specs.Pieces.{begins, pieces_after, pieces, NoneBefore, NoneIn, FirstAt, AreBetween}

pub begins-self : (d tail : List ℕ) → begins d (d ++ tail) ≡ true
begins-self [] tail = refl
begins-self (x ∷ d) tail = and_from (eqb x x) (begins d (d ++ tail)) (eq-eqb x x refl) (begins-self d tail)

pub begins-append : (d s t : List ℕ) → begins d s ≡ true → begins d (s ++ t) ≡ true
begins-append [] s t e = refl
begins-append (x ∷ d) [] t e = cc
begins-append (x ∷ d) (b ∷ s) t e = let p = and_parts (eqb x b) (begins d s) e in and_from (eqb x b) (begins d (s ++ t)) p.0 (begins-append d s t p.1)

pub begins-length : (d s : List ℕ) → begins d s ≡ true → length d ≤ length s
begins-length [] s e = omega arith
begins-length (x ∷ d) [] e = cc
begins-length (x ∷ d) (b ∷ s) e = omega (arith, begins-length d s (and_parts (eqb x b) (begins d s) e).1)

pub begins-front : (d s t : List ℕ) → length d ≤ length s → begins d (s ++ t) ≡ begins d s
begins-front [] s t h = refl
begins-front (x ∷ d) [] t h = absurd (omega (arith, h))
begins-front (x ∷ d) (b ∷ s) t h = ap (λ r. eqb x b && r) (begins-front d s t (omega (arith, h)))

pub begins-short : (d s : List ℕ) → length s < length d → begins d s ≡ false
begins-short d s h =
    elim (cases_Bool (begins d s)) [
      | inl e ↦ absurd (omega (arith, h, begins-length d s e))
      | inr e ↦ e
    ]

-- behind the bytes that belong to a delimiter the pieces are those of the rest
pub pieces-skip : (d : List ℕ) (k : ℕ) (s tail : List ℕ) → k ≤ length s → pieces_after d k (s ++ tail) ≡ pieces d (drop k s ++ tail)
pieces-skip d zero s tail h = refl
pieces-skip d (suc k) [] tail h = absurd (omega (arith, h))
pieces-skip d (suc k) (b ∷ s) tail h = pieces-skip d k s tail (omega (arith, h))

-- a piece that a delimiter ends comes first
pub pieces-first : (d bytes tail : List ℕ) (n : ℕ) → 1 ≤ length d → FirstAt d bytes n → pieces d (bytes ++ tail) ≡ take n bytes ∷ pieces d (drop (n + length d) bytes ++ tail)
pieces-first d [] tail n some f = absurd (omega (arith, some, f.inside))
pieces-first d (b ∷ bytes) tail zero some f =
    let behind : suc (length d - 1) ≡ 0 + length d = omega (arith, some) in
    chosen _ _ _ (begins-append d (b ∷ bytes) tail f.here)
    ∙ ap (λ ps. [] ∷ ps) (pieces-skip d (length d - 1) bytes tail (omega (arith, f.inside, some)) ∙ ap (λ k. pieces d (drop k (b ∷ bytes) ++ tail)) behind)
pieces-first d (b ∷ bytes) tail (suc n) some f =
    let none : begins d (b ∷ (bytes ++ tail)) ≡ false = begins-front d (b ∷ bytes) tail (omega (arith, f.inside)) ∙ f.before 0 (omega arith) in
    let behind : suc (n + length d) ≡ suc n + length d = omega arith in
    let later : FirstAt d bytes n = record { inside = omega (arith, f.inside); here = f.here; before = λ k h. f.before (suc k) (omega (arith, h)) } in
    other _ _ _ none ∙ ap (onto_first b) (pieces-first d bytes tail n some later)
    ∙ ap (λ k. (b ∷ take n bytes) ∷ pieces d (drop k (b ∷ bytes) ++ tail)) behind

pub pieces-none : (d bytes : List ℕ) → NoneIn d bytes → pieces d bytes ≡ bytes ∷ []
pieces-none d [] none = refl
pieces-none d (b ∷ bytes) none = other _ _ _ (none 0) ∙ ap (onto_first b) (pieces-none d bytes (λ k. none (suc k)))

pub onto-some : (b : ℕ) (ps : List (List ℕ)) → 1 ≤ length ps → (p : List ℕ) × (qs : List (List ℕ)) × (onto_first b ps ≡ (b ∷ p) ∷ qs) × (ps ≡ p ∷ qs)
onto-some b [] h = absurd (omega (arith, h))
onto-some b (p ∷ qs) h = (p, qs, refl, refl)

pub one_piece : (d : List ℕ) (k : ℕ) (s : List ℕ) → 1 ≤ length (pieces_after d k s)
one_piece d k [] = omega arith
one_piece d zero (b ∷ s) =
    elim (cases_Bool (begins d (b ∷ s))) [
      | inl e ↦ omega (arith, ap length (chosen _ ([] ∷ pieces_after d (length d - 1) s) (onto_first b (pieces_after d 0 s)) e))
      | inr e ↦
          let o = onto-some b (pieces_after d 0 s) (one_piece d 0 s) in
          omega (arith, ap length (other _ ([] ∷ pieces_after d (length d - 1) s) (onto_first b (pieces_after d 0 s)) e), ap length o.2)
    ]
one_piece d (suc k) (b ∷ s) = one_piece d k s

-- where the delimiter doesn't stand at the first n places and the one behind them, and there are more bytes, the first piece has more than n
pub pieces-long : (d : List ℕ) (n : ℕ) (s : List ℕ) → NoneBefore d (n + 1) s → n < length s → (p : List ℕ) × (ps : List (List ℕ)) × (pieces d s ≡ p ∷ ps) × (n < length p)
pieces-long d n [] none h = absurd (omega (arith, h))
pieces-long d zero (b ∷ s) none h =
    let o = onto-some b (pieces d s) (one_piece d 0 s) in
    (b ∷ o.0, o.1, other _ _ _ (none 0 (omega arith)) ∙ o.2, omega arith)
pieces-long d (suc n) (b ∷ s) none h =
    let (p, ps, e, more) = pieces-long d n s (λ k l. none (suc k) (omega (arith, l))) (omega (arith, h)) in
    (b ∷ p, ps, other _ _ _ (none 0 (omega arith)) ∙ ap (onto_first b) e, omega (arith, more))

-- there are no other pieces
pub between-only : (d bytes : List ℕ) (ps : List (List ℕ)) → 1 ≤ length d → AreBetween d ps bytes → ps ≡ pieces d bytes
between-only d bytes [] some b = absurd b
between-only d bytes (p ∷ []) some b = ap (λ q. q ∷ []) (sym b.0) ∙ sym (pieces-none d bytes (λ k. ap (λ q. begins d (drop k q)) b.0 ∙ b.1 k))
between-only d bytes (p ∷ q ∷ ps) some (first, rest, is, later) =
    let n : length p + length d ≡ length (p ++ d) = omega (arith, length-append p d) in
    let none : drop (length p + length d) (p ++ d) ≡ [] = drop_all (length p + length d) (p ++ d) (omega (arith, n)) in
    ap (λ qs. p ∷ qs) (between-only d rest (q ∷ ps) some later)
    ∙ sym (ap (pieces d) is ∙ pieces-first d (p ++ d) rest (length p) some first
    ∙ ap (λ t. t ∷ pieces d (drop (length p + length d) (p ++ d) ++ rest)) (take_at p d (length p) refl)
    ∙ ap (λ t. p ∷ pieces d (t ++ rest)) none)

drop-front : {A : Type 0} (k : ℕ) (xs ys : List A) → k ≤ length xs → drop k (xs ++ ys) ≡ drop k xs ++ ys
drop-front zero xs ys h = refl
drop-front (suc k) [] ys h = absurd (omega (arith, h))
drop-front (suc k) (x ∷ xs) ys h = drop-front k xs ys (omega (arith, h))

-- behind c places and n more
drop-add : {A : Type 0} (c n : ℕ) (xs : List A) → drop (c + n) xs ≡ drop n (drop c xs)
drop-add c n xs = sym (drop-drop n c xs)

begins-taken : (d s : List ℕ) → begins d s ≡ true → begins d (take (length d) s) ≡ true
begins-taken [] s e = refl
begins-taken (x ∷ d) [] e = cc
begins-taken (x ∷ d) (b ∷ s) e = let p = and_parts (eqb x b) (begins d s) e in and_from (eqb x b) (begins d (take (length d) s)) p.0 (begins-taken d s p.1)

-- the bytes up to the end of the first delimiter, and whether they have more behind it doesn't matter
pub front-length : (d bytes : List ℕ) (n : ℕ) → FirstAt d bytes n → length (take (n + length d) bytes) ≡ n + length d
front-length d bytes n f = omega (arith, length-take (n + length d) bytes, f.inside)

pub first-front : (d bytes : List ℕ) (n : ℕ) → FirstAt d bytes n → FirstAt d (take (n + length d) bytes) n
first-front d bytes n f =
    let front : List ℕ = take (n + length d) bytes in
    let tail : List ℕ = drop (n + length d) bytes in
    let size = front-length d bytes n f in
    record {
      inside = omega (arith, size);
      here = ap (begins d) (drop-take n (length d) bytes) ∙ begins-taken d (drop n bytes) f.here;
      before = λ k h.
          let whole : drop k bytes ≡ drop k front ++ tail = ap (drop k) (sym (take-append-drop (n + length d) bytes)) ∙ drop-front k front tail (omega (arith, h, size)) in
          sym (begins-front d (drop k front) tail (omega (arith, h, size, length-drop k front))) ∙ ap (begins d) (sym whole) ∙ f.before k h;
    }

-- the first place behind some at which it doesn't stand is the first of all
pub first-behind : (d bytes : List ℕ) (c n : ℕ) → NoneBefore d c bytes → FirstAt d (drop c bytes) n → c ≤ length bytes → FirstAt d bytes (c + n)
first-behind d bytes c n none f h =
    record {
      inside = omega (arith, f.inside, length-drop c bytes, h);
      here = ap (begins d) (drop-add c n bytes) ∙ f.here;
      before = λ k l. elim (cases_lt k c) [
        | inl less ↦ none k less
        | inr more ↦
            let j : ℕ = k - c in
            let e : c + j ≡ k = omega (arith, more) in
            ap (λ x. begins d (drop x bytes)) (sym e) ∙ ap (begins d) (drop-add c j bytes) ∙ f.before j (omega (arith, l, e))
      ];
    }

pub none-behind : (d bytes : List ℕ) (c : ℕ) → NoneBefore d c bytes → NoneIn d (drop c bytes) → NoneIn d bytes
none-behind d bytes c none all k =
    elim (cases_lt k c) [
      | inl less ↦ none k less
      | inr more ↦
          let j : ℕ = k - c in
          let e : c + j ≡ k = omega (arith, more) in
          ap (λ x. begins d (drop x bytes)) (sym e) ∙ ap (begins d) (drop-add c j bytes) ∙ all j
    ]

-- where more bytes follow, it stands at none of the places at which it would have room in the first ones
pub none-more : (d bytes more : List ℕ) (c : ℕ) → NoneBefore d c bytes → (c ≡ 0) ⊎ (c + length d ≤ length bytes + 1) → NoneBefore d c (bytes ++ more)
none-more d bytes more c none (inl z) k h = absurd (omega (arith, z, h))
none-more d bytes more c none (inr fits) k h =
    ap (begins d) (drop-front k bytes more (omega (arith, h, fits))) ∙ begins-front d (drop k bytes) more (omega (arith, h, fits, length-drop k bytes)) ∙ none k h

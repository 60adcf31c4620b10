-- Lists that are made element by element, each as its outline says.
use Rattle.std.proofs.Common.{◌≡◌, ℕ, ◌+◌, ◌<◌, ◌≤◌, List, [], ◌∷◌, ◌++◌, length, get_or, map, drop, refl, sym, subst, ap, ◌∙◌, arith, append_assoc, append-nil, add-one, zero, suc}
use Rattle.bt_schema.specs.Pointer.{nth}
use Rattle.bt_making.specs.Sources.{AreMade, AreRefused, Part, Source}
use Rattle.bt_making.specs.declared.refusal.Refusal.{Refusal}
use Rattle.bt_making.proofs.Along.{made_along, refused_before, refused_behind}
use Rattle.bt_outlines.specs.Outlines.{Outline, joined, listed, texts_from}

left_behind : {V R O : Type 0} (reading : V → R) (g : R → O) (vs : List V) (i : ℕ) (d : V) → i < length vs →
    drop i (map g (map reading vs)) ≡ g (reading (get_or vs i d)) ∷ drop (suc i) (map g (map reading vs))
left_behind reading g [] i d inside = absurd (omega arith)
left_behind reading g (v ∷ vs) zero d inside = refl
left_behind reading g (v ∷ vs) (suc i) d inside = left_behind reading g vs i d (omega arith)

-- what is left of what the elements of a list are read as, from a place on
pub left_at : {V R O : Type 0} (reading : V → R) (g : R → O) (vs : List V) (i : ℕ) (d : V) → i < length vs →
    drop i (map g (map reading vs)) ≡ g (reading (get_or vs i d)) ∷ drop (i + 1) (map g (map reading vs))
left_at reading g vs i d inside = rw add-one (left_behind reading g vs i d inside)

pub none_left : {V R O : Type 0} (reading : V → R) (g : R → O) (vs : List V) (i : ℕ) → length vs ≤ i → drop i (map g (map reading vs)) ≡ []
none_left reading g [] zero ended = refl
none_left reading g [] (suc i) ended = refl
none_left reading g (v ∷ vs) zero ended = absurd (omega arith)
none_left reading g (v ∷ vs) (suc i) ended = none_left reading g vs i (omega arith)

-- The first i of the outlines are done: what is made of them is in the list, their texts are made ready, and a refusal of those that
-- are left is one of all.
pub record SoFar {X F : Type 0} (blanked : X → F) (parts : X → List Part) (os : List (Outline F)) (at : List ℕ) (i : ℕ) (out : List X) : Type 0 where
  pub forms : map blanked out ++ map (λ o. o.form) (drop i os) ≡ map (λ o. o.form) os
  pub made : (more : List Part) → AreMade (texts_from at i (drop i os)) more → AreMade (texts_from at 0 os) (joined (map parts out) ++ more)
  pub refused : (r : Refusal) → AreRefused (texts_from at i (drop i os)) r → AreRefused (texts_from at 0 os) r

joined_next : {X : Type 0} (parts : X → List Part) (out : List X) (x : X) (more : List Part) →
    joined (map parts (out ++ x ∷ [])) ++ more ≡ joined (map parts out) ++ (parts x ++ more)
joined_next parts [] x more = ap (λ ps. ps ++ more) (append-nil (parts x))
joined_next parts (y ∷ out) x more =
    append_assoc (parts y) (joined (map parts (out ++ x ∷ []))) more ∙ ap (λ ps. parts y ++ ps) (joined_next parts out x more)
    ∙ sym (append_assoc (parts y) (joined (map parts out)) (parts x ++ more))

forms_next : {X F : Type 0} (f : X → F) (out : List X) (rest : List F) (x : X) (y : F) → f x ≡ y → map f (out ++ x ∷ []) ++ rest ≡ map f out ++ (y ∷ rest)
forms_next f [] rest x y same = ap (λ z. z ∷ rest) same
forms_next f (z ∷ out) rest x y same = ap (λ zs. f z ∷ zs) (forms_next f out rest x y same)

pub none_done : {X F : Type 0} (blanked : X → F) (parts : X → List Part) (os : List (Outline F)) (at : List ℕ) → SoFar blanked parts os at 0 []
none_done blanked parts os at = record { forms = refl; made = λ more h. h; refused = λ r h. h }

one_more : {X F : Type 0} (blanked : X → F) (parts : X → List Part) (os : List (Outline F)) (at : List ℕ) (i : ℕ) (out : List X) (o : Outline F) (x : X) →
    drop i os ≡ o ∷ drop (i + 1) os → blanked x ≡ o.form → AreMade (o.texts (nth at i)) (parts x) →
    SoFar blanked parts os at i out → SoFar blanked parts os at (i + 1) (out ++ x ∷ [])
one_more blanked parts os at i out o x left form made before = record {
  forms = forms_next blanked out (map (λ p. p.form) (drop (i + 1) os)) x o.form form
      ∙ ap (λ l. map blanked out ++ map (λ p. p.form) l) (sym left) ∙ before.forms;
  made = λ more h. subst (AreMade (texts_from at 0 os)) (sym (joined_next parts out x more))
      (before.made (parts x ++ more) (subst (λ l. AreMade (texts_from at i l) (parts x ++ more)) (sym left)
      (made_along (o.texts (nth at i)) (texts_from at (i + 1) (drop (i + 1) os)) (parts x) more made h)));
  refused = λ r h. before.refused r (subst (λ l. AreRefused (texts_from at i l) r) (sym left)
      (refused_behind (o.texts (nth at i)) (texts_from at (i + 1) (drop (i + 1) os)) (parts x) r made h));
}

forms_done : {X F : Type 0} (blanked : X → F) (parts : X → List Part) (os : List (Outline F)) (at : List ℕ) (i : ℕ) (out : List X) →
    drop i os ≡ [] → SoFar blanked parts os at i out → map blanked out ≡ (listed os).form
forms_done blanked parts os at i out left before =
    sym (append-nil (map blanked out)) ∙ ap (λ l. map blanked out ++ map (λ p. p.form) l) (sym left) ∙ before.forms

made_done : {X F : Type 0} (blanked : X → F) (parts : X → List Part) (os : List (Outline F)) (at : List ℕ) (i : ℕ) (out : List X) →
    drop i os ≡ [] → SoFar blanked parts os at i out → AreMade ((listed os).texts at) (joined (map parts out))
made_done blanked parts os at i out left before =
    subst (AreMade (texts_from at 0 os)) (append-nil (joined (map parts out)))
    (before.made [] (subst (λ l. AreMade (texts_from at i l) []) (sym left) tt))

refused_now : {X F : Type 0} (blanked : X → F) (parts : X → List Part) (os : List (Outline F)) (at : List ℕ) (i : ℕ) (out : List X) (o : Outline F) (r : Refusal) →
    drop i os ≡ o ∷ drop (i + 1) os → AreRefused (o.texts (nth at i)) r → SoFar blanked parts os at i out → AreRefused ((listed os).texts at) r
refused_now blanked parts os at i out o r left refused before =
    before.refused r (subst (λ l. AreRefused (texts_from at i l) r) (sym left)
    (refused_before (o.texts (nth at i)) (texts_from at (i + 1) (drop (i + 1) os)) r refused))

-- ---- the same of the outlines of what values are read as

-- a value at a place, and the pointer of it
pub record StandsAt {V : Type 0} (vs : List V) (at : List ℕ) (i : ℕ) (v : V) (here : List ℕ) : Type 0 where
  pub within : i < length vs
  pub there : v ≡ get_or vs i v
  pub pointer : here ≡ nth at i

pub left_there : {V R O : Type 0} (reading : V → R) (g : R → O) (vs : List V) (at : List ℕ) (i : ℕ) (v : V) (here : List ℕ) → StandsAt vs at i v here →
    drop i (map g (map reading vs)) ≡ g (reading v) ∷ drop (i + 1) (map g (map reading vs))
left_there reading g vs at i v here stands =
    left_at reading g vs i v stands.within ∙ ap (λ w. g (reading w) ∷ drop (i + 1) (map g (map reading vs))) (sym stands.there)

pub next : {V R X F : Type 0} (reading : V → R) (blanked : X → F) (parts : X → List Part) (g : R → Outline F) (vs : List V) (at : List ℕ) (i : ℕ) (out new : List X) (v : V) (here : List ℕ) (x : X) →
    StandsAt vs at i v here → new ≡ out ++ x ∷ [] → blanked x ≡ (g (reading v)).form → AreMade ((g (reading v)).texts here) (parts x) →
    SoFar blanked parts (map g (map reading vs)) at i out → SoFar blanked parts (map g (map reading vs)) at (i + 1) new
next reading blanked parts g vs at i out new v here x stands pushed form made before =
    subst (SoFar blanked parts (map g (map reading vs)) at (i + 1)) (sym pushed)
    (one_more blanked parts (map g (map reading vs)) at i out (g (reading v)) x (left_there reading g vs at i v here stands) form
    (subst (λ p. AreMade ((g (reading v)).texts p) (parts x)) stands.pointer made) before)

pub refused_there : {V R X F : Type 0} (reading : V → R) (blanked : X → F) (parts : X → List Part) (g : R → Outline F) (vs items : List V) (at : List ℕ) (i : ℕ) (out : List X) (v : V) (here : List ℕ) (r : Refusal) →
    vs ≡ items → StandsAt vs at i v here → AreRefused ((g (reading v)).texts here) r →
    SoFar blanked parts (map g (map reading vs)) at i out → AreRefused ((listed (map g (map reading items))).texts at) r
refused_there reading blanked parts g vs items at i out v here r same stands refused before =
    subst (λ ws. AreRefused ((listed (map g (map reading ws))).texts at) r) same
    (refused_now blanked parts (map g (map reading vs)) at i out (g (reading v)) r (left_there reading g vs at i v here stands)
    (subst (λ p. AreRefused ((g (reading v)).texts p) r) stands.pointer refused) before)

pub all_formed : {V R X F : Type 0} (reading : V → R) (blanked : X → F) (parts : X → List Part) (g : R → Outline F) (vs items : List V) (at : List ℕ) (i : ℕ) (out : List X) →
    vs ≡ items → length vs ≤ i → SoFar blanked parts (map g (map reading vs)) at i out → map blanked out ≡ (listed (map g (map reading items))).form
all_formed reading blanked parts g vs items at i out same ended before =
    subst (λ ws. map blanked out ≡ (listed (map g (map reading ws))).form) same
    (forms_done blanked parts (map g (map reading vs)) at i out (none_left reading g vs i ended) before)

pub all_made : {V R X F : Type 0} (reading : V → R) (blanked : X → F) (parts : X → List Part) (g : R → Outline F) (vs items : List V) (at : List ℕ) (i : ℕ) (out : List X) →
    vs ≡ items → length vs ≤ i → SoFar blanked parts (map g (map reading vs)) at i out →
    AreMade ((listed (map g (map reading items))).texts at) (joined (map parts out))
all_made reading blanked parts g vs items at i out same ended before =
    subst (λ ws. AreMade ((listed (map g (map reading ws))).texts at) (joined (map parts out))) same
    (made_done blanked parts (map g (map reading vs)) at i out (none_left reading g vs i ended) before)

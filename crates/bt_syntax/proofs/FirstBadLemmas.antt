-- A list of tokens goes wrong at one place.
use Rattle.std.proofs.Common.{◌≡◌, [], ◌∷◌, ◌++◌, ◌⊎◌, inl, inr, refl, sym, ap, ◌∙◌, subst, append_assoc}
use Rattle.bt_syntax.specs.Lexemes.{Lexeme, Lexemes}
use Rattle.bt_syntax.specs.Places.{Viable, NoneFrom, FirstBad}

-- u is a front of v, and t is the next token of v
record Before (u rest v : Lexemes) : Type 0 where
  t : Lexeme
  x : Lexemes
  y : Lexemes
  longer : v ≡ u ++ t ∷ x
  next : rest ≡ t ∷ y

before_more : (t : Lexeme) (u rest v : Lexemes) → Before u rest v → Before (t ∷ u) rest (t ∷ v)
before_more t u rest v b = record { t = b.t; x = b.x; y = b.y; longer = ap (λ z. t ∷ z) b.longer; next = b.next }

-- two ways to cut a list
cuts : (u rest v rest' : Lexemes) → u ++ rest ≡ v ++ rest' → (rest ≡ rest') ⊎ (Before u rest v ⊎ Before v rest' u)
cuts [] rest [] rest' e = inl e
cuts [] rest (t ∷ v) rest' e = inr (inl (record { t = t; x = v; y = v ++ rest'; longer = refl; next = e }))
cuts (t ∷ u) rest [] rest' e = inr (inr (record { t = t; x = u; y = u ++ rest; longer = refl; next = sym e }))
cuts (t ∷ u) rest (t' ∷ v) rest' e = go (cuts u rest v rest' (let e' : u ++ rest ≡ v ++ rest' = cc in e'))
  where
    same : t ≡ t'
    same = cc

    go : (rest ≡ rest') ⊎ (Before u rest v ⊎ Before v rest' u) → (rest ≡ rest') ⊎ (Before (t ∷ u) rest (t' ∷ v) ⊎ Before (t' ∷ v) rest' (t ∷ u))
    go (inl h) = inl h
    go (inr (inl b)) = inr (inl (subst (λ z. Before (t ∷ u) rest (z ∷ v)) same (before_more t u rest v b)))
    go (inr (inr b)) = inr (inr (subst (λ z. Before (z ∷ v) rest' (t ∷ u)) same (before_more t v rest' u b)))

module _ (A : Type 0) (R : A → Lexemes → Type 0) where
  not_viable : (u rest v : Lexemes) → Before u rest v → NoneFrom R u rest → Viable R v → ⊥
  not_viable u rest v b f (a, more, r) =
      (let f' = subst (NoneFrom R u) b.next f in
      f' a (b.x ++ more) (subst (R a) (ap (λ z. z ++ more) b.longer ∙ append_assoc u (b.t ∷ b.x) more) r))

  pub one_place : (ts rest rest' : Lexemes) → FirstBad A R ts rest → FirstBad A R ts rest' → rest ≡ rest'
  one_place ts rest rest' b b' = go (cuts b.u rest b'.u rest' (sym b.whole ∙ b'.whole))
    where
      go : (rest ≡ rest') ⊎ (Before b.u rest b'.u ⊎ Before b'.u rest' b.u) → rest ≡ rest'
      go (inl e) = e
      go (inr (inl x)) = absurd (not_viable b.u rest b'.u x b.bad b'.viable)
      go (inr (inr x)) = absurd (not_viable b'.u rest' b.u x b'.bad b.viable)

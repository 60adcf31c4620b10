-- Readers that see no places.
use Rattle.std.proofs.Common.{◌≡◌, Bool, true, false, cond, List, [], ◌∷◌, map, Option, Some, None, refl, ap, ◌∙◌}
use Rattle.bt_lexer.specs.declared.token.Kind.{Kind}
use Rattle.bt_lexer.specs.declared.token.Kind.TheVariants as k
use Rattle.bt_syntax.specs.declared.keywords.Keyword.{Keyword}
use Rattle.bt_syntax.specs.Lexemes.{Lexeme, Lexemes, reserved}
use Rattle.bt_syntax.specs.Reading.{Res, Got, Stuck, Deep, Reader, and_then, map_res, seq, mapped, pure, token, token_as, starts, branch, many, many_from, go_on, always}
use Rattle.bt_syntax.specs.Readers.{is, is_not, only, passing, expect, expect_reserved, is_reserved, same_keyword, behind, closed, bracketed, comma_after, element, followed, firsts, listed, separated_more, separated, with_first}
use Rattle.bt_tree.specs.Parts.{in_option}
use Rattle.bt_words.specs.Erasing.{erased, res_erased, Blind}

module _ {A A' B B' : Type 0} (f : A → A') (g : B → B') where
  and_then_blind : (q : A → Reader B) (q' : A' → Reader B') → ((a : A) → Blind g (q a) (q' (f a))) → (x : Res A) → and_then (res_erased f x) q' ≡ res_erased g (and_then x q)
  and_then_blind q q' Q (Got a rest) = (Q a).same rest
  and_then_blind q q' Q (Stuck rest) = refl
  and_then_blind q q' Q Deep = refl

  pub seq_blind : {p : Reader A} {p' : Reader A'} (q : A → Reader B) (q' : A' → Reader B') → Blind f p p' → ((a : A) → Blind g (q a) (q' (f a))) → Blind g (seq p q) (seq p' q')
  seq_blind {p} {p'} q q' P Q = record { same = λ ts. ap (λ x. and_then x q') (P.same ts) ∙ and_then_blind q q' Q (p ts) }

  pub map_res_blind : (h : A → B) (h' : A' → B') → ((a : A) → h' (f a) ≡ g (h a)) → (x : Res A) → map_res h' (res_erased f x) ≡ res_erased g (map_res h x)
  map_res_blind h h' same (Got a rest) = ap (λ y. Got y (map erased rest)) (same a)
  map_res_blind h h' same (Stuck rest) = refl
  map_res_blind h h' same Deep = refl

  pub mapped_blind : {p : Reader A} {p' : Reader A'} (h : A → B) (h' : A' → B') → ((a : A) → h' (f a) ≡ g (h a)) → Blind f p p' → Blind g (mapped h p) (mapped h' p')
  mapped_blind {p} {p'} h h' same P = record { same = λ ts. ap (map_res h') (P.same ts) ∙ map_res_blind h h' same (p ts) }

module _ {A A' : Type 0} (f : A → A') where
  pub pure_blind : (a : A) (a' : A') → a' ≡ f a → Blind f (pure a) (pure a')
  pure_blind a a' e = record { same = λ ts. ap (λ y. Got y (map erased ts)) e }

  token_as_blind : (o : Option A) (t : Lexeme) (rest : Lexemes) → token_as (in_option f o) (erased t) (map erased rest) ≡ res_erased f (token_as o t rest)
  token_as_blind None t rest = refl
  token_as_blind (Some a) t rest = refl

  token_same : (m : Lexeme → Option A) (m' : Lexeme → Option A') → ((t : Lexeme) → m' (erased t) ≡ in_option f (m t)) → (ts : Lexemes) → token m' (map erased ts) ≡ res_erased f (token m ts)
  token_same m m' same [] = refl
  token_same m m' same (t ∷ rest) = ap (λ o. token_as o (erased t) (map erased rest)) (same t) ∙ token_as_blind (m t) t rest

  pub token_blind : (m : Lexeme → Option A) (m' : Lexeme → Option A') → ((t : Lexeme) → m' (erased t) ≡ in_option f (m t)) → Blind f (token m) (token m')
  token_blind m m' same = record { same = token_same m m' same }

  pub cond_blind : (b b' : Bool) → b' ≡ b → (x y : Res A) (x' y' : Res A') → x' ≡ res_erased f x → y' ≡ res_erased f y → cond b' x' y' ≡ res_erased f (cond b x y)
  cond_blind true b' e x y x' y' p q = ap (λ c. cond c x' y') e ∙ p
  cond_blind false b' e x y x' y' p q = ap (λ c. cond c x' y') e ∙ q

  pub other_blind : {p : Reader A} {p' : Reader A'} (g : A → A') → ((a : A) → f a ≡ g a) → Blind f p p' → Blind g p p'
  other_blind {p} {p'} g same P = record { same = λ ts. P.same ts ∙ go (p ts) }
    where
      go : (x : Res A) → res_erased f x ≡ res_erased g x
      go (Got a rest) = ap (λ y. Got y (map erased rest)) (same a)
      go (Stuck rest) = refl
      go Deep = refl

pub starts_blind : (h : Lexeme → Bool) → ((t : Lexeme) → h (erased t) ≡ h t) → (ts : Lexemes) → starts h (map erased ts) ≡ starts h ts
starts_blind h same [] = refl
starts_blind h same (t ∷ rest) = same t

module _ {A A' : Type 0} (f : A → A') (h : Lexeme → Bool) (same : (t : Lexeme) → h (erased t) ≡ h t) where
  pub branch_blind : {p q : Reader A} {p' q' : Reader A'} → Blind f p p' → Blind f q q' → Blind f (branch h p q) (branch h p' q')
  branch_blind {p} {q} {p'} {q'} P Q =
      record { same = λ ts. cond_blind f (starts h ts) (starts h (map erased ts)) (starts_blind h same ts) (p ts) (q ts) (p' (map erased ts)) (q' (map erased ts)) (P.same ts) (Q.same ts) }

  module _ (goes : A → Bool) (goes' : A' → Bool) (alike : (a : A) → goes' (f a) ≡ goes a) where
    go_on_blind : (b : Bool) (a : A) (more : Res (List A)) (more' : Res (List A')) (rest : Lexemes) → more' ≡ res_erased (map f) more → go_on b (f a) more' (map erased rest) ≡ res_erased (map f) (go_on b a more rest)
    go_on_blind false a more more' rest e = refl
    go_on_blind true a more more' rest e = ap (map_res (λ xs. f a ∷ xs)) e ∙ map_res_blind (map f) (map f) (λ xs. a ∷ xs) (λ xs. f a ∷ xs) (λ xs. refl) more

    many_from_blind : {p : Reader A} {p' : Reader A'} → Blind f p p' → (turns ts : Lexemes) → many_from h goes' p' (map erased turns) (map erased ts) ≡ res_erased (map f) (many_from h goes p turns ts)
    many_from_blind P [] ts = refl
    many_from_blind {p} {p'} P (t ∷ turns) ts =
        cond_blind (map f) (starts h ts) (starts h (map erased ts)) (starts_blind h same ts)
        (and_then (p ts) (λ a rest. go_on (goes a) a (many_from h goes p turns rest) rest)) (Got [] ts)
        (and_then (p' (map erased ts)) (λ a rest. go_on (goes' a) a (many_from h goes' p' (map erased turns) rest) rest)) (Got [] (map erased ts))
        ((seq_blind f (map f) {p = p} {p' = p'} (λ a rest. go_on (goes a) a (many_from h goes p turns rest) rest) (λ a rest. go_on (goes' a) a (many_from h goes' p' (map erased turns) rest) rest) P
        (λ a. record {
          same = λ rest. ap (λ b. go_on b (f a) (many_from h goes' p' (map erased turns) (map erased rest)) (map erased rest)) (alike a)
              ∙ go_on_blind (goes a) a (many_from h goes p turns rest) (many_from h goes' p' (map erased turns) (map erased rest)) rest (many_from_blind {p = p} {p' = p'} P turns rest);
        })).same ts)
        refl

    pub many_blind : {p : Reader A} {p' : Reader A'} → Blind f p p' → Blind (map f) (many h goes p) (many h goes' p')
    many_blind {p} {p'} P = record { same = λ ts. many_from_blind {p = p} {p' = p'} P ts ts }

-- ---- one token

only_blind : (b : Bool) (t : Lexeme) → only b (erased t) ≡ in_option erased (only b t)
only_blind true t = refl
only_blind false t = refl

pub passing_blind : (h : Lexeme → Bool) → ((t : Lexeme) → h (erased t) ≡ h t) → Blind erased (passing h) (passing h)
passing_blind h same = token_blind erased (λ t. only (h t) t) (λ t. only (h t) t) (λ t. ap (λ b. only b (erased t)) (same t) ∙ only_blind (h t) t)

pub reserved_blind : (t : Lexeme) → reserved (erased t) ≡ reserved t
unfolding reserved
reserved_blind t = refl

pub is_reserved_blind : (v : Keyword) (t : Lexeme) → is_reserved v (erased t) ≡ is_reserved v t
is_reserved_blind v t = ap (same_keyword v) (reserved_blind t)

pub expect_blind : (kd : Kind) → Blind erased (expect kd) (expect kd)
unfolding expect
expect_blind kd = passing_blind (is kd) (λ t. refl)

pub expect_reserved_blind : (v : Keyword) → Blind erased (expect_reserved v) (expect_reserved v)
unfolding expect_reserved
expect_reserved_blind v = passing_blind (is_reserved v) (is_reserved_blind v)

-- ---- the forms of the rules

module _ {A : Type 0} (f : A → A) {p : Reader A} (P : Blind f p p) where
  pub behind_blind : (mark : Kind) → Blind f (behind mark p) (behind mark p)
  behind_blind mark = seq_blind erased f (λ t. p) (λ t. p) (expect_blind mark) (λ t. P)

  pub bracketed_blind : (opening closing : Kind) → Blind f (bracketed opening closing p) (bracketed opening closing p)
  bracketed_blind opening closing =
      seq_blind erased f (λ t. seq p (closed closing)) (λ t. seq p (closed closing)) (expect_blind opening)
      (λ t. seq_blind f f (closed closing) (closed closing) P (λ a. mapped_blind erased f (λ t. a) (λ t. f a) (λ t. refl) (expect_blind closing)))

  abbrev pub paired : A × Bool → A × Bool
  paired x = (f (x.0), x.1)

  element_blind : Blind paired (element p) (element p)
  element_blind =
      seq_blind f paired comma_after comma_after P
      (λ x. branch_blind paired (is k.Comma) (λ t. refl)
      (mapped_blind erased paired (λ t. (x, true)) (λ t. (f x, true)) (λ t. refl) (expect_blind k.Comma))
      (pure_blind paired (x, false) (f x, false) refl))

  firsts_blind : (xs : List (A × Bool)) → firsts (map paired xs) ≡ map f (firsts xs)
  firsts_blind [] = refl
  firsts_blind (x ∷ xs) = ap (λ ys. f (x.0) ∷ ys) (firsts_blind xs)

  pub listed_blind : (closing : Kind) → Blind (map f) (listed closing p) (listed closing p)
  listed_blind closing = mapped_blind (map paired) (map f) firsts firsts firsts_blind (many_blind paired (is_not closing) (λ t. refl) followed followed (λ x. refl) element_blind)

  module _ (h : Lexeme → Bool) (same : (t : Lexeme) → h (erased t) ≡ h t) where
    pub separated_more_blind : Blind (map f) (separated_more h p) (separated_more h p)
    separated_more_blind = many_blind f h same always always (λ x. refl) (seq_blind erased f (λ t. p) (λ t. p) (passing_blind h same) (λ t. P))

    pub separated_blind : Blind (map f) (separated h p) (separated h p)
    separated_blind =
        seq_blind f (map f) (λ x. mapped (with_first x) (separated_more h p)) (λ x. mapped (with_first x) (separated_more h p)) P
        (λ x. mapped_blind (map f) (map f) (with_first x) (with_first (f x)) (λ xs. refl) separated_more_blind)

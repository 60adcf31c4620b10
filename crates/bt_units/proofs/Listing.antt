-- Lists that are made element by element.
use Rattle.std.proofs.Common.{◌≡◌, ◌<◌, ◌≤◌, ◌+◌, ℕ, zero, suc, List, [], ◌∷◌, ◌++◌, length, take, drop, get_or, Option, Some, None, slice_get, refl, sym, ap, subst, ◌∙◌, arith, add-one, append_assoc, append-nil}
use Rattle.std.proofs.lemmas.List.{take_more, take_all}
use Rattle.std.proofs.lemmas.Grind.{flat_map-append}
use Rattle.bt_batches.specs.declared.piece.Piece.{Piece}
use Rattle.bt_expectations.specs.Conditions.{name_of}
use Rattle.bt_expectations.specs.declared.condition.Condition.{Condition}
use Rattle.bt_expectations.specs.declared.condition.Expectation.{Expectation}
use Rattle.bt_making.specs.declared.refusal.Refusal.{Refusal}
use Rattle.bt_making.specs.declared.refusal.Refusal.TheVariants as refusal
use Rattle.bt_schema.specs.Pointer.{nth, under}
use Rattle.bt_schema.specs.declared.lints.Lint.{Lint}
use Rattle.bt_value.specs.Keys.{find}
use Rattle.bt_value.specs.declared.val.Val.{Val}
use Rattle.bt_units.specs.Expected.{AreMade, Each, IsLintOf, IsMade, IsMadeOf, IsOfMember, IsOfMembers, IsOfSome, IsRefusedBy, Puts, if_there, named_in}
use Rattle.bt_units.specs.Input.{message, pieces_from}

-- ---- related lists

module _ {A B : Type 0} (R : A → B → Type 0) where
  more : (xs : List A) (ys : List B) (i : ℕ) (d : A) (y : B) → i < length xs → R (get_or xs i d) y → Each R (take i xs) ys → Each R (take (suc i) xs) (ys ++ y ∷ [])
  more [] ys i d y h r e = absurd (omega arith)
  more (x ∷ xs) [] zero d y h r e = (r, tt)
  more (x ∷ xs) (z ∷ ys) zero d y h r e = absurd e
  more (x ∷ xs) [] (suc i) d y h r e = absurd e
  more (x ∷ xs) (z ∷ ys) (suc i) d y h r e = (e.0, more xs ys i d y (omega arith) r e.1)

  -- one more pair
  pub one_more : (xs : List A) (ys new : List B) (i : ℕ) (x : A) (y : B) → i < length xs → x ≡ get_or xs i x → R x y → new ≡ ys ++ y ∷ [] →
      Each R (take i xs) ys → Each R (take (i + 1) xs) new
  one_more xs ys new i x y h there r pushed e =
      rw (pushed, add-one) (more xs ys i x y h (subst (λ a. R a y) there r) e)

  -- no pair is left
  pub all_done : (xs : List A) (ys : List B) (i : ℕ) → length xs ≤ i → Each R (take i xs) ys → Each R xs ys
  all_done xs ys i h e = subst (λ l. Each R l ys) (take_all i xs h) e

  pub together : (xs zs : List A) (ys ws : List B) → Each R xs ys → Each R zs ws → Each R (xs ++ zs) (ys ++ ws)
  together [] zs [] ws e f = f
  together [] zs (y ∷ ys) ws e f = absurd e
  together (x ∷ xs) zs [] ws e f = absurd e
  together (x ∷ xs) zs (y ∷ ys) ws e f = (e.0, together xs zs ys ws e.1 f)

-- ---- conditions that members name

pub put_one : (c : Condition) (v : Val) (e : Expectation) (old new : List Expectation) → IsMade c v e → new ≡ old ++ e ∷ [] → Puts ((c, v) ∷ []) old new
put_one c v e old new made pushed = record { own = e ∷ []; are_made = (made, tt); put = pushed }

-- a member names the condition, or none does
pub put_found : (c : Condition) (found : Option Val) (v : Val) (old new : List Expectation) → found ≡ Some v → Puts ((c, v) ∷ []) old new → Puts (if_there c found) old new
put_found c found v old new is put = subst (λ (q : Option Val). Puts (if_there c q) old new) (sym is) put

pub put_none : (c : Condition) (found : Option Val) (old : List Expectation) → found ≡ None → Puts (if_there c found) old old
put_none c found old is =
    let none : Puts [] old old = record { own = []; are_made = tt; put = sym (append-nil old) } in
    subst (λ (q : Option Val). Puts (if_there c q) old old) (sym is) none

-- one more of the conditions
pub next_named : (ms : List (List ℕ × Val)) (cs : List Condition) (i : ℕ) (d : Condition) (out new : List Expectation) → i < length cs →
    Puts (if_there (get_or cs i d) (find (name_of (get_or cs i d)) ms)) out new → AreMade (named_in ms (take i cs)) out → AreMade (named_in ms (take (i + 1) cs)) new
next_named ms cs i d out new h put before =
    let f : Condition → List (Condition × Val) = λ k. if_there k (find (name_of k) ms) in
    let c : Condition = get_or cs i d in
    let split : named_in ms (take (i + 1) cs) ≡ named_in ms (take i cs) ++ f c =
    ap (named_in ms) (take_more cs i d h) ∙ flat_map-append f (take i cs) (c ∷ []) ∙ ap (λ (l : List (Condition × Val)). named_in ms (take i cs) ++ l) (append-nil (f c)) in
    let along : AreMade (named_in ms (take i cs) ++ f c) (out ++ put.own) = together IsMadeOf (named_in ms (take i cs)) (f c) out put.own before put.are_made in
    subst (λ (qs : List (Condition × Val)). AreMade qs new) (sym split) (subst (AreMade (named_in ms (take i cs) ++ f c)) (sym put.put) along)

pub all_named : (ms : List (List ℕ × Val)) (cs : List Condition) (i : ℕ) (out : List Expectation) → length cs ≤ i → AreMade (named_in ms (take i cs)) out →
    AreMade (named_in ms cs) out
all_named ms cs i out h e = subst (λ l. AreMade (named_in ms l) out) (take_all i cs h) e

-- ---- an element of a list

there : {A : Type 0} (xs : List A) (i : ℕ) (d : A) → i < length xs → slice_get xs i ≡ Some (get_or xs i d)
there [] i d h = absurd (omega arith)
there (x ∷ xs) zero d h = refl
there (x ∷ xs) (suc i) d h = there xs i d (omega arith)

-- what an element is refused for is a lint of some element
pub of_some : (P : List ℕ → Val → Lint → Type 0) (at here : List ℕ) (vs : List Val) (i : ℕ) (v : Val) (r : Refusal) → i < length vs → v ≡ get_or vs i v → here ≡ nth at i →
    IsRefusedBy (P here v) r → IsRefusedBy (IsOfSome P at vs) r
of_some P at here vs i v (refusal.Lint l) h is pointer q = (i, v, there vs i v h ∙ ap Some (sym is), subst (λ a. P a v l) pointer q)
of_some P at here vs i v refusal.NoMemory h is pointer q = tt

-- what a member is refused for is a lint of some member
pub of_member : (at : List ℕ) (c : Condition) (ms : List (List ℕ × Val)) (r : Refusal) → IsRefusedBy (IsOfMember at c ms) r → IsRefusedBy (IsOfMembers at ms) r
of_member at c ms (refusal.Lint l) h = (c, h)
of_member at c ms refusal.NoMemory h = tt

-- of the condition that a member names
pub of_found : (at : List ℕ) (c : Condition) (ms : List (List ℕ × Val)) (v : Val) (r : Refusal) → find (name_of c) ms ≡ Some v →
    IsRefusedBy (IsLintOf (under at (name_of c)) c v) r → IsRefusedBy (IsOfMember at c ms) r
of_found at c ms v (refusal.Lint l) found h = (v, found, h)
of_found at c ms v refusal.NoMemory found h = tt

-- ---- messages

pieces_left : (vs : List Val) (i j : ℕ) (d : Val) → i < length vs →
    pieces_from j (drop i vs) ≡ record { msg = message (get_or vs i d); from = j ∷ [] } ∷ pieces_from (j + 1) (drop (suc i) vs)
pieces_left [] i j d h = absurd (omega arith)
pieces_left (v ∷ vs) zero j d h = refl
pieces_left (v ∷ vs) (suc i) j d h = pieces_left vs i j d (omega arith)

pub next_piece : (vs : List Val) (i : ℕ) (v : Val) (out new all : List Piece) → i < length vs → v ≡ get_or vs i v →
    new ≡ out ++ record { msg = message v; from = i ∷ [] } ∷ [] → out ++ pieces_from i (drop i vs) ≡ all → new ++ pieces_from (i + 1) (drop (i + 1) vs) ≡ all
next_piece vs i v out new all h is pushed before =
    let rest = pieces_from (i + 1) (drop (suc i) vs) in
    let next : Val → Piece = λ w. record { msg = message w; from = i ∷ [] } in
    ap (λ (k : ℕ). new ++ pieces_from (i + 1) (drop k vs)) (add-one i)
    ∙ ap (λ l. l ++ rest) pushed ∙ append_assoc out (next v ∷ []) rest
    ∙ ap (λ w. out ++ (next w ∷ rest)) is ∙ ap (λ l. out ++ l) (sym (pieces_left vs i i v h)) ∙ before

none_left : (vs : List Val) (i j : ℕ) → length vs ≤ i → pieces_from j (drop i vs) ≡ []
none_left [] zero j h = refl
none_left [] (suc i) j h = refl
none_left (v ∷ vs) zero j h = absurd (omega arith)
none_left (v ∷ vs) (suc i) j h = none_left vs i j (omega arith)

pub all_pieces : (vs : List Val) (i : ℕ) (out all : List Piece) → length vs ≤ i → out ++ pieces_from i (drop i vs) ≡ all → out ≡ all
all_pieces vs i out all h before = sym (append-nil out) ∙ ap (λ l. out ++ l) (sym (none_left vs i i h)) ∙ before

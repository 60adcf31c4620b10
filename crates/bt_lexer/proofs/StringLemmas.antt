-- Where the two forms of a text end.
use Rattle.std.proofs.Common.{◌≡◌, ℕ, zero, suc, ◌+◌, ◌-◌, ◌≤◌, ◌<◌, Bool, true, false, ◌&&◌, ◌||◌, List, [], ◌∷◌, ◌++◌, length, take, drop, get_or, refl, sym, subst, ap, ◌∙◌, ◌⊎◌, inl, inr, ⊎_elim, arith, Option, Some, None, nat_eq, nat_lt, if◌then◌else◌, length-drop, take-append-drop, add-zero, append_assoc}
use Rattle.std.proofs.lemmas.Bool.Decides.{nat_tests}
use Rattle.std.proofs.lemmas.List.{length-take-le, drop_more, drop-drop}
use Rattle.bt_lexer.specs.declared.token.Kind.{Kind}
use Rattle.bt_lexer.specs.declared.token.Kind.TheVariants.{Text}
use Rattle.bt_lexer.specs.Bytes.{quote, is_quote, begins}
use Rattle.bt_lexer.specs.Strings.{Part, part_at, len_of, is_empty, is_closed, is_quoted, begins_tripled, ends_tripled, is_tripled}
use Rattle.bt_lexer.specs.Kinds.{kind_of, is_text}
use Rattle.bt_lexer.specs.Tokens.{NoToken}
use Rattle.bt_lexer.specs.Fronts.{FindsFront, BeginsToken}
use Rattle.bt_lexer.proofs.KindLemmas.{kind-quote, kind-tripled, kind-empty, and_left, and_right, false_left, false_right, nat_eq_same}
use Rattle.bt_lexer.proofs.PartLemmas.{part_more, part_less, part_fits}

some_part : (o : Option Part) → nat_lt 0 (len_of o) ≡ true → (p : Part) × (o ≡ Some p)
some_part None h = let x : nat_lt 0 0 ≡ true = h in cc
some_part (Some p) h = (p, refl)

and_true : (a b : Bool) → a ≡ true → b ≡ true → (a && b) ≡ true
and_true a b h k = rw h k

-- the form of is_closed where a part may begin
abbrev closed_here : (c : ℕ) (v : List ℕ) (b : Bool) → Option Part → Bool
closed_here c v b o = if b then is_empty v else nat_lt 0 (len_of o) && is_closed v (len_of o - 1)

-- a text that is closed isn't closed once more later
pub closed_once : (x : List ℕ) (skip c : ℕ) (v : List ℕ) → is_closed x skip ≡ true → is_closed (x ++ c ∷ v) skip ≡ false
closed_once [] skip c v h = absurd (cc)
closed_once (d ∷ x) (suc skip) c v h = closed_once x skip c v h
closed_once (d ∷ x) zero c v h = go (nat_eq d quote) h (λ skip h. closed_once x skip c v h)
  where
    part : (o : Option Part) → part_at (d ∷ x) ≡ o → nat_lt 0 (len_of o) ≡ true → is_closed x (len_of o - 1) ≡ true → ((skip : ℕ) → is_closed x skip ≡ true → is_closed (x ++ c ∷ v) skip ≡ false) →
        closed_here d (x ++ c ∷ v) false (part_at (d ∷ (x ++ c ∷ v))) ≡ false
    part None e some h ih = let z : nat_lt 0 0 ≡ true = some in cc
    part (Some p) e some h ih = rw (part_more (d ∷ x) (c ∷ v) p e) (false_right (nat_lt 0 p.len) _ (ih (p.len - 1) h))

    end : (x : List ℕ) → is_empty x ≡ true → is_empty (x ++ c ∷ v) ≡ false
    end [] h = refl
    end (y ∷ x) h = absurd (cc)

    go : (b : Bool) → closed_here d x b (part_at (d ∷ x)) ≡ true → ((skip : ℕ) → is_closed x skip ≡ true → is_closed (x ++ c ∷ v) skip ≡ false) → closed_here d (x ++ c ∷ v) b (part_at (d ∷ (x ++ c ∷ v))) ≡ false
    go true h ih = end x h
    go false h ih = part (part_at (d ∷ x)) refl (and_left _ _ h) (and_right _ _ h) ih

-- the place after the closing quotation mark, counted from n
abbrev pub quoted_end : List ℕ → ℕ → ℕ → Option ℕ
quoted_end [] skip n = None
quoted_end (c ∷ v) (suc skip) n = quoted_end v skip (n + 1)
quoted_end (c ∷ v) zero n = if nat_eq c quote then Some (n + 1) else if nat_lt 0 (len_of (part_at (c ∷ v))) then quoted_end v (len_of (part_at (c ∷ v)) - 1) (n + 1) else None

pub record Closes (v : List ℕ) (skip n m : ℕ) : Type 0 where
  pub j : ℕ
  pub place : m ≡ n + suc j
  pub within : suc j ≤ length v
  pub past : skip ≤ j
  pub closed : is_closed (take (suc j) v) skip ≡ true

some_same : (m n : ℕ) → Some n ≡ Some m → m ≡ n
some_same m n h = cc

pub quoted_end_found : (v : List ℕ) (skip n m : ℕ) → quoted_end v skip n ≡ Some m → Closes v skip n m
quoted_end_found [] skip n m h = absurd (cc)
quoted_end_found (c ∷ v) (suc skip) n m h = next (quoted_end_found v skip (n + 1) m h)
  where
    next : Closes v skip (n + 1) m → Closes (c ∷ v) (suc skip) n m
    next x = record { j = suc x.j; place = (let e = x.place in omega arith); within = (let e = x.within in omega arith); past = (let e = x.past in omega arith); closed = x.closed }
quoted_end_found (c ∷ v) zero n m h = go (nat_eq c quote) refl h (λ skip h. quoted_end_found v skip (n + 1) m h)
  where
    part : nat_eq c quote ≡ false → (o : Option Part) → part_at (c ∷ v) ≡ o → nat_lt 0 (len_of o) ≡ true → Closes v (len_of o - 1) (n + 1) m → Closes (c ∷ v) zero n m
    part q None e some x = let z : nat_lt 0 0 ≡ true = some in absurd (cc)
    part q (Some p) e some x =
        let fits : p.len ≤ 1 + length (take (suc x.j) v) = (let a = x.past in let b = length-take-le (suc x.j) v x.within in omega arith) in
        let whole : part_at (c ∷ (take (suc x.j) v ++ drop (suc x.j) v)) ≡ Some p = rw (take-append-drop (suc x.j) v) e in
        let front : part_at (c ∷ take (suc x.j) v) ≡ Some p = part_less c (take (suc x.j) v) (drop (suc x.j) v) p whole fits in
        record {
          j = suc x.j;
          place = (let e = x.place in omega arith);
          within = (let e = x.within in omega arith);
          past = omega arith;
          closed = subst (λ b. closed_here c (take (suc x.j) v) b (part_at (c ∷ take (suc x.j) v)) ≡ true) (sym q)
              (subst (λ o. closed_here c (take (suc x.j) v) false o ≡ true) (sym front) (and_true (nat_lt 0 p.len) _ some x.closed));
        }

    either : nat_eq c quote ≡ false → (b : Bool) → nat_lt 0 (len_of (part_at (c ∷ v))) ≡ b → (if b then quoted_end v (len_of (part_at (c ∷ v)) - 1) (n + 1) else None) ≡ Some m →
        ((skip : ℕ) → quoted_end v skip (n + 1) ≡ Some m → Closes v skip (n + 1) m) → Closes (c ∷ v) zero n m
    either q true some h ih = part q (part_at (c ∷ v)) refl some (ih (len_of (part_at (c ∷ v)) - 1) h)
    either q false some h ih = absurd (cc)

    go : (b : Bool) → nat_eq c quote ≡ b → (if b then Some (n + 1) else if nat_lt 0 (len_of (part_at (c ∷ v))) then quoted_end v (len_of (part_at (c ∷ v)) - 1) (n + 1) else None) ≡ Some m →
        ((skip : ℕ) → quoted_end v skip (n + 1) ≡ Some m → Closes v skip (n + 1) m) → Closes (c ∷ v) zero n m
    go true q h ih = record { j = 0; place = (let e : m ≡ n + 1 = some_same m (n + 1) h in omega arith); within = omega arith; past = omega arith; closed = rw q refl }
    go false q h ih = either q (nat_lt 0 (len_of (part_at (c ∷ v)))) refl h ih

-- where none is found, no front is closed
pub quoted_end_none : (u w : List ℕ) (skip n : ℕ) → quoted_end (u ++ w) skip n ≡ None → is_closed u skip ≡ false
quoted_end_none [] w skip n h = refl
quoted_end_none (c ∷ u) w (suc skip) n h = quoted_end_none u w skip (n + 1) h
quoted_end_none (c ∷ u) w zero n h = go (nat_eq c quote) refl h (λ skip h. quoted_end_none u w skip (n + 1) h)
  where
    part : (o : Option Part) → part_at (c ∷ u) ≡ o → (if nat_lt 0 (len_of (part_at (c ∷ (u ++ w)))) then quoted_end (u ++ w) (len_of (part_at (c ∷ (u ++ w))) - 1) (n + 1) else None) ≡ None →
        ((skip : ℕ) → quoted_end (u ++ w) skip (n + 1) ≡ None → is_closed u skip ≡ false) → closed_here c u false o ≡ false
    part None e h ih = refl
    part (Some p) e h ih = some (nat_lt 0 p.len) refl (subst (λ o. (if nat_lt 0 (len_of o) then quoted_end (u ++ w) (len_of o - 1) (n + 1) else None) ≡ None) (part_more (c ∷ u) w p e) h)
      where
        some : (b : Bool) → nat_lt 0 p.len ≡ b → (if b then quoted_end (u ++ w) (p.len - 1) (n + 1) else None) ≡ None → (b && is_closed u (p.len - 1)) ≡ false
        some true e h = ih (p.len - 1) h
        some false e h = refl

    go : (b : Bool) → nat_eq c quote ≡ b → (if b then Some (n + 1) else if nat_lt 0 (len_of (part_at (c ∷ (u ++ w)))) then quoted_end (u ++ w) (len_of (part_at (c ∷ (u ++ w))) - 1) (n + 1) else None) ≡ None →
        ((skip : ℕ) → quoted_end (u ++ w) skip (n + 1) ≡ None → is_closed u skip ≡ false) → closed_here c u b (part_at (c ∷ u)) ≡ false
    go true q h ih = let x : Some (n + 1) ≡ None = h in cc
    go false q h ih = part (part_at (c ∷ u)) refl h ih

-- the bytes of a part are passed one by one
pub quoted_end_skip : (v : List ℕ) (k n : ℕ) → quoted_end v k n ≡ quoted_end (drop k v) 0 (n + k)
quoted_end_skip [] zero n = refl
quoted_end_skip [] (suc k) n = refl
quoted_end_skip (c ∷ v) zero n = rw add-zero refl
quoted_end_skip (c ∷ v) (suc k) n = let e : (n + 1) + k ≡ n + suc k = omega arith in quoted_end_skip v k (n + 1) ∙ ap (quoted_end (drop k v) 0) e

-- the place of the first three quotation marks in a row, counted from n
abbrev pub tripled_place : List ℕ → ℕ → Option ℕ
tripled_place [] n = None
tripled_place (c ∷ v) n = if begins_tripled (c ∷ v) then Some n else tripled_place v (n + 1)

pub record Ends (v : List ℕ) (n m : ℕ) : Type 0 where
  pub j : ℕ
  pub place : m ≡ n + j
  pub within : 3 + j ≤ length v
  pub ends : ends_tripled (take (suc (suc (suc j))) v) ≡ true

-- three quotation marks at the front of a front are at the front
pub more_tripled : (u v : List ℕ) → begins_tripled u ≡ true → begins_tripled (u ++ v) ≡ true
more_tripled [] v h = absurd (cc)
more_tripled (a ∷ []) v h = absurd (cc)
more_tripled (a ∷ b ∷ []) v h = absurd (cc)
more_tripled (a ∷ b ∷ c ∷ u) v h = h

less_tripled : (u v : List ℕ) → begins_tripled (u ++ v) ≡ false → begins_tripled u ≡ false
less_tripled u v h = go (begins_tripled u) refl
  where
    go : (b : Bool) → begins_tripled u ≡ b → b ≡ false
    go false e = refl
    go true e = let x : true ≡ false = sym (more_tripled u v e) ∙ h in cc

pub tripled_place_found : (v : List ℕ) (n m : ℕ) → tripled_place v n ≡ Some m → Ends v n m
tripled_place_found [] n m h = absurd (cc)
tripled_place_found (c ∷ v) n m h = go (begins_tripled (c ∷ v)) refl h (λ h. tripled_place_found v (n + 1) m h)
  where
    three : (v : List ℕ) → begins_tripled (c ∷ v) ≡ true → m ≡ n → Ends (c ∷ v) n m
    three [] h e = absurd (cc)
    three (d ∷ []) h e = absurd (cc)
    three (d ∷ f ∷ v) h e = record { j = 0; place = omega arith; within = omega arith; ends = rw h refl }

    later : begins_tripled (c ∷ v) ≡ false → Ends v (n + 1) m → Ends (c ∷ v) n m
    later h x =
        let k = suc (suc (suc x.j)) in
        let front : begins_tripled (c ∷ take k v) ≡ false = less_tripled (c ∷ take k v) (drop k v) (subst (λ y. begins_tripled (c ∷ y) ≡ false) (sym (take-append-drop k v)) h) in
        record { j = suc x.j; place = (let e = x.place in omega arith); within = (let e = x.within in omega arith); ends = rw front x.ends }

    go : (b : Bool) → begins_tripled (c ∷ v) ≡ b → (if b then Some n else tripled_place v (n + 1)) ≡ Some m → (tripled_place v (n + 1) ≡ Some m → Ends v (n + 1) m) → Ends (c ∷ v) n m
    go true e h ih = three v e (some_same m n h)
    go false e h ih = later e (ih h)

pub tripled_place_none : (u w : List ℕ) (n : ℕ) → tripled_place (u ++ w) n ≡ None → ends_tripled u ≡ false
tripled_place_none [] w n h = refl
tripled_place_none (c ∷ u) w n h = go (begins_tripled (c ∷ (u ++ w))) refl h (λ h. tripled_place_none u w (n + 1) h)
  where
    go : (b : Bool) → begins_tripled (c ∷ (u ++ w)) ≡ b → (if b then Some n else tripled_place (u ++ w) (n + 1)) ≡ None → (tripled_place (u ++ w) (n + 1) ≡ None → ends_tripled u ≡ false) → ends_tripled (c ∷ u) ≡ false
    go true e h ih = let x : Some n ≡ None = h in absurd (cc)
    go false e h ih = rw (less_tripled (c ∷ u) w e) (ih h)

not_two : (n : ℕ) → nat_eq (suc (suc (suc n))) 2 ≡ false
not_two n = grind (arith, nat_tests)

-- what ends once doesn't end again
pub ends_once : (u : List ℕ) (c : ℕ) (v : List ℕ) → ends_tripled u ≡ true → ends_tripled (u ++ c ∷ v) ≡ false
ends_once [] c v h = absurd (cc)
ends_once (a ∷ []) c v h = absurd (cc)
ends_once (a ∷ b ∷ []) c v h = absurd (cc)
ends_once (a ∷ b ∷ d ∷ u) c v h = go (begins_tripled (a ∷ b ∷ d ∷ u)) refl h (λ h. ends_once (b ∷ d ∷ u) c v h)
  where
    longer : (u : List ℕ) → nat_eq (length (b ∷ d ∷ u)) 2 ≡ true → nat_eq (length (b ∷ d ∷ (u ++ c ∷ v))) 2 ≡ false
    longer [] h = not_two (length v)
    longer (e ∷ u) h = let x : length (b ∷ d ∷ e ∷ u) ≡ 2 = grind (arith, nat_tests) in absurd (omega arith)

    go : (t : Bool) → begins_tripled (a ∷ b ∷ d ∷ u) ≡ t → (if t then nat_eq (length (b ∷ d ∷ u)) 2 else ends_tripled (b ∷ d ∷ u)) ≡ true → (ends_tripled (b ∷ d ∷ u) ≡ true → ends_tripled (b ∷ d ∷ (u ++ c ∷ v)) ≡ false) →
        (if t then nat_eq (length (b ∷ d ∷ (u ++ c ∷ v))) 2 else ends_tripled (b ∷ d ∷ (u ++ c ∷ v))) ≡ false
    go true e h ih = longer u h
    go false e h ih = ih h

begins_quote : (s : List ℕ) → begins is_quote s ≡ true → (v : List ℕ) × (s ≡ quote ∷ v)
begins_quote [] h = absurd (cc)
begins_quote (c ∷ v) h = (v, ap (λ y. y ∷ v) (nat_eq_same c quote h))

quoted_or_tripled : (b c : Bool) (k : Kind) → (if b || c then Some Text else None) ≡ Some k → (b ≡ true) ⊎ (c ≡ true)
quoted_or_tripled true c k h = inl refl
quoted_or_tripled false true k h = inr refl
quoted_or_tripled false false k h = absurd (cc)

abbrev some_kind : Kind → Option Kind
some_kind k = Some k

-- the kind of what begins with a quotation mark
text_kind : (u v : List ℕ) → u ≡ quote ∷ v → kind_of u ≡ (if is_text u then Some Text else None)
text_kind u v e = subst (λ y. kind_of y ≡ (if is_text y then Some Text else None)) (sym e) (kind-quote v)

-- a front of what begins with a quotation mark begins with it, or is empty
front_quote : (s u rest v : List ℕ) → s ≡ quote ∷ v → s ≡ u ++ rest → (u ≡ []) ⊎ ((w : List ℕ) × (u ≡ quote ∷ w))
front_quote s [] rest v e h = inl refl
front_quote s (c ∷ u) rest v e h = let x : c ∷ (u ++ rest) ≡ quote ∷ v = sym h ∙ e in let y : c ≡ quote = cc in inr (u, ap (λ z. z ∷ u) y)

quoted_kind : (u : List ℕ) → is_quoted u ≡ true → kind_of u ≡ Some Text
quoted_kind [] h = absurd (cc)
quoted_kind (c ∷ v) h = let e = nat_eq_same c quote (and_left _ _ h) in text_kind (c ∷ v) v (ap (λ y. y ∷ v) e) ∙ (rw h refl)

quoted_once : (u : List ℕ) (c : ℕ) (v : List ℕ) → is_quoted u ≡ true → is_quoted (u ++ c ∷ v) ≡ false
quoted_once [] c v h = absurd (cc)
quoted_once (d ∷ u) c v h = false_right (nat_eq d quote) _ (closed_once u 0 c v (and_right _ _ h))

tripled_false : (u : List ℕ) → begins_tripled u ≡ false → is_tripled u ≡ false
tripled_false u h = false_left _ _ h

-- of what begins with a quotation mark and not with three, only the first form is a text
plain_kind : (u v : List ℕ) → u ≡ quote ∷ v → begins_tripled u ≡ false → is_quoted u ≡ false → kind_of u ≡ None
plain_kind u v e t q = text_kind u v e ∙ (rw (q, tripled_false u t) refl)

module _ (s : List ℕ) (starts : begins is_quote s ≡ true) where
  pub quoted_token : (n : ℕ) → begins_tripled s ≡ false → FindsFront is_quoted s (Some n) → BeginsToken Text n s
  quoted_token n t (within, is) = record {
    some = some n is;
    within = within;
    is = record {
      has = quoted_kind (take n s) is;
      longest = λ c v w e. longest c v w e;
      tripled = λ h. (let x : begins_tripled s ≡ true = subst (λ y. begins_tripled y ≡ true) (take-append-drop n s) h in let y : true ≡ false = sym x ∙ t in cc);
    };
  }
    where
      some : (n : ℕ) → is_quoted (take n s) ≡ true → 0 < n
      some zero h = absurd (cc)
      some (suc n) h = omega arith

      longest : (c : ℕ) (v w : List ℕ) → drop n s ≡ c ∷ (v ++ w) → kind_of (take n s ++ c ∷ v) ≡ None
      longest c v w e =
          let whole : s ≡ (take n s ++ c ∷ v) ++ w = sym (take-append-drop n s) ∙ ap (λ y. take n s ++ y) e ∙ sym (append_assoc (take n s) (c ∷ v) w) in
          let front : begins_tripled (take n s ++ c ∷ v) ≡ false = less_tripled (take n s ++ c ∷ v) w (subst (λ y. begins_tripled y ≡ false) whole t) in
          let (x, begin) = begins_quote s starts in
          ⊎_elim (λ none. absurd (not_empty (take n s) c v none)) (λ f. plain_kind (take n s ++ c ∷ v) f.0 f.1 front (quoted_once (take n s) c v is)) (front_quote s (take n s ++ c ∷ v) w x begin whole)
        where
          not_empty : (u : List ℕ) (c : ℕ) (v : List ℕ) → u ++ c ∷ v ≡ [] → ⊥
          not_empty [] c v h = cc
          not_empty (d ∷ u) c v h = cc

  pub no_quoted_token : begins_tripled s ≡ false → FindsFront is_quoted s None → NoToken s
  no_quoted_token t none k u rest e w =
      let (x, begin) = begins_quote s starts in
      let front : begins_tripled u ≡ false = less_tripled u rest (subst (λ y. begins_tripled y ≡ false) e t) in
      ⊎_elim
      (λ h. (let y : None ≡ some_kind k = sym (ap kind_of h ∙ kind-empty) ∙ w.has in cc))
      (λ f. (let y : None ≡ some_kind k = sym (plain_kind u f.0 f.1 front (none u rest e)) ∙ w.has in cc))
      (front_quote s u rest x begin e)

pub tripled_token : (s : List ℕ) (n : ℕ) → FindsFront is_tripled s (Some n) → BeginsToken Text n s
tripled_token s n (within, is) = record {
  some = some n is;
  within = within;
  is = record {
    has = kind-tripled (take n s) front ∙ (rw is refl);
    longest = λ c v w e. kind-tripled (take n s ++ c ∷ v) (more_tripled (take n s) (c ∷ v) front) ∙ (rw (once c v) refl);
    tripled = λ h. is;
  };
}
  where
    some : (n : ℕ) → is_tripled (take n s) ≡ true → 0 < n
    some zero h = absurd (cc)
    some (suc n) h = omega arith

    front : begins_tripled (take n s) ≡ true
    front = and_left (begins_tripled (take n s)) (ends_tripled (drop 3 (take n s))) is

    past : (u : List ℕ) (c : ℕ) (v : List ℕ) → begins_tripled u ≡ true → ends_tripled (drop 3 u) ≡ true → ends_tripled (drop 3 (u ++ c ∷ v)) ≡ false
    past [] c v h e = absurd (cc)
    past (x ∷ []) c v h e = absurd (cc)
    past (x ∷ y ∷ []) c v h e = absurd (cc)
    past (x ∷ y ∷ z ∷ u) c v h e = ends_once u c v e

    once : (c : ℕ) (v : List ℕ) → is_tripled (take n s ++ c ∷ v) ≡ false
    once c v = false_right (begins_tripled (take n s ++ c ∷ v)) (ends_tripled (drop 3 (take n s ++ c ∷ v))) (past (take n s) c v front (and_right (begins_tripled (take n s)) (ends_tripled (drop 3 (take n s))) is))

pub no_tripled_token : (s : List ℕ) → begins_tripled s ≡ true → FindsFront is_tripled s None → NoToken s
no_tripled_token s t none k u rest e w =
    let is = w.tripled (subst (λ y. begins_tripled y ≡ true) e t) in
    let x : true ≡ false = sym is ∙ none u rest e in cc

-- the loops' answers, as fronts
pub quoted_found : (s : List ℕ) (m : ℕ) → begins is_quote s ≡ true → quoted_end (drop 1 s) 0 1 ≡ Some m → FindsFront is_quoted s (Some m)
quoted_found [] m starts h = absurd (cc)
quoted_found (c ∷ v) m starts h = go (quoted_end_found v 0 1 m h)
  where
    go : Closes v 0 1 m → FindsFront is_quoted (c ∷ v) (Some m)
    go x =
        let place : m ≡ suc (suc x.j) = (let e = x.place in omega arith) in
        subst (λ y. FindsFront is_quoted (c ∷ v) (Some y)) (sym place) ((let e = x.within in omega arith), and_true (nat_eq c quote) _ starts x.closed)

pub quoted_not_found : (s : List ℕ) → quoted_end (drop 1 s) 0 1 ≡ None → FindsFront is_quoted s None
quoted_not_found s h [] rest e = refl
quoted_not_found s h (c ∷ u) rest e = false_right (nat_eq c quote) _ (quoted_end_none u rest 0 1 (subst (λ y. quoted_end (drop 1 y) 0 1 ≡ None) e h))

pub tripled_found : (s : List ℕ) (m : ℕ) → begins_tripled s ≡ true → tripled_place (drop 3 s) 3 ≡ Some m → FindsFront is_tripled s (Some (m + 3))
tripled_found [] m starts h = absurd (cc)
tripled_found (a ∷ []) m starts h = absurd (cc)
tripled_found (a ∷ b ∷ []) m starts h = absurd (cc)
tripled_found (a ∷ b ∷ c ∷ v) m starts h = go (tripled_place_found v 3 m h)
  where
    go : Ends v 3 m → FindsFront is_tripled (a ∷ b ∷ c ∷ v) (Some (m + 3))
    go x =
        let place : m + 3 ≡ suc (suc (suc (suc (suc (suc x.j))))) = (let e = x.place in omega arith) in
        subst (λ y. FindsFront is_tripled (a ∷ b ∷ c ∷ v) (Some y)) (sym place) ((let e = x.within in omega arith), and_true _ _ starts x.ends)

pub tripled_not_found : (s : List ℕ) → tripled_place (drop 3 s) 3 ≡ None → FindsFront is_tripled s None
tripled_not_found s h [] rest e = refl
tripled_not_found s h (a ∷ []) rest e = refl
tripled_not_found s h (a ∷ b ∷ []) rest e = refl
tripled_not_found s h (a ∷ b ∷ c ∷ u) rest e = false_right _ _ (tripled_place_none u rest 3 (subst (λ y. tripled_place (drop 3 y) 3 ≡ None) e h))

-- one step of each loop
pub tripled_here : (s : List ℕ) (at : ℕ) → at < length s → begins_tripled (drop at s) ≡ true → tripled_place (drop at s) at ≡ Some at
tripled_here s at h t = go (drop at s) t
  where
    go : (y : List ℕ) → begins_tripled y ≡ true → tripled_place y at ≡ Some at
    go [] t = absurd (cc)
    go (c ∷ v) t = rw t refl

pub tripled_step : (s : List ℕ) (at : ℕ) → at < length s → begins_tripled (drop at s) ≡ false → tripled_place (drop at s) at ≡ tripled_place (drop (at + 1) s) (at + 1)
tripled_step s at h t =
    let e = drop_more s at 0 h in
    let t' : begins_tripled (get_or s at 0 ∷ drop (at + 1) s) ≡ false = subst (λ y. begins_tripled y ≡ false) e t in
    ap (λ y. tripled_place y at) e ∙ go (get_or s at 0) (drop (at + 1) s) t'
  where
    go : (c : ℕ) (v : List ℕ) → begins_tripled (c ∷ v) ≡ false → tripled_place (c ∷ v) at ≡ tripled_place v (at + 1)
    go c v t = rw t refl

pub quoted_here : (s : List ℕ) (at : ℕ) → at < length s → get_or s at 0 ≡ 34 → quoted_end (drop at s) 0 at ≡ Some (at + 1)
quoted_here s at h q = ap (λ y. quoted_end y 0 at) (drop_more s at 0 h) ∙ ap (λ y. quoted_end (y ∷ drop (at + 1) s) 0 at) q

not_quote : (c : ℕ) → (c ≡ 34 → ⊥) → nat_eq c quote ≡ false
not_quote c h = grind (arith, nat_tests)

no_len : (n : ℕ) → n ≡ 0 → nat_lt 0 n ≡ false
no_len n h = rw h refl

a_len : (n : ℕ) → 0 < n → nat_lt 0 n ≡ true
a_len n h = grind (arith, nat_tests)

pub quoted_stuck : (s : List ℕ) (at : ℕ) → at < length s → (get_or s at 0 ≡ 34 → ⊥) → len_of (part_at (drop at s)) ≡ 0 → quoted_end (drop at s) 0 at ≡ None
quoted_stuck s at h q z =
    let e = drop_more s at 0 h in
    let z' : len_of (part_at (get_or s at 0 ∷ drop (at + 1) s)) ≡ 0 = subst (λ y. len_of (part_at y) ≡ 0) e z in
    ap (λ y. quoted_end y 0 at) e ∙ go (get_or s at 0) (drop (at + 1) s) (not_quote _ q) (no_len _ z')
  where
    go : (c : ℕ) (v : List ℕ) → nat_eq c quote ≡ false → nat_lt 0 (len_of (part_at (c ∷ v))) ≡ false → quoted_end (c ∷ v) 0 at ≡ None
    go c v q z = subst (λ b. (if b then Some (at + 1) else if nat_lt 0 (len_of (part_at (c ∷ v))) then quoted_end v (len_of (part_at (c ∷ v)) - 1) (at + 1) else None) ≡ None) (sym q)
        (subst (λ b. (if b then quoted_end v (len_of (part_at (c ∷ v)) - 1) (at + 1) else None) ≡ None) (sym z) refl)

pub quoted_step : (s : List ℕ) (at n : ℕ) → at < length s → (get_or s at 0 ≡ 34 → ⊥) → n ≡ len_of (part_at (drop at s)) → 0 < n → quoted_end (drop at s) 0 at ≡ quoted_end (drop (at + n) s) 0 (at + n)
quoted_step s at n h q is some =
    let e = drop_more s at 0 h in
    let is' : n ≡ len_of (part_at (get_or s at 0 ∷ drop (at + 1) s)) = subst (λ y. n ≡ len_of (part_at y)) e is in
    let k : (at + 1) + (n - 1) ≡ at + n = omega arith in
    ap (λ y. quoted_end y 0 at) e ∙ go (get_or s at 0) (drop (at + 1) s) (not_quote _ q) (sym is')
    ∙ quoted_end_skip (drop (at + 1) s) (n - 1) (at + 1) ∙ ap (λ y. quoted_end y 0 ((at + 1) + (n - 1))) (drop-drop (n - 1) (at + 1) s) ∙ ap (λ y. quoted_end (drop y s) 0 y) k
  where
    go : (c : ℕ) (v : List ℕ) → nat_eq c quote ≡ false → len_of (part_at (c ∷ v)) ≡ n → quoted_end (c ∷ v) 0 at ≡ quoted_end v (n - 1) (at + 1)
    go c v q z = subst (λ b. (if b then Some (at + 1) else if nat_lt 0 (len_of (part_at (c ∷ v))) then quoted_end v (len_of (part_at (c ∷ v)) - 1) (at + 1) else None) ≡ quoted_end v (n - 1) (at + 1)) (sym q)
        (subst (λ m. (if nat_lt 0 m then quoted_end v (m - 1) (at + 1) else None) ≡ quoted_end v (n - 1) (at + 1)) (sym z)
        (subst (λ b. (if b then quoted_end v (n - 1) (at + 1) else None) ≡ quoted_end v (n - 1) (at + 1)) (sym (a_len n some)) refl))

pub part_within : (s : List ℕ) (at n : ℕ) → at < length s → n ≡ len_of (part_at (drop at s)) → at + n ≤ length s
part_within s at n h is = omega (arith, part_fits (drop at s), length-drop at s)

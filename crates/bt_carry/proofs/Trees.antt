-- A settled tree beside the tree that the records of its leaves make.
use Rattle.std.proofs.Common.{◌≡◌, ◌≢◌, ℕ, ◌+◌, Bool, true, false, cond, ◌||◌, List, [], ◌∷◌, ◌++◌, ◌⊎◌, inl, inr, arith, refl, sym, ap, ◌∙◌, Option, Some, eq-eqb}
use Rattle.std.specs.Prelude.{if◌then◌else◌}
use Rattle.std.proofs.lemmas.Bool.Decides.{eqb_tells}
use Rattle.bt_demand.specs.Asked.{asked, asked_in, asked_after_lost}
use Rattle.bt_demand.specs.Find.{begun, some_begun, tried, reached}
use Rattle.bt_demand.specs.Holding.{is_open, one_if}
use Rattle.bt_demand.specs.Outcomes.{outcome, outcome_of_all, outcome_of_first, outcome_of_both, outcome_or_else, outcome_of_hold, outcome_of_state, lost, is_lost}
use Rattle.bt_demand.specs.Reasons.{refused_leaves, refused_in, why, why_of_first_lost, why_of_last, number_if_refused}
use Rattle.bt_demand.specs.Recorded.{recorded, recorded_in, Agree, AgreeAll, Grows}
use Rattle.bt_demand.specs.Tree.{Tree, Trees, leaf, drop as nothing, reject, all, first, hold, none, more}
use Rattle.bt_demand.specs.Untouched.{Untouched, UntouchedIn, UntouchedAfter}
use Rattle.bt_demand.specs.WellFormed.{leaves, leaves_in, Differ}
use Rattle.bt_demand.specs.declared.demand.Stage.{Stage}
use Rattle.bt_demand.specs.declared.demand.Stage.TheVariants.{Untried as Idle, Waiting, Released}
use Rattle.bt_demand.specs.declared.demand.State.{State}
use Rattle.bt_demand.specs.declared.demand.State.TheVariants.{Untried as Fresh, Good, Bad}
use Rattle.bt_demand.specs.declared.outcome.Outcome.{Outcome}
use Rattle.bt_demand.specs.declared.outcome.Outcome.TheVariants.{Open as Pending, Met, Lost}
use Rattle.bt_demand.proofs.Lists.{InList, in-left, in-right, distinct-left, distinct-right, apart}
use Rattle.bt_demand.proofs.Outcomes.{outcome-lost}
use Rattle.bt_demand.proofs.Recorded.{recorded_grows}
use Rattle.bt_leaves.specs.EachLeaf.{EachLeaf, EachLeafIn}
use Rattle.bt_leaves.specs.LeafAt.{LeafAt, LeafIn}
use Rattle.bt_ledger.specs.Due.{times}

abbrev Settles : Outcome → Type 0
Settles o = is_open o ≡ false

both_left : (a b : Outcome) → Settles (outcome_of_both a b) → Settles a
both_left Pending b h = cc
both_left Met b h = refl
both_left Lost b h = refl

both_right : (a b : Outcome) → Settles (outcome_of_both a b) → Settles b
both_right Pending b h = cc
both_right Met b h = h
both_right Lost Pending h = cc
both_right Lost Met h = refl
both_right Lost Lost h = refl

else_left : (a b : Outcome) → Settles (outcome_or_else a b) → Settles a
else_left Pending b h = cc
else_left Met b h = refl
else_left Lost b h = refl

-- the first is met, or it is lost and the rest is settled
else_cases : (a b : Outcome) → Settles (outcome_or_else a b) → (a ≡ Met) ⊎ ((a ≡ Lost) × Settles b)
else_cases Pending b h = cc
else_cases Met b h = inl refl
else_cases Lost b h = inr (refl, h)

hold_child : (g : Stage) (o : Outcome) → Settles (outcome_of_hold g o) → Settles o
hold_child Idle o h = cc
hold_child Waiting o h = cc
hold_child Released o h = h

grows_settled : (a b : Outcome) → Settles a → Grows a b → b ≡ a
grows_settled Pending b h g = cc
grows_settled Met b h g = g
grows_settled Lost b h g = g

-- a settled tree is met or lost as the records say
pub recorded_outcome : (look : ℕ → State) (t : Tree) → Agree look t → Settles (outcome t) → outcome (recorded look t) ≡ outcome t
recorded_outcome look t a h = grows_settled (outcome t) (outcome (recorded look t)) h (recorded_grows look t a)

pub recorded_lost : (look : ℕ → State) (t : Tree) → Agree look t → Settles (outcome t) → lost (recorded look t) ≡ lost t
recorded_lost look t a h = sym (outcome-lost (recorded look t)) ∙ ap is_lost (recorded_outcome look t a h) ∙ outcome-lost t

mutual
  pub recorded_refused : (look : ℕ → State) (t : Tree) → Agree look t → refused_leaves (recorded look t) ≡ refused_leaves t
  recorded_refused look (leaf n k b x) a = ap (number_if_refused n) (sym a)
  recorded_refused look nothing a = refl
  recorded_refused look (reject w) a = refl
  recorded_refused look (all ts) a = recorded_refused_in look ts a
  recorded_refused look (first ts) a = recorded_refused_in look ts a
  recorded_refused look (hold n e z c g) a = recorded_refused look c a

  recorded_refused_in : (look : ℕ → State) (ts : Trees) → AgreeAll look ts → refused_in (recorded_in look ts) ≡ refused_in ts
  recorded_refused_in look none a = refl
  recorded_refused_in look (more t ts) a = let p = recorded_refused look t a.0 in let q = recorded_refused_in look ts a.1 in cc

if_lost : (o : Outcome) → o ≡ Met → is_lost o ≡ false
if_lost o e = ap is_lost e

met_not_lost : (t : Tree) → outcome t ≡ Met → lost t ≡ false
met_not_lost t e = sym (outcome-lost t) ∙ ap is_lost e

lost_is_lost : (t : Tree) → outcome t ≡ Lost → lost t ≡ true
lost_is_lost t e = sym (outcome-lost t) ∙ ap is_lost e

is_lost_settles : (o : Outcome) → is_lost o ≡ true → o ≡ Lost
is_lost_settles Pending e = cc
is_lost_settles Met e = cc
is_lost_settles Lost e = refl

pub lost_outcome : (t : Tree) → lost t ≡ true → outcome t ≡ Lost
lost_outcome t e = is_lost_settles (outcome t) (outcome-lost t ∙ e)

append_same : (xs ys us vs : List ℕ) → us ≡ xs → vs ≡ ys → us ++ vs ≡ xs ++ ys
append_same xs ys us vs e f = cc

-- what is asked of a settled tree is what is asked as the records say
mutual
  pub recorded_asked : (look : ℕ → State) (t : Tree) → Agree look t → Settles (outcome t) → asked (recorded look t) ≡ asked t
  recorded_asked look (leaf n k b x) a h = refl
  recorded_asked look nothing a h = refl
  recorded_asked look (reject w) a h = refl
  recorded_asked look (all ts) a h = recorded_asked_in look ts a h
  recorded_asked look (first ts) a h = recorded_asked_after look ts a h
  recorded_asked look (hold n e z c g) a h = recorded_asked look c a (hold_child g (outcome c) h)

  recorded_asked_in : (look : ℕ → State) (ts : Trees) → AgreeAll look ts → Settles (outcome_of_all ts) → asked_in (recorded_in look ts) ≡ asked_in ts
  recorded_asked_in look none a h = refl
  recorded_asked_in look (more t ts) a h = append_same _ _ _ _ (recorded_asked look t a.0 (both_left _ _ h)) (recorded_asked_in look ts a.1 (both_right _ _ h))

  recorded_asked_after : (look : ℕ → State) (ts : Trees) → AgreeAll look ts → Settles (outcome_of_first ts) → asked_after_lost (recorded_in look ts) ≡ asked_after_lost ts
  recorded_asked_after look none a h = refl
  recorded_asked_after look (more t ts) a h =
      let here = else_left (outcome t) (outcome_of_first ts) h in
      let same = recorded_asked look t a.0 here in
      let is = recorded_lost look t a.0 here in
      elim (else_cases (outcome t) (outcome_of_first ts) h) [
        | inl m ↦ (let f = met_not_lost t m in append_same _ _ _ _ same (ap (λ v. if v then asked_after_lost (recorded_in look ts) else []) (is ∙ f) ∙ sym (ap (λ v. if v then asked_after_lost ts else []) f)))
        | inr m ↦ (let f = lost_is_lost t m.0 in append_same _ _ _ _ same (ap (λ v. if v then asked_after_lost (recorded_in look ts) else []) (is ∙ f) ∙ (recorded_asked_after look ts a.1 m.1 ∙ sym (ap (λ v. if v then asked_after_lost ts else []) f))))
      ]

both_lost : (a b : Outcome) → outcome_of_both a b ≡ Lost → Settles a × ((a ≡ Lost) ⊎ ((is_lost a ≡ false) × (b ≡ Lost)))
both_lost Pending b e = cc
both_lost Met b e = (refl, inr (refl, e))
both_lost Lost b e = (refl, inl refl)

else_lost : (a b : Outcome) → outcome_or_else a b ≡ Lost → (a ≡ Lost) × (b ≡ Lost)
else_lost Pending b e = cc
else_lost Met b e = cc
else_lost Lost b e = (refl, e)

hold_lost : (g : Stage) (o : Outcome) → outcome_of_hold g o ≡ Lost → o ≡ Lost
hold_lost Idle o e = cc
hold_lost Waiting o e = cc
hold_lost Released o e = e

lost_settles : (o : Outcome) → o ≡ Lost → Settles o
lost_settles o e = ap is_open e

pick : (b : Bool) (u v x y : Option (List ℕ)) → (b ≡ true → u ≡ v) → (b ≡ false → x ≡ y) → cond b u x ≡ cond b v y
pick true u v x y f h = f refl
pick false u v x y f h = h refl

-- the text of a lost tree is that of the records
mutual
  pub recorded_why : (look : ℕ → State) (t : Tree) → Agree look t → outcome t ≡ Lost → why (recorded look t) ≡ why t
  recorded_why look (leaf n k b x) a h = refl
  recorded_why look nothing a h = refl
  recorded_why look (reject w) a h = refl
  recorded_why look (all ts) a h = recorded_why_all look ts a h
  recorded_why look (first ts) a h = recorded_why_last look ts a h
  recorded_why look (hold n e z c g) a h = recorded_why look c a (hold_lost g (outcome c) h)

  recorded_why_all : (look : ℕ → State) (ts : Trees) → AgreeAll look ts → outcome_of_all ts ≡ Lost → why_of_first_lost (recorded_in look ts) ≡ why_of_first_lost ts
  recorded_why_all look none a h = refl
  recorded_why_all look (more t ts) a h =
      let w = both_lost (outcome t) (outcome_of_all ts) h in
      let is = recorded_lost look t a.0 w.0 in
      ap (λ v. cond v (why (recorded look t)) (why_of_first_lost (recorded_in look ts))) is
      ∙ pick (lost t) (why (recorded look t)) (why t) (why_of_first_lost (recorded_in look ts)) (why_of_first_lost ts)
      (λ e. recorded_why look t a.0 (lost_outcome t e))
      (λ e. elim w.1 [
        | inl m ↦ (let f = lost_is_lost t m in cc)
        | inr m ↦ recorded_why_all look ts a.1 m.1
      ])

  recorded_why_last : (look : ℕ → State) (ts : Trees) → AgreeAll look ts → outcome_of_first ts ≡ Lost → why_of_last (recorded_in look ts) ≡ why_of_last ts
  recorded_why_last look none a h = refl
  recorded_why_last look (more t none) a h = recorded_why look t a.0 (else_lost (outcome t) (outcome_of_first none) h).0
  recorded_why_last look (more t (more u us)) a h = recorded_why_last look (more u us) a.1 (else_lost (outcome t) (outcome_of_first (more u us)) h).1

abbrev if_tried : ℕ → State → List ℕ
if_tried n x = cond (tried x) (n ∷ []) []

abbrev mutual
  -- the leaves that were tried
  tried_leaves : Tree → List ℕ
  tried_leaves (leaf n k b x) = if_tried n x
  tried_leaves nothing = []
  tried_leaves (reject w) = []
  tried_leaves (all ts) = tried_in ts
  tried_leaves (first ts) = tried_in ts
  tried_leaves (hold n e z c g) = tried_leaves c

  tried_in : Trees → List ℕ
  tried_in none = []
  tried_in (more t ts) = tried_leaves t ++ tried_in ts

or_left : (a b : Bool) → (a || b) ≡ false → a ≡ false
or_left true b e = cc
or_left false b e = refl

or_right : (a b : Bool) → (a || b) ≡ false → b ≡ false
or_right true b e = cc
or_right false b e = e

mutual
  none_tried : (t : Tree) → begun t ≡ false → tried_leaves t ≡ []
  none_tried (leaf n k b x) h = ap (λ v. cond v (n ∷ []) []) h
  none_tried nothing h = refl
  none_tried (reject w) h = refl
  none_tried (all ts) h = none_tried_in ts h
  none_tried (first ts) h = none_tried_in ts h
  none_tried (hold n e z c g) h = none_tried c (or_right (reached g) (begun c) h)

  none_tried_in : (ts : Trees) → some_begun ts ≡ false → tried_in ts ≡ []
  none_tried_in none h = refl
  none_tried_in (more t ts) h = let p = none_tried t (or_left _ _ h) in let q = none_tried_in ts (or_right _ _ h) in append_same [] [] _ _ p q

tried_leaf : (n : ℕ) (x : State) → is_open (outcome_of_state x) ≡ false → if_tried n x ≡ n ∷ []
tried_leaf n Fresh h = cc
tried_leaf n Good h = refl
tried_leaf n Bad h = refl

-- of a settled tree in which what isn't asked is untouched, the leaves that were tried are those that are asked
mutual
  tried_asked : (t : Tree) → Untouched t → Settles (outcome t) → tried_leaves t ≡ asked t
  tried_asked (leaf n k b x) u h = tried_leaf n x h
  tried_asked nothing u h = refl
  tried_asked (reject w) u h = refl
  tried_asked (all ts) u h = tried_asked_in ts u h
  tried_asked (first ts) u h = tried_asked_after ts u h
  tried_asked (hold n e z c g) u h = tried_asked c u.0 (hold_child g (outcome c) h)

  tried_asked_in : (ts : Trees) → UntouchedIn ts → Settles (outcome_of_all ts) → tried_in ts ≡ asked_in ts
  tried_asked_in none u h = refl
  tried_asked_in (more t ts) u h = append_same _ _ _ _ (tried_asked t u.0 (both_left _ _ h)) (tried_asked_in ts u.1 (both_right _ _ h))

  tried_asked_after : (ts : Trees) → UntouchedAfter ts → Settles (outcome_of_first ts) → tried_in ts ≡ asked_after_lost ts
  tried_asked_after none u h = refl
  tried_asked_after (more t ts) u h =
      let same = tried_asked t u.0 (else_left (outcome t) (outcome_of_first ts) h) in
      elim (else_cases (outcome t) (outcome_of_first ts) h) [
        | inl m ↦ append_same _ _ _ _ same (
            elim u.1.1 [
              | inl i ↦ (let e : Met ≡ Lost = sym m ∙ i in cc)
              | inr i ↦ none_tried_in ts i
            ] ∙ sym (ap (λ v. if v then asked_after_lost ts else []) (met_not_lost t m)))
        | inr m ↦ append_same _ _ _ _ same (tried_asked_after ts u.1.0 m.1 ∙ sym (ap (λ v. if v then asked_after_lost ts else []) (lost_is_lost t m.0)))
      ]

pub in_either : (m : ℕ) (xs ys : List ℕ) → InList m (xs ++ ys) → InList m xs ⊎ InList m ys
in_either m [] ys h = inr h
in_either m (x ∷ xs) ys (inl e) = inl (inl e)
in_either m (x ∷ xs) ys (inr h) = elim (in_either m xs ys h) [ inl i ↦ inl (inr i) | inr i ↦ inr i ]

pub in_or_not : (m : ℕ) (xs : List ℕ) → InList m xs ⊎ (InList m xs → ⊥)
in_or_not m [] = inr (λ h. h)
in_or_not m (x ∷ xs) = elim (eqb_tells m x) [
  | inl i ↦ inl (inl i.1)
  | inr i ↦ elim (in_or_not m xs) [
    | inl j ↦ inl (inr j)
    | inr j ↦ inr (λ h. elim h [ inl e ↦ i.1 e | inr k ↦ j k ])
  ]
]

times_append : (m : ℕ) (xs ys : List ℕ) → times m (xs ++ ys) ≡ times m xs + times m ys
times_append m [] ys = omega arith
times_append m (x ∷ xs) ys = let h = times_append m xs ys in omega arith

times_tried_not : (m n : ℕ) (x : State) → m ≢ n → times m (if_tried n x) ≡ 0
times_tried_not m n Fresh d = refl
times_tried_not m n Good d = elim (eqb_tells m n) [ inl i ↦ absurd (d i.1) | inr i ↦ (let e = ap one_if i.0 in omega arith) ]
times_tried_not m n Bad d = elim (eqb_tells m n) [ inl i ↦ absurd (d i.1) | inr i ↦ (let e = ap one_if i.0 in omega arith) ]

times_tried : (m n : ℕ) (x : State) → m ≡ n → times m (if_tried n x) ≡ one_if (tried x)
times_tried m n Fresh e = refl
times_tried m n Good e = let f = ap one_if (eq-eqb m n e) in omega arith
times_tried m n Bad e = let f = ap one_if (eq-eqb m n e) in omega arith

mutual
  not_tried : (m : ℕ) (t : Tree) → (InList m (leaves t) → ⊥) → times m (tried_leaves t) ≡ 0
  not_tried m (leaf n k b x) h = times_tried_not m n x (λ e. h (inl e))
  not_tried m nothing h = refl
  not_tried m (reject w) h = refl
  not_tried m (all ts) h = not_tried_in m ts h
  not_tried m (first ts) h = not_tried_in m ts h
  not_tried m (hold n e z c g) h = not_tried m c h

  not_tried_in : (m : ℕ) (ts : Trees) → (InList m (leaves_in ts) → ⊥) → times m (tried_in ts) ≡ 0
  not_tried_in m none h = refl
  not_tried_in m (more t ts) h =
      let p = not_tried m t (λ i. h (in-left m (leaves t) (leaves_in ts) i)) in
      let q = not_tried_in m ts (λ i. h (in-right m (leaves t) (leaves_in ts) i)) in
      let r = times_append m (tried_leaves t) (tried_in ts) in
      omega arith

-- a number that is 1 where leaf m was tried, and else 0
mutual
  tried_once : (m n : ℕ) (t : Tree) → Differ (leaves t) → InList m (leaves t) → EachLeaf (λ k l x. l ≡ m → n ≡ one_if (tried x)) t → n ≡ times m (tried_leaves t)
  tried_once m n (leaf l k b x) d (inl e) h = h (sym e) ∙ sym (times_tried m l x e)
  tried_once m n (leaf l k b x) d (inr e) h = absurd e
  tried_once m n nothing d i h = absurd i
  tried_once m n (reject w) d i h = absurd i
  tried_once m n (all ts) d i h = tried_once_in m n ts d i h
  tried_once m n (first ts) d i h = tried_once_in m n ts d i h
  tried_once m n (hold l e z c g) d i h = tried_once m n c d i h

  tried_once_in : (m n : ℕ) (ts : Trees) → Differ (leaves_in ts) → InList m (leaves_in ts) → EachLeafIn (λ k l x. l ≡ m → n ≡ one_if (tried x)) ts → n ≡ times m (tried_in ts)
  tried_once_in m n none d i h = absurd i
  tried_once_in m n (more t ts) d i h =
      let r = times_append m (tried_leaves t) (tried_in ts) in
      elim (in_either m (leaves t) (leaves_in ts) i) [
        | inl j ↦
            (let p = tried_once m n t (distinct-left (leaves t) (leaves_in ts) d) j h.0 in
            let q = not_tried_in m ts (λ k. apart m (leaves t) (leaves_in ts) d j k) in
            omega arith)
        | inr j ↦
            (let p = tried_once_in m n ts (distinct-right (leaves t) (leaves_in ts) d) j h.1 in
            let q = not_tried m t (λ k. apart m (leaves t) (leaves_in ts) d k j) in
            omega arith)
      ]

-- A number that is 1 where leaf m was tried, and 0 where it wasn't or there is no such leaf, is how often the leaf is asked.
pub asked_times : (look : ℕ → State) (m n : ℕ) (t : Tree) → Agree look t → Untouched t → Settles (outcome t) → Differ (leaves t) → EachLeaf (λ k l x. l ≡ m → n ≡ one_if (tried x)) t
    → ((InList m (leaves t) → ⊥) → n ≡ 0) → n ≡ times m (asked (recorded look t))
asked_times look m n t a u h d e f =
    let same : times m (tried_leaves t) ≡ times m (asked (recorded look t)) = ap (times m) (tried_asked t u h ∙ sym (recorded_asked look t a h)) in
    elim (in_or_not m (leaves t)) [
      | inl i ↦ tried_once m n t d i e ∙ same
      | inr i ↦ f i ∙ (sym (not_tried m t i) ∙ same)
    ]

mutual
  -- each leaf's state is the one that is looked up, where that is so of each leaf with its sink
  pub agree_by : (T : ℕ → ℕ → State → Type 0) (look : ℕ → State) (above : Option ℕ) (t : Tree) → EachLeaf T t
      → ((k l : ℕ) (b : List ℕ) (o : Option ℕ) (x : State) → LeafAt above l k b o t → T k l x → x ≡ look l) → Agree look t
  agree_by T look above (leaf n k b x) e f = f k n b above x (refl, (refl, (refl, refl))) e
  agree_by T look above nothing e f = tt
  agree_by T look above (reject w) e f = tt
  agree_by T look above (all ts) e f = agree_by_in T look above ts e f
  agree_by T look above (first ts) e f = agree_by_in T look above ts e f
  agree_by T look above (hold n i z c g) e f = agree_by T look (Some n) c e f

  agree_by_in : (T : ℕ → ℕ → State → Type 0) (look : ℕ → State) (above : Option ℕ) (ts : Trees) → EachLeafIn T ts
      → ((k l : ℕ) (b : List ℕ) (o : Option ℕ) (x : State) → LeafIn above l k b o ts → T k l x → x ≡ look l) → AgreeAll look ts
  agree_by_in T look above none e f = tt
  agree_by_in T look above (more t ts) e f = (agree_by T look above t e.0 (λ k l b o x h. f k l b o x (inl h)), agree_by_in T look above ts e.1 (λ k l b o x h. f k l b o x (inr h)))

mutual
  -- what is so of each leaf, of its sink and where it stands
  pub each_by : (T U : ℕ → ℕ → State → Type 0) (above : Option ℕ) (t : Tree) → EachLeaf T t
      → ((k l : ℕ) (b : List ℕ) (o : Option ℕ) (x : State) → LeafAt above l k b o t → T k l x → U k l x) → EachLeaf U t
  each_by T U above (leaf n k b x) e f = f k n b above x (refl, (refl, (refl, refl))) e
  each_by T U above nothing e f = tt
  each_by T U above (reject w) e f = tt
  each_by T U above (all ts) e f = each_by_in T U above ts e f
  each_by T U above (first ts) e f = each_by_in T U above ts e f
  each_by T U above (hold n i z c g) e f = each_by T U (Some n) c e f

  each_by_in : (T U : ℕ → ℕ → State → Type 0) (above : Option ℕ) (ts : Trees) → EachLeafIn T ts
      → ((k l : ℕ) (b : List ℕ) (o : Option ℕ) (x : State) → LeafIn above l k b o ts → T k l x → U k l x) → EachLeafIn U ts
  each_by_in T U above none e f = tt
  each_by_in T U above (more t ts) e f = (each_by T U above t e.0 (λ k l b o x h. f k l b o x (inl h)), each_by_in T U above ts e.1 (λ k l b o x h. f k l b o x (inr h)))

mutual
  pub leaf_there : (a : Option ℕ) (l k : ℕ) (b : List ℕ) (o : Option ℕ) (t : Tree) → LeafAt a l k b o t → InList l (leaves t)
  leaf_there a l k b o (leaf n j c x) h = inl (sym h.0)
  leaf_there a l k b o nothing h = absurd h
  leaf_there a l k b o (reject w) h = absurd h
  leaf_there a l k b o (all ts) h = leaf_there_in a l k b o ts h
  leaf_there a l k b o (first ts) h = leaf_there_in a l k b o ts h
  leaf_there a l k b o (hold n e z c g) h = leaf_there (Some n) l k b o c h

  leaf_there_in : (a : Option ℕ) (l k : ℕ) (b : List ℕ) (o : Option ℕ) (ts : Trees) → LeafIn a l k b o ts → InList l (leaves_in ts)
  leaf_there_in a l k b o none h = absurd h
  leaf_there_in a l k b o (more t ts) (inl h) = in-left l (leaves t) (leaves_in ts) (leaf_there a l k b o t h)
  leaf_there_in a l k b o (more t ts) (inr h) = in-right l (leaves t) (leaves_in ts) (leaf_there_in a l k b o ts h)

mutual
  -- a leaf has one sink
  pub leaf_sink : (a : Option ℕ) (l k j : ℕ) (b c : List ℕ) (o p : Option ℕ) (t : Tree) → Differ (leaves t) → LeafAt a l k b o t → LeafAt a l j c p t → k ≡ j
  leaf_sink a l k j b c o p (leaf n i e x) d h q = sym h.1.0 ∙ q.1.0
  leaf_sink a l k j b c o p nothing d h q = absurd h
  leaf_sink a l k j b c o p (reject w) d h q = absurd h
  leaf_sink a l k j b c o p (all ts) d h q = leaf_sink_in a l k j b c o p ts d h q
  leaf_sink a l k j b c o p (first ts) d h q = leaf_sink_in a l k j b c o p ts d h q
  leaf_sink a l k j b c o p (hold n e z u g) d h q = leaf_sink (Some n) l k j b c o p u d h q

  leaf_sink_in : (a : Option ℕ) (l k j : ℕ) (b c : List ℕ) (o p : Option ℕ) (ts : Trees) → Differ (leaves_in ts) → LeafIn a l k b o ts → LeafIn a l j c p ts → k ≡ j
  leaf_sink_in a l k j b c o p none d h q = absurd h
  leaf_sink_in a l k j b c o p (more t ts) d (inl h) (inl q) = leaf_sink a l k j b c o p t (distinct-left (leaves t) (leaves_in ts) d) h q
  leaf_sink_in a l k j b c o p (more t ts) d (inl h) (inr q) = absurd (apart l (leaves t) (leaves_in ts) d (leaf_there a l k b o t h) (leaf_there_in a l j c p ts q))
  leaf_sink_in a l k j b c o p (more t ts) d (inr h) (inl q) = absurd (apart l (leaves t) (leaves_in ts) d (leaf_there a l j c p t q) (leaf_there_in a l k b o ts h))
  leaf_sink_in a l k j b c o p (more t ts) d (inr h) (inr q) = leaf_sink_in a l k j b c o p ts (distinct-right (leaves t) (leaves_in ts) d) h q

mutual
  -- where a leaf stands doesn't depend on states and stages
  pub at_recorded : (look : ℕ → State) (a : Option ℕ) (l k : ℕ) (b : List ℕ) (o : Option ℕ) (t : Tree) → LeafAt a l k b o t → LeafAt a l k b o (recorded look t)
  at_recorded look a l k b o (leaf n j c x) h = h
  at_recorded look a l k b o nothing h = h
  at_recorded look a l k b o (reject w) h = h
  at_recorded look a l k b o (all ts) h = at_recorded_in look a l k b o ts h
  at_recorded look a l k b o (first ts) h = at_recorded_in look a l k b o ts h
  at_recorded look a l k b o (hold n e z c g) h = at_recorded look (Some n) l k b o c h

  at_recorded_in : (look : ℕ → State) (a : Option ℕ) (l k : ℕ) (b : List ℕ) (o : Option ℕ) (ts : Trees) → LeafIn a l k b o ts → LeafIn a l k b o (recorded_in look ts)
  at_recorded_in look a l k b o none h = h
  at_recorded_in look a l k b o (more t ts) (inl h) = inl (at_recorded look a l k b o t h)
  at_recorded_in look a l k b o (more t ts) (inr h) = inr (at_recorded_in look a l k b o ts h)

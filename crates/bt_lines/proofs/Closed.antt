-- The items that are closed in the first bytes are the first ones of all items.
use Rattle.std.proofs.Common.{◌≡◌, ℕ, zero, suc, ◌+◌, ◌-◌, ◌<◌, ◌≤◌, Bool, true, false, ◌&&◌, leb, eqb, if◌then◌else◌, List, [], ◌∷◌, ◌++◌, length, take, drop, map, Option, refl, sym, ap, ◌∙◌, arith, append_assoc, append-nil, length-append, inl, inr}
use Rattle.std.specs.List.{onto_first}
use Rattle.std.proofs.lemmas.List.{take-append-drop, take-take, take_all}
use Rattle.std.proofs.lemmas.Bool.{cases_Bool, cases_lt, leb-true, le-leb, eqb-true, eq-eqb, and_parts, and_from, true≢false}
use Rattle.bt_ports.specs.declared.parts.Item.{Item}
use Rattle.bt_cut.proofs.Pieces.{chosen, other}
use Rattle.bt_lines.specs.Pieces.{begins, pieces_after, pieces, NoneIn}
use Rattle.bt_lines.specs.Lines.{SourceBytes, Line, byte_count, within, reaches, lines_among, lines_of, lines, is_long, item_of, items}
use Rattle.bt_lines.specs.Follows.{source}
use Rattle.bt_lines.proofs.Pieces.{begins-append, begins-front, begins-short, pieces-none, onto-some, one_piece}
use Rattle.bt_lines.proofs.Lines.{leb-add, line, lines_among-cons, same_lines, lines-within_zero, count-within_zero, count-within, cut_piece, items-cut_piece}

-- all pieces but the last
abbrev pub all_but_last : List (List ℕ) → List (List ℕ)
all_but_last [] = []
all_but_last (p ∷ []) = []
all_but_last (p ∷ q ∷ ps) = p ∷ all_but_last (q ∷ ps)

but-last-cons : (p : List ℕ) (ps : List (List ℕ)) → 1 ≤ length ps → all_but_last (p ∷ ps) ≡ p ∷ all_but_last ps
but-last-cons p [] h = absurd (omega (arith, h))
but-last-cons p (q ∷ ps) h = refl

-- they are those, and one more
but-last : (ps : List (List ℕ)) → 1 ≤ length ps → (p : List ℕ) × (ps ≡ all_but_last ps ++ p ∷ [])
but-last [] h = absurd (omega (arith, h))
but-last (p ∷ []) h = (p, refl)
but-last (p ∷ q ∷ ps) h = let (last, e) = but-last (q ∷ ps) (omega arith) in (last, ap (λ rs. p ∷ rs) e)

onto-later : (b : ℕ) (ps later all : List (List ℕ)) → 1 ≤ length ps → 1 ≤ length later → all ≡ all_but_last ps ++ later → (more : List (List ℕ)) × (1 ≤ length more) × (onto_first b all ≡ all_but_last (onto_first b ps) ++ more)
onto-later b [] later all h k e = absurd (omega (arith, h))
onto-later b (p ∷ []) [] all h k e = absurd (omega (arith, k))
onto-later b (p ∷ []) (q ∷ later) all h k e = ((b ∷ q) ∷ later, omega arith, ap (onto_first b) e)
onto-later b (p ∷ r ∷ ps) later all h k e = (later, k, ap (onto_first b) e)

-- where more bytes follow, the pieces that delimiters end stay
pub pieces-grow : (d : List ℕ) (k : ℕ) (a b : List ℕ) → (later : List (List ℕ)) × (1 ≤ length later) × (pieces_after d k (a ++ b) ≡ all_but_last (pieces_after d k a) ++ later)
pieces-grow d k [] b = (pieces_after d k b, one_piece d k b, refl)
pieces-grow d (suc k) (x ∷ a) b = pieces-grow d k a b
pieces-grow d zero (x ∷ a) b =
    elim (cases_Bool (begins d (x ∷ a))) [
      | inl e ↦
          let (later, some, is) = pieces-grow d (length d - 1) a b in
          let one : pieces_after d 0 (x ∷ a) ≡ [] ∷ pieces_after d (length d - 1) a = chosen _ _ _ e in (
            later,
            some,
            chosen _ _ _ (begins-append d (x ∷ a) b e) ∙ ap (λ ps. [] ∷ ps) is
                ∙ ap (λ ps. ps ++ later) (sym (but-last-cons [] (pieces_after d (length d - 1) a) (one_piece d (length d - 1) a)))
                ∙ ap (λ ps. all_but_last ps ++ later) (sym one),
          )
      | inr e ↦
          let one : pieces_after d 0 (x ∷ a) ≡ onto_first x (pieces_after d 0 a) = other _ _ _ e in
          elim (cases_Bool (begins d (x ∷ (a ++ b)))) [
            | inl f ↦
                let few : length (x ∷ a) < length d =
                elim (cases_lt (length (x ∷ a)) (length d)) [ inl l ↦ l | inr l ↦ absurd (true≢false (sym f ∙ begins-front d (x ∷ a) b l ∙ e)) ] in
                let none : NoneIn d (x ∷ a) = none-short (x ∷ a) few in
                (pieces_after d 0 (x ∷ (a ++ b)), one_piece d 0 (x ∷ (a ++ b)), ap (λ ps. all_but_last ps ++ pieces_after d 0 (x ∷ (a ++ b))) (sym (pieces-none d (x ∷ a) none)))
            | inr f ↦
                let (later, some, is) = pieces-grow d 0 a b in
                let (more, any, grown) = onto-later x (pieces_after d 0 a) later (pieces_after d 0 (a ++ b)) (one_piece d 0 a) some is in
                (more, any, other _ _ _ f ∙ grown ∙ ap (λ ps. all_but_last ps ++ more) (sym one))
          ]
    ]
  where
    none-short : (s : List ℕ) → length s < length d → NoneIn d s
    none-short s h j = begins-short d (drop j s) (omega (arith, h, shorter j s))
      where
        shorter : (j : ℕ) (s : List ℕ) → length (drop j s) ≤ length s
        shorter zero s = omega arith
        shorter (suc j) [] = omega arith
        shorter (suc j) (y ∷ s) = omega (arith, shorter j s)

-- lines that delimiters end
abbrev wholes : Option (List ℕ) → List (List ℕ) → List Line
wholes p ps = map (λ q. line p q true) ps

module _ (d : List ℕ) (p : Option (List ℕ)) where
  -- the lines among some pieces are those that delimiters end, and the last one
  among-later : (cut : Bool) (ps later : List (List ℕ)) → 1 ≤ length later → lines_among p cut (ps ++ later) ≡ wholes p ps ++ lines_among p cut later
  among-later cut [] later h = refl
  among-later cut (q ∷ ps) later h =
      lines_among-cons p cut q (ps ++ later) (omega (arith, h, length-append ps later)) ∙ ap (λ ls. line p q true ∷ ls) (among-later cut ps later h)

module _ (d : List ℕ) (some : 1 ≤ length d) where
  -- more lines give more items
  items-more : (xs ys : List Line) → (later : List Item) × (items d (xs ++ ys) ≡ items d xs ++ later)
  items-more [] ys = (items d ys, refl)
  items-more (l ∷ xs) ys =
      elim (cases_Bool (is_long l)) [
        | inl e ↦ ([], chosen _ _ _ e ∙ ap (λ is. is ++ []) (sym (chosen _ _ (item_of d l ++ items d xs) e)))
        | inr e ↦
            let (later, is) = items-more xs ys in
            (later, other _ _ _ e ∙ ap (λ js. item_of d l ++ js) is ∙ sym (append_assoc (item_of d l) (items d xs) later) ∙ ap (λ js. js ++ later) (sym (other _ [] (item_of d l ++ items d xs) e)))
      ]

  items-behind : (xs ys zs : List Line) → (later : List Item) → items d zs ≡ items d ys ++ later → (more : List Item) × (items d (xs ++ zs) ≡ items d (xs ++ ys) ++ more)
  items-behind [] ys zs later is = (later, is)
  items-behind (l ∷ xs) ys zs later is =
      elim (cases_Bool (is_long l)) [
        | inl e ↦ ([], chosen _ _ _ e ∙ ap (λ js. js ++ []) (sym (chosen _ _ (item_of d l ++ items d (xs ++ ys)) e)))
        | inr e ↦
            let (more, same) = items-behind xs ys zs later is in
            (more, other _ _ _ e ∙ ap (λ js. item_of d l ++ js) same ∙ sym (append_assoc (item_of d l) (items d (xs ++ ys)) more) ∙ ap (λ js. js ++ more) (sym (other _ [] (item_of d l ++ items d (xs ++ ys)) e)))
      ]

  -- a piece that is cut off gives none
  items-cut_behind : (xs : List Line) (p : Option (List ℕ)) (q : List ℕ) → items d (xs ++ cut_piece d some p q) ≡ items d xs
  items-cut_behind [] p q = items-cut_piece d some p q
  items-cut_behind (l ∷ xs) p q =
      elim (cases_Bool (is_long l)) [
        | inl e ↦ chosen _ _ _ e ∙ sym (chosen _ [] (item_of d l ++ items d xs) e)
        | inr e ↦ other _ _ _ e ∙ ap (λ js. item_of d l ++ js) (items-cut_behind xs p q) ∙ sym (other _ [] (item_of d l ++ items d xs) e)
      ]

  -- the lines of some pieces, of which the last is cut off
  among-cut : (p : Option (List ℕ)) (ps : List (List ℕ)) → 1 ≤ length ps → items d (lines_among p true ps) ≡ items d (wholes p (all_but_last ps))
  among-cut p ps h =
      let (q, e) = but-last ps h in
      ap (λ qs. items d (lines_among p true qs)) e ∙ ap (items d) (among-later d p true (all_but_last ps) (q ∷ []) (omega arith)) ∙ items-cut_behind (wholes p (all_but_last ps)) p q

  abbrev cuts_off : ℕ → List SourceBytes → Bool
  cuts_off n ss = reaches n ss && eqb (byte_count (within n ss)) 0

  -- a source that is whole within the first n bytes
  lines-whole : (n : ℕ) (s : SourceBytes) (ss : List SourceBytes) → length s.bytes ≤ n → lines d n (s ∷ ss) ≡ lines_among s.path (cuts_off (n - length s.bytes) ss) (pieces d s.bytes) ++ lines d (n - length s.bytes) ss
  lines-whole n s ss h =
      let k : ℕ = n - length s.bytes in
      let e : length s.bytes + k ≡ n = omega (arith, h) in
      let r : reaches n (s ∷ ss) ≡ reaches k ss = ap (λ x. leb x (length s.bytes + byte_count ss)) (sym e) ∙ leb-add (length s.bytes) k (byte_count ss) in
      let w : within n (s ∷ ss) ≡ s ∷ within k ss = ap (λ b. source s.path b ∷ within k ss) (take_all n s.bytes h) in
      same_lines d _ _ _ _ r w

  -- a source that isn't: its last piece is cut off
  lines-part : (n : ℕ) (s : SourceBytes) (ss : List SourceBytes) → n < length s.bytes → lines d n (s ∷ ss) ≡ lines_among s.path true (pieces d (take n s.bytes))
  lines-part n s ss h =
      let z : n - length s.bytes ≡ 0 = omega (arith, h) in
      let r : reaches n (s ∷ ss) ≡ true = le-leb n (length s.bytes + byte_count ss) (omega (arith, h)) in
      let w : within n (s ∷ ss) ≡ source s.path (take n s.bytes) ∷ within 0 ss = ap (λ k. source s.path (take n s.bytes) ∷ within k ss) z in
      let k : (true && eqb (byte_count (within 0 ss)) 0) ≡ true = ap (λ x. eqb x 0) (count-within_zero ss) in
      same_lines d _ _ _ _ r w
      ∙ ap (λ b. lines_among s.path b (pieces d (take n s.bytes)) ++ lines_of d true (within 0 ss)) k
      ∙ ap (λ ls. lines_among s.path true (pieces d (take n s.bytes)) ++ ls) (lines-within_zero d true ss) ∙ append-nil _

  -- a last piece is cut off before later sources only where no room is left
  no_room : (n : ℕ) (ss : List SourceBytes) → cuts_off n ss ≡ true → n ≡ 0
  no_room n ss e =
      let p = and_parts (reaches n ss) (eqb (byte_count (within n ss)) 0) e in
      omega (arith, leb-true n (byte_count ss) p.0, eqb-true (byte_count (within n ss)) 0 p.1, count-within n ss)

  cut_at_zero : (ss : List SourceBytes) → cuts_off 0 ss ≡ true
  cut_at_zero ss = and_from _ _ (le-leb 0 (byte_count ss) (omega arith)) (eq-eqb _ _ (count-within_zero ss))

  closed-part : (m n : ℕ) (s : SourceBytes) (ss : List SourceBytes) → m ≤ n → m < length s.bytes → (more : List Item) × (items d (lines d n (s ∷ ss)) ≡ items d (lines d m (s ∷ ss)) ++ more)
  closed-part m n s ss h part =
      let z : List ℕ = drop m (take n s.bytes) in
      let b : take n s.bytes ≡ take m s.bytes ++ z = sym (take-append-drop m (take n s.bytes)) ∙ ap (λ x. x ++ z) (take-take m n s.bytes h) in
      let cut : Bool = reaches n (s ∷ ss) && eqb (byte_count (within (n - length s.bytes) ss)) 0 in
      let others : List Line = lines_of d (reaches n (s ∷ ss)) (within (n - length s.bytes) ss) in
      let ps : List (List ℕ) = pieces d (take m s.bytes) in
      let (later, any, grown) = pieces-grow d 0 (take m s.bytes) z in
      let a : lines d n (s ∷ ss) ≡ wholes s.path (all_but_last ps) ++ (lines_among s.path cut later ++ others) =
      ap (λ qs. lines_among s.path cut qs ++ others) (ap (pieces d) b ∙ grown) ∙ ap (λ ls. ls ++ others) (among-later d s.path cut (all_but_last ps) later any)
      ∙ append_assoc (wholes s.path (all_but_last ps)) (lines_among s.path cut later) others in
      let (more, e) = items-more (wholes s.path (all_but_last ps)) (lines_among s.path cut later ++ others) in
      (more, ap (items d) a ∙ e ∙ ap (λ is. is ++ more) (sym (ap (items d) (lines-part m s ss part) ∙ among-cut s.path ps (one_piece d 0 (take m s.bytes)))))

  closed-whole : (m n : ℕ) (s : SourceBytes) (ss : List SourceBytes) → length s.bytes ≤ m → length s.bytes ≤ n → (m - length s.bytes ≤ n - length s.bytes)
      → (later : List Item) → items d (lines d (n - length s.bytes) ss) ≡ items d (lines d (m - length s.bytes) ss) ++ later → (more : List Item) × (items d (lines d n (s ∷ ss)) ≡ items d (lines d m (s ∷ ss)) ++ more)
  closed-whole m n s ss hm hn le later e =
      let ps : List (List ℕ) = pieces d s.bytes in
      let mr : ℕ = m - length s.bytes in
      let nr : ℕ = n - length s.bytes in
      let a = lines-whole m s ss hm in
      let b = lines-whole n s ss hn in
      elim (cases_Bool (cuts_off mr ss)) [
        | inl t ↦
            let (q, is) = but-last ps (one_piece d 0 s.bytes) in
            let z : lines d mr ss ≡ [] = ap (λ k. lines d k ss) (no_room mr ss t) ∙ lines-within_zero d (reaches 0 ss) ss in
            let am : items d (lines d m (s ∷ ss)) ≡ items d (wholes s.path (all_but_last ps)) =
            ap (items d) (a ∙ ap (λ c. lines_among s.path c ps ++ lines d mr ss) t ∙ ap (λ ls. lines_among s.path true ps ++ ls) z ∙ append-nil _) ∙ among-cut s.path ps (one_piece d 0 s.bytes) in
            let bn : lines d n (s ∷ ss) ≡ wholes s.path (all_but_last ps) ++ (lines_among s.path (cuts_off nr ss) (q ∷ []) ++ lines d nr ss) =
            b ∙ ap (λ qs. lines_among s.path (cuts_off nr ss) qs ++ lines d nr ss) is ∙ ap (λ ls. ls ++ lines d nr ss) (among-later d s.path (cuts_off nr ss) (all_but_last ps) (q ∷ []) (omega arith))
            ∙ append_assoc (wholes s.path (all_but_last ps)) (lines_among s.path (cuts_off nr ss) (q ∷ [])) (lines d nr ss) in
            let (more, x) = items-more (wholes s.path (all_but_last ps)) (lines_among s.path (cuts_off nr ss) (q ∷ []) ++ lines d nr ss) in
            (more, ap (items d) bn ∙ x ∙ ap (λ js. js ++ more) (sym am))
        | inr u ↦
            let v : cuts_off nr ss ≡ false = elim (cases_Bool (cuts_off nr ss)) [
              | inl t ↦ let n0 : nr ≡ 0 = no_room nr ss t in let m0 : mr ≡ 0 = omega (arith, n0, le) in
                  absurd (true≢false (sym (ap (λ k. cuts_off k ss) m0 ∙ cut_at_zero ss) ∙ u))
              | inr w ↦ w
            ] in
            let am : lines d m (s ∷ ss) ≡ lines_among s.path false ps ++ lines d mr ss = a ∙ ap (λ c. lines_among s.path c ps ++ lines d mr ss) u in
            let bn : lines d n (s ∷ ss) ≡ lines_among s.path false ps ++ lines d nr ss = b ∙ ap (λ c. lines_among s.path c ps ++ lines d nr ss) v in
            let (more, x) = items-behind (lines_among s.path false ps) (lines d mr ss) (lines d nr ss) later e in
            (more, ap (items d) bn ∙ x ∙ ap (λ ls. items d ls ++ more) (sym am))
      ]

  -- the items that are closed in the first m bytes are the first of those that are closed in the first n
  pub items-closed : (m n : ℕ) (ss : List SourceBytes) → m ≤ n → (later : List Item) × (items d (lines d n ss) ≡ items d (lines d m ss) ++ later)
  items-closed m n [] h = ([], refl)
  items-closed m n (s ∷ ss) h =
      elim (cases_lt m (length s.bytes)) [
        | inl part ↦ closed-part m n s ss h part
        | inr whole ↦
            let r = items-closed (m - length s.bytes) (n - length s.bytes) ss (omega (arith, h)) in
            closed-whole m n s ss whole (omega (arith, whole, h)) (omega (arith, h)) r.0 r.1
      ]

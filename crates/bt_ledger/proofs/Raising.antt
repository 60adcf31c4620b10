-- The counts of a transaction whose routes were given.
use Rattle.std.proofs.Common.{◌≡◌, ℕ, zero, suc, ◌+◌, ◌<◌, ◌≤◌, ◌^◌, Bool, true, false, cond, eqb, List, [], ◌∷◌, length, map, get_or, set, inl, inr, arith, refl, sym, ap, ◌∙◌, get_or-set_same, get_or-set_other, length-set, drop, drop-cons, replicate, Option, Some, None}
use Rattle.std.proofs.lemmas.List.{length-map}
use Rattle.std.proofs.lemmas.Bool.Decides.{eqb_tells, nat_tests}
use Rattle.std.specs.List.{AllByRecursion}
use Rattle.bt_demand.specs.Holding.{one_if, is_open}
use Rattle.bt_demand.specs.Outcomes.{outcome}
use Rattle.bt_demand.specs.Parts.{Part, parts_of}
use Rattle.bt_demand.specs.WellFormed.{Rises}
use Rattle.bt_demand.specs.declared.routes.Routed.{Routed}
use Rattle.bt_ledger.specs.Due.{times, Below, AllBelow, AllRise, AllSome, open_parts, unanswered}
use Rattle.bt_ledger.specs.Counted.{raised, counted_of, noted, lefts, nexts, losses, Waits, Lined, Marked}
use Rattle.bt_demand.specs.Outcomes.{lost}
use Rattle.bt_demand.specs.Reasons.{lesser}
use Rattle.bt_demand.specs.declared.routes.Count.{Count}
use Rattle.bt_ledger.specs.Verdicts.{part_of, is_lost_from, lost_from}
use Rattle.bt_ledger.proofs.Losses.{lost_next, noted_if}
use Rattle.bt_ledger.proofs.Answering.{unanswered_all}

pub raised_at : (xs cs : List ℕ) (j : ℕ) → j < length xs → raised (drop (suc j) xs) (set cs (get_or xs j 0) (get_or cs (get_or xs j 0) 0 + 1)) ≡ raised (drop j xs) cs
raised_at xs cs j h = rw (drop-cons xs j 0 h) refl

pub below_drop : (n : ℕ) (xs : List ℕ) (j : ℕ) → j < length xs → Below n (drop j xs) → (get_or xs j 0 < n) × Below n (drop (suc j) xs)
below_drop n xs j h r = rw (drop-cons xs j 0 h) at r

pub times_drop : (i : ℕ) (xs : List ℕ) (j : ℕ) → j < length xs → times i (drop j xs) ≡ one_if (eqb i (get_or xs j 0)) + times i (drop (suc j) xs)
times_drop i xs j h = rw (drop-cons xs j 0 h) refl

-- after one more of an item there is still room for the rest
pub room_step : (cs xs : List ℕ) (j : ℕ) → j < length xs → get_or xs j 0 < length cs → ((i : ℕ) → get_or cs i 0 + times i (drop j xs) < 2 ^ 64)
    → (i : ℕ) → get_or (set cs (get_or xs j 0) (get_or cs (get_or xs j 0) 0 + 1)) i 0 + times i (drop (suc j) xs) < 2 ^ 64
room_step cs xs j h w r i =
    let x = get_or xs j 0 in
    let a = r i in
    let b = times_drop i xs j h in
    elim (eqb_tells i (get_or xs j 0)) [
      | inl s ↦ (let o : one_if (eqb i (get_or xs j 0)) ≡ 1 = ap one_if s.0 in
          let g : get_or (set cs (get_or xs j 0) (get_or cs (get_or xs j 0) 0 + 1)) i 0 ≡ get_or cs i 0 + 1 = ap (λ k. get_or (set cs (get_or xs j 0) (get_or cs (get_or xs j 0) 0 + 1)) k 0) s.1 ∙ get_or-set_same cs (get_or xs j 0) (get_or cs (get_or xs j 0) 0 + 1) 0 w ∙ ap (λ k. get_or cs k 0 + 1) (sym s.1) in
          omega arith)
      | inr s ↦ (let o : one_if (eqb i (get_or xs j 0)) ≡ 0 = ap one_if s.0 in
          let g : get_or (set cs (get_or xs j 0) (get_or cs (get_or xs j 0) 0 + 1)) i 0 ≡ get_or cs i 0 = get_or-set_other cs (get_or xs j 0) i (get_or cs (get_or xs j 0) 0 + 1) 0 s.1 in
          omega arith)
    ]

pub raised-length : (xs cs : List ℕ) → length (raised xs cs) ≡ length cs
raised-length [] cs = refl
raised-length (x ∷ xs) cs = raised-length xs (set cs x (get_or cs x 0 + 1)) ∙ length-set cs x (get_or cs x 0 + 1)

pub raised-gives : (xs cs : List ℕ) (i : ℕ) → Below (length cs) xs → get_or (raised xs cs) i 0 ≡ get_or cs i 0 + times i xs
raised-gives [] cs i b = omega arith
raised-gives (x ∷ xs) cs i b =
    let k = raised-gives xs (set cs x (get_or cs x 0 + 1)) i (rw (length-set cs x (get_or cs x 0 + 1)) b.1) in
    elim (eqb_tells i x) [
      | inl s ↦ (let o : one_if (eqb i x) ≡ 1 = ap one_if s.0 in
          let g : get_or (set cs x (get_or cs x 0 + 1)) i 0 ≡ get_or cs i 0 + 1 = ap (λ k. get_or (set cs x (get_or cs x 0 + 1)) k 0) s.1 ∙ get_or-set_same cs x (get_or cs x 0 + 1) 0 b.0 ∙ ap (λ k. get_or cs k 0 + 1) (sym s.1) in
          omega arith)
      | inr s ↦ (let o : one_if (eqb i x) ≡ 0 = ap one_if s.0 in
          let g : get_or (set cs x (get_or cs x 0 + 1)) i 0 ≡ get_or cs i 0 = get_or-set_other cs x i (get_or cs x 0 + 1) 0 s.1 in
          omega arith)
    ]

-- an item stands in rising ones once
above_none : (i : ℕ) (xs : List ℕ) → AllByRecursion (λ y. i < y) xs → times i xs ≡ 0
above_none i [] h = refl
above_none i (x ∷ xs) h =
    let a : eqb i x ≡ false = (let b = h.0 in grind (arith, nat_tests)) in
    let o : one_if (eqb i x) ≡ 0 = ap one_if a in
    let k = above_none i xs h.1 in omega arith

pub rises_once : (i : ℕ) (xs : List ℕ) → Rises xs → times i xs ≤ 1
rises_once i [] h = omega arith
rises_once i (x ∷ xs) h = elim (eqb_tells i x) [
  | inl s ↦ (let o : one_if (eqb i x) ≡ 1 = ap one_if s.0 in
      let k : times i xs ≡ 0 = ap (λ j. times j xs) s.1 ∙ above_none x xs h.0 in omega arith)
  | inr s ↦ (let o : one_if (eqb i x) ≡ 0 = ap one_if s.0 in let k = rises_once i xs h.1 in omega arith)
]

pub parts_drop : (rs : List Routed) (i : ℕ) (d : Routed) → i < length rs → parts_of (drop i rs) ≡ part_of (get_or rs i d) ∷ parts_of (drop (suc i) rs)
parts_drop rs i d h = ap parts_of (drop-cons rs i d h)

pub part_below : (n : ℕ) (rs : List Routed) (i : ℕ) (d : Routed) → i < length rs → AllBelow n (parts_of rs) → Below n (get_or rs i d).from
part_below n [] i d h b = absurd (omega arith)
part_below n (r ∷ rs) zero d h b = b.0
part_below n (r ∷ rs) (suc i) d h b = part_below n rs i d (omega arith) b.1

pub part_rises : (rs : List Routed) (i : ℕ) (d : Routed) → i < length rs → AllRise (parts_of rs) → Rises (get_or rs i d).from
part_rises [] i d h b = absurd (omega arith)
part_rises (r ∷ rs) zero d h b = b.0
part_rises (r ∷ rs) (suc i) d h b = part_rises rs i d (omega arith) b.1

-- one more part
step_length : (b : Bool) (xs cs : List ℕ) → length (cond b (raised xs cs) cs) ≡ length cs
step_length true xs cs = raised-length xs cs
step_length false xs cs = refl

step_small : (b : Bool) (xs cs : List ℕ) (n : ℕ) → Below (length cs) xs → Rises xs → ((k : ℕ) → get_or cs k 0 ≤ n) → (k : ℕ) → get_or (cond b (raised xs cs) cs) k 0 ≤ n + 1
step_small true xs cs n w r h k = let a = raised-gives xs cs k w in let b = rises_once k xs r in let c = h k in omega arith
step_small false xs cs n w r h k = let c = h k in omega arith

-- what the parts before part i left, and the rest of them
pub record PartCounted (rs : List Routed) (start cs : List Count) (i : ℕ) : Type 0 where
  pub counts : counted_of (parts_of (drop i rs)) (lefts cs) ≡ counted_of (parts_of rs) (lefts start)
  pub noted : (k : ℕ) → lesser (get_or (losses cs) k None) (lost_from k i (parts_of (drop i rs))) ≡ lost_from k 0 (parts_of rs)
  pub small : (k : ℕ) → get_or (lefts cs) k 0 ≤ i + 1
  pub len : length cs ≡ length start

pub counted_first : (rs : List Routed) (cs : List Count) → ((k : ℕ) → get_or (lefts cs) k 0 ≤ 1) → ((k : ℕ) → get_or (losses cs) k None ≡ None) → PartCounted rs cs cs 0
counted_first rs cs small none = record {
  counts = refl;
  noted = λ k. ap (λ o. lesser o (lost_from k 0 (parts_of rs))) (none k);
  small = λ k. small k;
  len = refl;
}

lefts_length : (cs : List Count) → length (lefts cs) ≡ length cs
lefts_length cs = length-map cs (λ (c : Count). c.left)

losses_length : (cs : List Count) → length (losses cs) ≡ length cs
losses_length cs = length-map cs (λ (c : Count). c.lost)

pub counted_more : (rs : List Routed) (start cs ds : List Count) (i : ℕ) (r : Routed) → PartCounted rs start cs i → i < length rs → r ≡ get_or rs i r → AllBelow (length start) (parts_of rs) → AllRise (parts_of rs)
    → lefts ds ≡ cond (is_open (outcome (part_of r).demand)) (raised r.from (lefts cs)) (lefts cs) → losses ds ≡ cond (lost (part_of r).demand) (noted i r.from (losses cs)) (losses cs) → PartCounted rs start ds (i + 1)
counted_more rs start cs ds i r p h e b w f g =
    let from = ap (λ (x : Routed). x.from) e in
    let n = lefts_length cs in
    let u : Below (length (lefts cs)) r.from = rw (n, p.len, from) (part_below (length start) rs i r h b) in
    let u2 : Below (length (losses cs)) r.from = rw (losses_length cs, p.len, from) (part_below (length start) rs i r h b) in
    let v : Rises r.from = rw from (part_rises rs i r h w) in
    let next : suc i ≡ i + 1 = omega arith in
    let here : parts_of (drop i rs) ≡ part_of r ∷ parts_of (drop (suc i) rs) = parts_drop rs i r h ∙ ap (λ (x : Routed). part_of x ∷ parts_of (drop (suc i) rs)) (sym e) in
    record {
      counts = rw f (rw (← next) (sym (ap (λ (ps : List Part). counted_of ps (lefts cs)) here) ∙ p.counts));
      noted = λ k.
          ap (λ (ls : List (Option ℕ)). lesser (get_or ls k None) (lost_from k (i + 1) (parts_of (drop (i + 1) rs)))) g
          ∙ ap (λ a. lesser a (lost_from k (i + 1) (parts_of (drop (i + 1) rs)))) (noted_if (lost (part_of r).demand) i r.from (losses cs) k u2)
          ∙ ap (λ (j : ℕ). lesser (cond (is_lost_from k (part_of r)) (lesser (get_or (losses cs) k None) (Some i)) (get_or (losses cs) k None)) (lost_from k (i + 1) (parts_of (drop j rs)))) (sym next)
          ∙ lost_next k i (part_of r) (parts_of (drop (suc i) rs)) (get_or (losses cs) k None)
          ∙ ap (λ (ps : List Part). lesser (get_or (losses cs) k None) (lost_from k i ps)) (sym here)
          ∙ p.noted k;
      small = λ k. rw f (step_small (is_open (outcome (part_of r).demand)) r.from (lefts cs) (i + 1) u v p.small k);
      len = sym (lefts_length ds) ∙ ap length f ∙ step_length (is_open (outcome (part_of r).demand)) r.from (lefts cs) ∙ n ∙ p.len;
    }

counted-length : (ps : List Part) (cs : List ℕ) → length (counted_of ps cs) ≡ length cs
counted-length [] cs = refl
counted-length (p ∷ ps) cs = counted-length ps (cond (is_open (outcome p.demand)) (raised p.from cs) cs) ∙ step_length (is_open (outcome p.demand)) p.from cs

step_gives : (b : Bool) (xs cs : List ℕ) (i : ℕ) → Below (length cs) xs → get_or (cond b (raised xs cs) cs) i 0 ≡ get_or cs i 0 + cond b (times i xs) 0
step_gives true xs cs i h = raised-gives xs cs i h
step_gives false xs cs i h = omega arith

counted-gives : (ps : List Part) (cs : List ℕ) (i : ℕ) → AllBelow (length cs) ps → get_or (counted_of ps cs) i 0 ≡ get_or cs i 0 + open_parts i ps
counted-gives [] cs i b = omega arith
counted-gives (p ∷ ps) cs i b =
    let l = step_length (is_open (outcome p.demand)) p.from cs in
    let a = counted-gives ps (cond (is_open (outcome p.demand)) (raised p.from cs) cs) i (rw l b.1) in
    let c = step_gives (is_open (outcome p.demand)) p.from cs i b.0 in
    omega arith

-- a count of 1 for each of so many items
abbrev pub units : ℕ → List ℕ
units n = replicate n 1

ones_at : (n i : ℕ) → i < n → get_or (units n) i 0 ≡ 1
ones_at zero i h = absurd (omega arith)
ones_at (suc n) zero h = refl
ones_at (suc n) (suc i) h = ones_at n i (omega arith)

pub ones_small : (n i : ℕ) → get_or (units n) i 0 ≤ 1
ones_small zero i = omega arith
ones_small (suc n) zero = omega arith
ones_small (suc n) (suc i) = ones_small n i

pub ones_length : (n : ℕ) → length (units n) ≡ n
ones_length zero = refl
ones_length (suc n) = ap suc (ones_length n)

none_answered : (cs : List ℕ) → ((i : ℕ) → i < length cs → 1 ≤ get_or cs i 0) → map (λ n. eqb n 0) cs ≡ replicate (length cs) false
none_answered [] h = refl
none_answered (c ∷ cs) h =
    let a : eqb c 0 ≡ false = (let b : 1 ≤ c = h 0 (omega arith) in grind (arith, nat_tests)) in
    ap (λ (x : Bool). x ∷ map (λ n. eqb n 0) cs) a ∙ ap (λ xs. false ∷ xs) (none_answered cs (λ i w. h (suc i) (omega arith)))

pub answered_none : (ps : List Part) (n : ℕ) → AllBelow n ps → map (λ n. eqb n 0) (counted_of ps (units n)) ≡ replicate n false
answered_none ps n b =
    let l = counted-length ps (units n) ∙ ones_length n in
    none_answered (counted_of ps (units n)) (λ i h. (let a = counted-gives ps (units n) i (rw (ones_length n) b) in let c = ones_at n i (omega arith) in omega arith)) ∙ ap (λ k. replicate k false) l

pub marked_new : (ps : List Part) (cs : List Count) (n f l : ℕ) → AllBelow n ps → AllSome ps → length ps < 2 ^ 32 → lefts cs ≡ counted_of ps (units n) → ((i : ℕ) → get_or (losses cs) i None ≡ lost_from i 0 ps)
    → Lined (Waits (lefts cs)) (nexts cs) f l → Marked ps cs f l n
marked_new ps cs n f l b s few e g line =
    let m = counted-length ps (units n) ∙ ones_length n in
    record {
      counted = rw e (record {
        exact = λ i h. inl (let a = counted-gives ps (units n) i (rw (ones_length n) b) in let c = ones_at n i (omega arith) in omega arith);
        below = rw m b;
      });
      line = line;
      lost = λ i h. g i;
      number = sym (ap unanswered (ap (map (λ k. eqb k 0)) e ∙ answered_none ps n b) ∙ unanswered_all n);
      some = s;
      few = few;
    }

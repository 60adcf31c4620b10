-- The sums of sizes and the marks of last entries.
use Rattle.std.proofs.Common.{◌≡◌, ◌≢◌, ℕ, zero, suc, ◌+◌, ◌-◌, ◌*◌, ◌<◌, ◌≤◌, ◌^◌, Bool, List, [], ◌∷◌, ◌++◌, length, get_or, set, inl, inr, arith, refl, sym, ap, ◌∙◌, subst, Some, get_or-set_same, get_or-set_other, length-set}
use Rattle.std.proofs.lemmas.Bool.Decides.{eqb_tells}
use Rattle.bt_demand.specs.Steps.{release}
use Rattle.bt_chains.specs.declared.Entry.{Entry}
use Rattle.bt_ledger.specs.Ledger.{Ledger, part_tree, IsPart, with_part, chain_at, with_chain, held_in, sizes}
use Rattle.std.proofs.lemmas.List.{get_or_default}
use Rattle.std.specs.List.{AllByRecursion}
use Rattle.bt_demand.specs.Holding.{held_by}
use Rattle.bt_ledger.specs.Calls.{waited, entry_of, size_or, ends_or, last_ends}
use Rattle.bt_ledger.specs.Kept.{Tallied, no_tally}
use Rattle.bt_steps.specs.Stepped.{stepped}
use Rattle.bt_steps.specs.declared.step.Step.{Step}
use Rattle.bt_steps.specs.declared.step.Step.TheVariants.{Wait as Waits, Release}
use Rattle.bt_ledger.specs.declared.tally.Tally.{Tally}
use Rattle.bt_ledger.proofs.BookKept.{over_same}
use Rattle.bt_steps.proofs.Steps.{held_step}

ends_after : (l : Ledger) (s p : ℕ) (st : Step) → IsPart l s p → (cs : List (List Entry)) (e : Entry)
    → ends_or (held_by e.node (part_tree (record (with_part l s p (stepped st (part_tree l s p))) { chains = cs }) e.slot e.part)) ≡ ends_or (held_by e.node (part_tree l e.slot e.part))
ends_after l s p st h cs e = over_same (λ t. ends_or (held_by e.node t)) l s p (stepped st (part_tree l s p)) h (ap ends_or (held_step e.node st (part_tree l s p))) e.slot e.part

pub last_after : (l : Ledger) (s p : ℕ) (st : Step) → IsPart l s p → (cs : List (List Entry)) (es : List Entry)
    → last_ends (record (with_part l s p (stepped st (part_tree l s p))) { chains = cs }) es ≡ last_ends l es
last_after l s p st h cs [] = refl
last_after l s p st h cs (e ∷ []) = ends_after l s p st h cs e
last_after l s p st h cs (e ∷ (f ∷ es)) = last_after l s p st h cs (f ∷ es)

last_more : (l : Ledger) (es : List Entry) (e : Entry) → last_ends l (es ++ e ∷ []) ≡ ends_or (held_by e.node (part_tree l e.slot e.part))
last_more l [] e = refl
last_more l (x ∷ []) e = refl
last_more l (x ∷ (y ∷ es)) e = last_more l (y ∷ es) e

sizes_more : (es : List Entry) (e : Entry) → sizes (es ++ e ∷ []) ≡ sizes es + e.size
sizes_more [] e = omega arith
sizes_more (x ∷ es) e = let a = sizes_more es e in omega arith

wide_more : (es : List Entry) (e : Entry) → AllByRecursion (λ x. x.size < 2 ^ 64) es → e.size < 2 ^ 64 → AllByRecursion (λ x. x.size < 2 ^ 64) (es ++ e ∷ [])
wide_more [] e h w = (w, tt)
wide_more (x ∷ es) e h w = (h.0, wide_more es e h.1 w)

-- the sum of so many sizes
pub sizes_under : (es : List Entry) → AllByRecursion (λ x. x.size < 2 ^ 64) es → sizes es ≤ 18446744073709551616 * length es
sizes_under [] h = omega arith
sizes_under (x ∷ es) h = let a = sizes_under es h.1 in let b = h.0 in omega arith

pub chain_under : (cs : List (List Entry)) (k : ℕ) → length (get_or cs k []) ≤ held_in cs
chain_under [] k = omega arith
chain_under (c ∷ cs) zero = omega arith
chain_under (c ∷ cs) (suc k) = let a = chain_under cs k in omega arith

pub tallied_step : (l : Ledger) (s p : ℕ) (st : Step) (ts : List Tally) → IsPart l s p → Tallied l ts → Tallied (with_part l s p (stepped st (part_tree l s p))) ts
tallied_step l s p st ts h t = record {
  each = t.each;
  bytes = t.bytes;
  wide = t.wide;
  ends = λ n e. t.ends n e ∙ sym (last_after l s p st h l.chains (chain_at l n));
}

pub tallied_hold : (l : Ledger) (s p n : ℕ) (ts : List Tally) (was : Tally) (size : ℕ) (ends : Bool) → IsPart l s p → n < length l.chains → Tallied l ts → was ≡ get_or ts n was → Some (record { ends = ends; size = size }) ≡ held_by n (part_tree l s p) → size < 2 ^ 64
    → Tallied (waited l s p n) (set ts n (record { bytes = was.bytes + size; ends = ends }))
tallied_hold l s p n ts was size ends h w t e f wide =
    let len = t.each in
    let old : get_or ts n no_tally ≡ was = sym (e ∙ get_or_default ts n was no_tally (omega arith)) in
    let same : chain_at (waited l s p n) n ≡ chain_at l n ++ entry_of l s p n ∷ [] = get_or-set_same l.chains n (chain_at l n ++ entry_of l s p n ∷ []) [] w in
    let other : (k : ℕ) → k ≢ n → chain_at (waited l s p n) k ≡ chain_at l k = λ k d. get_or-set_other l.chains n k (chain_at l n ++ entry_of l s p n ∷ []) [] d in
    let new : get_or (set ts n (record { bytes = was.bytes + size; ends = ends })) n no_tally ≡ record { bytes = was.bytes + size; ends = ends } = get_or-set_same ts n (record { bytes = was.bytes + size; ends = ends }) no_tally (omega arith) in
    let sized : size_or (held_by n (part_tree l s p)) ≡ size = ap size_or (sym f) in
    record {
      each = length-set ts n (record { bytes = was.bytes + size; ends = ends }) ∙ t.each ∙ sym (length-set l.chains n (chain_at l n ++ entry_of l s p n ∷ []));
      bytes = λ k. elim (eqb_tells k n) [
        | inl i ↦ (let a = sizes_more (chain_at l n) (entry_of l s p n) in
            let b = t.bytes n in
            let c : (get_or (set ts n (record { bytes = was.bytes + size; ends = ends })) k no_tally).bytes ≡ was.bytes + size = ap (λ j. (get_or (set ts n (record { bytes = was.bytes + size; ends = ends })) j no_tally).bytes) i.1 ∙ ap (λ (x : Tally). x.bytes) new in
            let d : sizes (chain_at (waited l s p n) k) ≡ sizes (chain_at l n ++ entry_of l s p n ∷ []) = ap (λ j. sizes (chain_at (waited l s p n) j)) i.1 ∙ ap sizes same in
            let o = ap (λ (x : Tally). x.bytes) old in
            omega arith)
        | inr i ↦ ap (λ (x : Tally). x.bytes) (get_or-set_other ts n k (record { bytes = was.bytes + size; ends = ends }) no_tally i.1) ∙ t.bytes k ∙ ap sizes (sym (other k i.1))
      ];
      wide = λ k. elim (eqb_tells k n) [
        | inl i ↦ (let c : chain_at (waited l s p n) k ≡ chain_at l k ++ entry_of l s p k ∷ [] = ap (chain_at (waited l s p n)) i.1 ∙ same ∙ ap (λ u. chain_at l u ++ entry_of l s p u ∷ []) (sym i.1) in
            rw c (wide_more (chain_at l k) (entry_of l s p k) (t.wide k) (let z : size_or (held_by k (part_tree l s p)) ≡ size = ap (λ u. size_or (held_by u (part_tree l s p))) i.1 ∙ sized in omega arith)))
        | inr i ↦ rw (other k i.1) (t.wide k)
      ];
      ends = λ k x. elim (eqb_tells k n) [
        | inl i ↦ (let c : chain_at (waited l s p n) k ≡ chain_at l n ++ entry_of l s p n ∷ [] = ap (chain_at (waited l s p n)) i.1 ∙ same in
            ap (λ j. (get_or (set ts n (record { bytes = was.bytes + size; ends = ends })) j no_tally).ends) i.1 ∙ ap (λ (y : Tally). y.ends) new ∙ ap ends_or f
            ∙ sym (ap (last_ends (waited l s p n)) c ∙ last_after l s p (Waits n) h (set l.chains n (chain_at l n ++ entry_of l s p n ∷ [])) (chain_at l n ++ entry_of l s p n ∷ []) ∙ last_more l (chain_at l n) (entry_of l s p n)))
        | inr i ↦ ap (λ (y : Tally). y.ends) (get_or-set_other ts n k (record { bytes = was.bytes + size; ends = ends }) no_tally i.1)
            ∙ t.ends k (λ z. x (other k i.1 ∙ z))
            ∙ sym (ap (last_ends (waited l s p n)) (other k i.1) ∙ last_after l s p (Waits n) h (set l.chains n (chain_at l n ++ entry_of l s p n ∷ [])) (chain_at l k))
      ];
    }

-- a chain without its front ends in the same entry
last_rest : (l : Ledger) (e : Entry) (es : List Entry) → es ≢ [] → last_ends l (e ∷ es) ≡ last_ends l es
last_rest l e [] h = absurd (h refl)
last_rest l e (f ∷ es) h = refl

some_front : (e : Entry) (es : List Entry) → e ∷ es ≢ []
some_front e es h = cc

pub tallied_release : (l : Ledger) (n : ℕ) (e : Entry) (es : List Entry) (ts : List Tally) (was : Tally) → IsPart l e.slot e.part → n < length l.chains → chain_at l n ≡ e ∷ es → Tallied l ts → was ≡ get_or ts n was
    → Tallied (with_chain (with_part l e.slot e.part (release n (part_tree l e.slot e.part))) n es) (set ts n (record { bytes = was.bytes - e.size; ends = was.ends }))
tallied_release l n e es ts was h w q t f =
    let len = t.each in
    let old : get_or ts n no_tally ≡ was = sym (f ∙ get_or_default ts n was no_tally (omega arith)) in
    let m = with_chain (with_part l e.slot e.part (release n (part_tree l e.slot e.part))) n es in
    let same : chain_at (with_chain (with_part l e.slot e.part (release n (part_tree l e.slot e.part))) n es) n ≡ es = get_or-set_same l.chains n es [] w in
    let other : (k : ℕ) → k ≢ n → chain_at (with_chain (with_part l e.slot e.part (release n (part_tree l e.slot e.part))) n es) k ≡ chain_at l k = λ k d. get_or-set_other l.chains n k es [] d in
    let new : get_or (set ts n (record { bytes = was.bytes - e.size; ends = was.ends })) n no_tally ≡ record { bytes = was.bytes - e.size; ends = was.ends } = get_or-set_same ts n (record { bytes = was.bytes - e.size; ends = was.ends }) no_tally (omega arith) in
    record {
      each = length-set ts n (record { bytes = was.bytes - e.size; ends = was.ends }) ∙ t.each ∙ sym (length-set l.chains n es);
      bytes = λ k. elim (eqb_tells k n) [
        | inl i ↦ (let b = t.bytes n in
            let c : (get_or (set ts n (record { bytes = was.bytes - e.size; ends = was.ends })) k no_tally).bytes ≡ was.bytes - e.size = ap (λ j. (get_or (set ts n (record { bytes = was.bytes - e.size; ends = was.ends })) j no_tally).bytes) i.1 ∙ ap (λ (x : Tally). x.bytes) new in
            let d : sizes (chain_at (with_chain (with_part l e.slot e.part (release n (part_tree l e.slot e.part))) n es) k) ≡ sizes es = ap (λ j. sizes (chain_at (with_chain (with_part l e.slot e.part (release n (part_tree l e.slot e.part))) n es) j)) i.1 ∙ ap sizes same in
            let g : sizes (chain_at l n) ≡ e.size + sizes es = ap sizes q in
            let o = ap (λ (x : Tally). x.bytes) old in
            omega arith)
        | inr i ↦ ap (λ (x : Tally). x.bytes) (get_or-set_other ts n k (record { bytes = was.bytes - e.size; ends = was.ends }) no_tally i.1) ∙ t.bytes k ∙ ap sizes (sym (other k i.1))
      ];
      wide = λ k. elim (eqb_tells k n) [
        | inl i ↦ (let u : AllByRecursion (λ (x : Entry). x.size < 2 ^ 64) (e ∷ es) = subst (λ (xs : List Entry). AllByRecursion (λ (x : Entry). x.size < 2 ^ 64) xs) q (t.wide n) in
            let c : chain_at (with_chain (with_part l e.slot e.part (release n (part_tree l e.slot e.part))) n es) k ≡ es = ap (chain_at (with_chain (with_part l e.slot e.part (release n (part_tree l e.slot e.part))) n es)) i.1 ∙ same in
            rw c u.1)
        | inr i ↦ rw (other k i.1) (t.wide k)
      ];
      ends = λ k x. elim (eqb_tells k n) [
        | inl i ↦ (let c : chain_at (with_chain (with_part l e.slot e.part (release n (part_tree l e.slot e.part))) n es) k ≡ es = ap (chain_at (with_chain (with_part l e.slot e.part (release n (part_tree l e.slot e.part))) n es)) i.1 ∙ same in
            ap (λ j. (get_or (set ts n (record { bytes = was.bytes - e.size; ends = was.ends })) j no_tally).ends) i.1 ∙ ap (λ (y : Tally). y.ends) (new) ∙ ap (λ (y : Tally). y.ends) (sym old)
            ∙ t.ends n (λ z. some_front e es (sym q ∙ z)) ∙ ap (last_ends l) q ∙ last_rest l e es (λ z. x (c ∙ z))
            ∙ sym (ap (last_ends (with_chain (with_part l e.slot e.part (release n (part_tree l e.slot e.part))) n es)) c ∙ last_after l e.slot e.part (Release n) h (set l.chains n es) es))
        | inr i ↦ ap (λ (y : Tally). y.ends) (get_or-set_other ts n k (record { bytes = was.bytes - e.size; ends = was.ends }) no_tally i.1)
            ∙ t.ends k (λ z. x (other k i.1 ∙ z))
            ∙ sym (ap (last_ends (with_chain (with_part l e.slot e.part (release n (part_tree l e.slot e.part))) n es)) (other k i.1) ∙ last_after l e.slot e.part (Release n) h (set l.chains n es) (chain_at l k))
      ];
    }

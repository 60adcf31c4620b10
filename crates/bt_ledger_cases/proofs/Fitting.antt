-- The demands of the random cases are well formed, and parts that fit stay so with one more.
use Rattle.std.proofs.Common.{◌≢◌, ℕ, suc, ◌<◌, Bool, List, [], ◌∷◌, ◌++◌, arith, refl}
use Rattle.std.specs.List.{All, AllByRecursion, AllPairs}
use Rattle.std.proofs.lemmas.List.Kept.{AllPairs-from_increasing}
use Rattle.std.specs.List.Sorted.{IsStrictlyIncreasing}
use Rattle.std.proofs.lemmas.List.Elements.{All-from_recursion, recursion_from_All}
use Rattle.bt_demand.specs.Parts.{PartFits, parts_of}
use Rattle.bt_demand.specs.WellFormed.{WellFormed, Rises}
use Rattle.bt_demand.specs.declared.routes.Routed.{Routed}
use Rattle.bt_ledger.specs.Calls.{Fits}
use Rattle.bt_ledger.specs.Verdicts.{part_of}
use Rattle.bt_ledger_cases.specs.Shape.{shape}
use Rattle.bt_ledger_cases.specs.declared.shapes.Shape.{Shape}
use Rattle.bt_ledger_cases.specs.declared.shapes.Shape.TheVariants.{Leaf, Drop, Reject, Held, Tiers, Both, Late}

below : (n : ℕ) (xs : List ℕ) → AllByRecursion (λ x. x < n) xs → All (λ x. x < n) xs
below n xs h = All-from_recursion (λ x. x < n) xs h

apart : ◌≢◌ {A = ℕ} 0 1
apart = λ e. absurd (omega arith)

pub well_formed : (k : Shape) (e : Bool) (z : ℕ) (b w : List ℕ) → WellFormed 2 3 (shape k e z b w)
well_formed Leaf e z b w = record {
  untried = refl;
  leaves_differ = (tt, tt);
  sinks_known = below 2 (0 ∷ []) (omega arith, tt);
  holds_known = below 3 [] tt;
  holds_rise = tt;
  holds_flat = tt;
  firsts_have_children = tt;
  few_holds = omega arith;
}
well_formed Drop e z b w = record {
  untried = refl;
  leaves_differ = tt;
  sinks_known = below 2 [] tt;
  holds_known = below 3 [] tt;
  holds_rise = tt;
  holds_flat = tt;
  firsts_have_children = tt;
  few_holds = omega arith;
}
well_formed Reject e z b w = record {
  untried = refl;
  leaves_differ = tt;
  sinks_known = below 2 [] tt;
  holds_known = below 3 [] tt;
  holds_rise = tt;
  holds_flat = tt;
  firsts_have_children = tt;
  few_holds = omega arith;
}
well_formed Held e z b w = record {
  untried = refl;
  leaves_differ = (tt, tt);
  sinks_known = below 2 (1 ∷ []) (omega arith, tt);
  holds_known = below 3 (0 ∷ []) (omega arith, tt);
  holds_rise = (tt, tt);
  holds_flat = refl;
  firsts_have_children = tt;
  few_holds = omega arith;
}
well_formed Tiers e z b w = record {
  untried = refl;
  leaves_differ = ((apart, tt), (tt, tt));
  sinks_known = below 2 (0 ∷ 1 ∷ []) (omega arith, (omega arith, tt));
  holds_known = below 3 (1 ∷ []) (omega arith, tt);
  holds_rise = (tt, tt);
  holds_flat = (tt, (refl, tt));
  firsts_have_children = (tt, (tt, (tt, tt)));
  few_holds = omega arith;
}
well_formed Both e z b w = record {
  untried = refl;
  leaves_differ = ((apart, tt), (tt, tt));
  sinks_known = below 2 (0 ∷ 1 ∷ []) (omega arith, (omega arith, tt));
  holds_known = below 3 (0 ∷ 2 ∷ []) (omega arith, (omega arith, tt));
  holds_rise = ((omega arith, tt), (tt, tt));
  holds_flat = (refl, (refl, tt));
  firsts_have_children = (tt, (tt, tt));
  few_holds = omega arith;
}
well_formed Late e z b w = record {
  untried = refl;
  leaves_differ = ((apart, tt), (tt, tt));
  sinks_known = below 2 (0 ∷ 1 ∷ []) (omega arith, (omega arith, tt));
  holds_known = below 3 (1 ∷ []) (omega arith, tt);
  holds_rise = (tt, tt);
  holds_flat = (tt, ((tt, (refl, tt)), tt));
  firsts_have_children = (tt, (tt, ((tt, (tt, tt)), tt)));
  few_holds = omega arith;
}

-- one more part at the end
pub fits_more : (n : ℕ) (rs : List Routed) (r : Routed) → Fits 3 n (parts_of rs) → PartFits 2 3 n (part_of r) → Fits 3 n (parts_of (rs ++ r ∷ []))
fits_more n [] r h f = ((2, f), tt)
fits_more n (q ∷ rs) r h f = (h.0, fits_more n rs r h.1 f)

above : (x : ℕ) (xs : List ℕ) → AllPairs (λ x y. x < y) (x ∷ xs) → AllByRecursion (λ y. x < y) xs
above x xs h = recursion_from_All (λ y. x < y) xs (λ k d w. h 0 (suc k) d (omega arith) (omega arith))

rises_by : (xs : List ℕ) → AllPairs (λ x y. x < y) xs → Rises xs
rises_by [] h = tt
rises_by (x ∷ xs) h = (above x xs h, rises_by xs (λ i j d l w. h (suc i) (suc j) d (omega arith) (omega arith)))

pub rises_from : (xs : List ℕ) → IsStrictlyIncreasing xs → Rises xs
rises_from xs h = rises_by xs (AllPairs-from_increasing xs h)

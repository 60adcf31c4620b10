-- Lists that are made and numbered element by element.
use Rattle.std.proofs.Common.{◌≡◌, ℕ, suc, ◌+◌, ◌*◌, ◌<◌, ◌&&◌, true, eqb, nat_lt, eq-eqb, arith, List, [], ◌∷◌, ◌++◌, Option, Some, None, option_and_then, map, drop, refl, sym, subst, ap, ◌∙◌, append_assoc, append-nil}
use Rattle.bt_demand.specs.declared.routes.HoldPolicy.{HoldPolicy}
use Rattle.bt_making.specs.Sources.{AreMade, Part}
use Rattle.bt_outputs.specs.Numbers.{Next, Numbering, held, if_so, in_turn, retried}
use Rattle.std.proofs.lemmas.Bool.Decides.{nat_tests}
use Rattle.bt_outlines.specs.Outlines.{Outline, joined}
use Rattle.bt_outlines.proofs.Listing.{SoFar, StandsAt, left_there, next, none_done, none_left}
use Rattle.bt_output_plan.specs.Numbered.{next_of}
use Rattle.bt_output_plan.specs.declared.numbers.Numbers.{Numbers}

-- The first i are done: they are made, and numbered behind those before the list.
pub record Going {X F : Type 0} (blanked : X → F) (parts : X → List Part) (num : X → Numbering) (os : List (Outline F)) (hs : List (List HoldPolicy))
    (at : List ℕ) (i : ℕ) (out : List X) (start now : Numbers) : Type 0 where
  pub so_far : SoFar blanked parts os at i out
  pub numbered : in_turn (map num out) (next_of start) ≡ Some (next_of now)
  pub holds : now.holds.list ++ joined (drop i hs) ≡ start.holds.list ++ joined hs

alone : (o : Option Next) → option_and_then (in_turn []) o ≡ o
alone None = refl
alone (Some q) = refl

one_more : {X : Type 0} (num : X → Numbering) (out : List X) (x : X) (p : Next) → in_turn (map num (out ++ x ∷ [])) p ≡ option_and_then (num x) (in_turn (map num out) p)
one_more num [] x p = alone (num x p)
one_more num (y ∷ out) x p =
    elim (num y p) as (λ o. option_and_then (in_turn (map num (out ++ x ∷ []))) o ≡ option_and_then (num x) (option_and_then (in_turn (map num out)) o)) [
      | None ↦ refl
      | Some q ↦ one_more num out x q
    ]

pub none_going : {X F : Type 0} (blanked : X → F) (parts : X → List Part) (num : X → Numbering) (os : List (Outline F)) (hs : List (List HoldPolicy))
    (at : List ℕ) (out : List X) (start : Numbers) → out ≡ [] → Going blanked parts num os hs at 0 out start start
none_going blanked parts num os hs at out start none =
    subst (λ l. Going blanked parts num os hs at 0 l start start) (sym none) (record { so_far = none_done blanked parts os at; numbered = refl; holds = refl })

turned : {X : Type 0} (num : X → Numbering) (out new : List X) (x : X) (p q r : Next) → new ≡ out ++ x ∷ [] → in_turn (map num out) p ≡ Some q → num x q ≡ Some r →
    in_turn (map num new) p ≡ Some r
turned num out new x p q r pushed before here =
    ap (λ l. in_turn (map num l) p) pushed ∙ one_more num out x p ∙ ap (option_and_then (num x)) before ∙ here

kept : (now later start own : List HoldPolicy) (rest all : List (List HoldPolicy)) → later ≡ now ++ own → now ++ joined (own ∷ rest) ≡ start ++ joined all →
    later ++ joined rest ≡ start ++ joined all
kept now later start own rest all pushed before = ap (λ l. l ++ joined rest) pushed ∙ append_assoc now own (joined rest) ∙ before

pub going_on : {V R X F : Type 0} (reading : V → R) (blanked : X → F) (parts : X → List Part) (num : X → Numbering) (g : R → Outline F) (h : R → List HoldPolicy) (vs : List V)
    (at : List ℕ) (i : ℕ) (out new : List X) (start now later : Numbers) (v : V) (here : List ℕ) (x : X) →
    StandsAt vs at i v here → new ≡ out ++ x ∷ [] → blanked x ≡ (g (reading v)).form → AreMade ((g (reading v)).texts here) (parts x) →
    num x (next_of now) ≡ Some (next_of later) → later.holds.list ≡ now.holds.list ++ h (reading v) →
    Going blanked parts num (map g (map reading vs)) (map h (map reading vs)) at i out start now →
    Going blanked parts num (map g (map reading vs)) (map h (map reading vs)) at (i + 1) new start later
going_on reading blanked parts num g h vs at i out new start now later v here x stands pushed form made numbered holds before = record {
  so_far = next reading blanked parts g vs at i out new v here x stands pushed form made before.so_far;
  numbered = turned num out new x (next_of start) (next_of now) (next_of later) pushed before.numbered numbered;
  holds = kept now.holds.list later.holds.list start.holds.list (h (reading v)) (drop (i + 1) (map h (map reading vs))) (map h (map reading vs)) holds
      (ap (λ l. now.holds.list ++ joined l) (sym (left_there reading h vs at i v here stands)) ∙ before.holds);
}

pub all_held : {V R : Type 0} (reading : V → R) (h : R → List HoldPolicy) (vs items : List V) (i : ℕ) (start now : List HoldPolicy) →
    vs ≡ items → drop i (map h (map reading vs)) ≡ [] → now ++ joined (drop i (map h (map reading vs))) ≡ start ++ joined (map h (map reading vs)) →
    now ≡ start ++ joined (map h (map reading items))
all_held reading h vs items i start now same left holds =
    sym (append-nil now) ∙ ap (λ l. now ++ joined l) (sym left) ∙ holds ∙ ap (λ ws. start ++ joined (map h (map reading ws))) same

-- behind copies
pub retried_so : (n l h : ℕ) (p q : Next) (leaf hold : ℕ) → 0 < n → q.leaf ≡ p.leaf + l → q.hold ≡ p.hold + h → leaf ≡ p.leaf + n * l → hold ≡ p.hold + n * h →
    retried n l h p q ≡ Some (record { leaf = leaf; hold = hold })
retried_so n l h p q leaf hold some a b c d =
    let t : nat_lt 0 n ≡ true = grind (arith, nat_tests) in
    let u : eqb q.leaf (p.leaf + l) ≡ true = eq-eqb q.leaf (p.leaf + l) a in
    let v : eqb q.hold (p.hold + h) ≡ true = eq-eqb q.hold (p.hold + h) b in
    rw (t, u, v, c, d) refl

-- behind what is below a hold
pub held_so : (f : Numbering) (n : ℕ) (p here q : Next) → n ≡ p.hold → here.leaf ≡ p.leaf → here.hold ≡ p.hold + 1 → f here ≡ Some q → q.hold ≡ n + 1 →
    option_and_then (λ x. option_and_then (held p) (f x)) (if_so (eqb n p.hold) (record p { hold = suc p.hold })) ≡ Some q
held_so f n p here q same leaf hold below last =
    let t : eqb n p.hold ≡ true = eq-eqb n p.hold same in
    let u : eqb q.hold (suc p.hold) ≡ true = eq-eqb q.hold (suc p.hold) (omega arith) in
    let there : here ≡ record { leaf = p.leaf; hold = suc p.hold } = grind arith in
    let inside : f (record { leaf = p.leaf; hold = suc p.hold }) ≡ Some q = ap f (sym there) ∙ below in
    rw (t, inside, u) refl

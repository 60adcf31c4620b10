-- Lines printed one after another.
use Rattle.std.proofs.Common.{◌≡◌, ℕ, ◌+◌, ◌<◌, ◌≤◌, List, [], ◌∷◌, ◌++◌, IsTrue, Ok, Err, length, take, drop, get_or, refl, sym, ap, ◌∙◌, subst, arith, append_assoc, append-nil, length-append}
use Rattle.std.specs.List.{flat_map}
use Rattle.std.proofs.lemmas.List.{take_more, take-append-drop, take-append-le, take_all}
use Rattle.std.proofs.Math.Seq.{take-append-add}
use Rattle.std.proofs.lemmas.Grind.{flat_map-append}
use Rattle.bt_ports.specs.Faults.{Rose}
use Rattle.bt_ports.specs.World.{Tale}
use Rattle.bt_ports.specs.declared.parts.PrintFailed.{PrintFailed}
use Rattle.bt_ports.specs.declared.world.World as World
use Rattle.bt_lint.specs.Inside.{PrintsBytes}
use Rattle.bt_lint.specs.Report.{joined}

joined-append : (xs ys : List (List ℕ)) → joined (xs ++ ys) ≡ joined xs ++ joined ys
joined-append xs ys = flat_map-append (λ l. l) xs ys

-- the lines so far and one more
joined-next : (lines : List (List ℕ)) (i : ℕ) (d : List ℕ) → i < length lines → joined (take (i + 1) lines) ≡ joined (take i lines) ++ get_or lines i d
joined-next lines i d inside =
    ap joined (take_more lines i d inside) ∙ joined-append (take i lines) (get_or lines i d ∷ [])
    ∙ ap (λ (q : List ℕ). joined (take i lines) ++ q) (append-nil (get_or lines i d))

-- the lines so far, the next one, and those behind it
joined-split : (lines : List (List ℕ)) (i : ℕ) (d : List ℕ) → i < length lines →
    joined lines ≡ joined (take i lines) ++ (get_or lines i d ++ joined (drop (i + 1) lines))
joined-split lines i d inside =
    ap joined (sym (take-append-drop (i + 1) lines)) ∙ joined-append (take (i + 1) lines) (drop (i + 1) lines)
    ∙ ap (λ (q : List ℕ). q ++ joined (drop (i + 1) lines)) (joined-next lines i d inside)
    ∙ append_assoc (joined (take i lines)) (get_or lines i d) (joined (drop (i + 1) lines))

-- a prefix of the next line is a prefix of all
prefix-next : (lines : List (List ℕ)) (i : ℕ) (d : List ℕ) (n : ℕ) → i < length lines → n ≤ length (get_or lines i d) →
    take (length (joined (take i lines)) + n) (joined lines) ≡ joined (take i lines) ++ take n (get_or lines i d)
prefix-next lines i d n inside within =
    ap (take (length (joined (take i lines)) + n)) (joined-split lines i d inside)
    ∙ take-append-add (joined (take i lines)) (get_or lines i d ++ joined (drop (i + 1) lines)) n
    ∙ ap (λ (q : List ℕ). joined (take i lines) ++ q) (take-append-le n (get_or lines i d) (joined (drop (i + 1) lines)) within)

prefix-short : (lines : List (List ℕ)) (i : ℕ) (d : List ℕ) (n : ℕ) → i < length lines → n ≤ length (get_or lines i d) →
    length (joined (take i lines)) + n ≤ length (joined lines)
prefix-short lines i d n inside within =
    let e = ap length (joined-split lines i d inside) in omega (arith, e, length-append {A = ℕ})

only-then : {E I : Type 0} (a b d : Tale E I) → b ≡ record a { printed = b.printed } → d ≡ record b { printed = d.printed } → d ≡ record a { printed = d.printed }
only-then {E} {I} a b d e f = f ∙ ap (λ (t : Tale E I). record t { printed = d.printed }) e

module _ {W S K A C : Type 0} (g : World.Ghosts W S K A C) (lines : List (List ℕ)) (a : W) where
  -- nothing is printed yet
  pub printed-none : PrintsBytes g (Ok tt) (joined (take 0 lines)) a a
  printed-none = record {
    told = (λ t. t, λ t. t, λ t. t);
    others = (refl, refl);
    same = refl;
    rose = tt;
    only = λ t. refl;
    adds = λ t. sym (append-nil (g.tale a).printed);
  }

  -- all is printed
  pub printed-all : (i : ℕ) (b : W) → length lines ≤ i → PrintsBytes g (Ok tt) (joined (take i lines)) a b → PrintsBytes g (Ok tt) (joined lines) a b
  printed-all i b past h = subst (λ (ls : List (List ℕ)). PrintsBytes g (Ok tt) (joined ls) a b) (take_all i lines past) h

  module _ (i : ℕ) (d : List ℕ) (inside : i < length lines) (b e : W) (before : PrintsBytes g (Ok tt) (joined (take i lines)) a b) where
    -- one more line was printed
    pub printed-next : PrintsBytes g (Ok tt) (get_or lines i d) b e → PrintsBytes g (Ok tt) (joined (take (i + 1) lines)) a e
    printed-next p = record {
      told = (λ t. before.told.0 (p.told.0 t), λ t. before.told.1 (p.told.1 t), λ t. before.told.2 (p.told.2 t));
      others = (p.others.0 ∙ before.others.0, p.others.1 ∙ before.others.1);
      same = p.same ∙ before.same;
      rose = tt;
      only = λ t. only-then (g.tale a) (g.tale b) (g.tale e) (before.only (p.told.0 t)) (p.only t);
      adds = λ t.
          p.adds t ∙ ap (λ (q : List ℕ). q ++ get_or lines i d) (before.adds (p.told.1 t))
          ∙ append_assoc (g.tale a).printed (joined (take i lines)) (get_or lines i d)
          ∙ ap (λ (q : List ℕ). (g.tale a).printed ++ q) (sym (joined-next lines i d inside));
    }

    -- the next line couldn't be printed
    pub printed-failed : (x : PrintFailed) → PrintsBytes g (Err x) (get_or lines i d) b e → PrintsBytes g (Err x) (joined lines) a e
    printed-failed x p = record {
      told = (λ t. before.told.0 (p.told.0 t), λ t. before.told.1 (p.told.1 t), λ t. before.told.2 (p.told.2 t));
      others = (p.others.0 ∙ before.others.0, p.others.1 ∙ before.others.1);
      same = tt;
      rose = subst (λ (n : ℕ). Rose n (g.print_faults e)) before.same p.rose;
      only = λ t. only-then (g.tale a) (g.tale b) (g.tale e) (before.only (p.told.0 t)) (p.only t);
      adds = λ t.
          let q = p.adds t in (
            length (joined (take i lines)) + q.0,
            prefix-short lines i d q.0 inside q.1,
            q.2 ∙ ap (λ (r : List ℕ). r ++ take q.0 (get_or lines i d)) (before.adds (p.told.1 t))
                ∙ append_assoc (g.tale a).printed (joined (take i lines)) (take q.0 (get_or lines i d))
                ∙ ap (λ (r : List ℕ). (g.tale a).printed ++ r) (sym (prefix-next lines i d q.0 inside q.1)),
          );
    }

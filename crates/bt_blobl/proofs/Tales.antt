-- What the world tells behind the steps of `blobl`.
use Rattle.std.proofs.Common.{◌≡◌, ℕ, List, [], ◌++◌, ap, ◌∙◌, sym, subst, refl, append-nil, append_assoc}
use Rattle.bt_ports.specs.World.{Tale}
use Rattle.bt_ports.specs.declared.world.World as World
use Rattle.bt_commands.specs.Outside.{SaysOnly}
use Rattle.bt_blobl.specs.Inside.{PrintsOnly, OpensNone}
use Rattle.bt_blobl.specs.declared.course.Halt.TheVariants as halt

-- what was printed and said twice
pub prints_only-then : {E I : Type 0} (a b c : Tale E I) → PrintsOnly a b → PrintsOnly b c → PrintsOnly a c
prints_only-then {E = E} {I = I} a b c p q = q ∙ ap (λ (t : Tale E I). record t { printed = c.printed; lines = c.lines }) p

-- a call of the world was short of memory
pub opens-none : {E I : Type 0} (a b : Tale E I) (stdin : List ℕ) → b ≡ record a { calls = a.calls; stdin = stdin } → OpensNone halt.NoMemory a b
opens-none {E = E} {I = I} a b stdin is = record {
  part = [];
  calls = ap (λ (t : Tale E I). t.calls) is ∙ sym (append-nil a.calls);
  openings = (0, refl);
  only = subst (λ (t : Tale E I). t ≡ record a { calls = t.calls; stdin = t.stdin }) (sym is) refl;
}

module _ {W S K A C : Type 0} (g : World.Ghosts W S K A C) where
  -- no line was said
  pub says-none : (a : W) → SaysOnly g [] a a
  says-none a = record {
    told = (λ t. t, λ t. t, λ t. t);
    counts = (refl, refl, refl);
    only = λ t. refl;
    said = λ t. sym (append-nil (g.tale a).lines);
  }

  -- lines were said, and more lines
  pub says-then : (a b c : W) (xs ys : List (List ℕ)) → SaysOnly g xs a b → SaysOnly g ys b c → SaysOnly g (xs ++ ys) a c
  says-then a b c xs ys p q = record {
    told = (λ t. p.told.0 (q.told.0 t), λ t. p.told.1 (q.told.1 t), λ t. p.told.2 (q.told.2 t));
    counts = (q.counts.0 ∙ p.counts.0, q.counts.1 ∙ p.counts.1, q.counts.2 ∙ p.counts.2);
    only = λ t. q.only t ∙ ap (λ (w : Tale _ _). record w { lines = (g.tale c).lines }) (p.only (q.told.0 t));
    said = λ t. q.said t ∙ ap (λ (ls : List (List ℕ)). ls ++ ys) (p.said (q.told.2 t)) ∙ append_assoc (g.tale a).lines xs ys;
  }

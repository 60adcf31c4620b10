-- What a world tells behind lines that are said.
use Rattle.std.proofs.Common.{◌≡◌, ℕ, List, [], ◌++◌, ap, ◌∙◌, sym, refl, append-nil, append_assoc}
use Rattle.bt_commands.specs.Outside.{SaysOnly}
use Rattle.bt_ports.specs.World.{Tale}
use Rattle.bt_ports.specs.declared.world.World as World

module _ {W S K A C : Type 0} (g : World.Ghosts W S K A C) where
  -- no line was said
  pub says-none : (a : W) → SaysOnly g [] a a
  says-none a = record {
    told = (λ t. t, λ t. t, λ t. t);
    counts = (refl, refl, refl);
    only = λ t. refl;
    said = λ t. sym (append-nil (g.tale a).lines);
  }

  -- lines were said, and more lines
  pub says-then : (a b c : W) (xs ys : List (List ℕ)) → SaysOnly g xs a b → SaysOnly g ys b c → SaysOnly g (xs ++ ys) a c
  says-then a b c xs ys p q = record {
    told = (λ t. p.told.0 (q.told.0 t), λ t. p.told.1 (q.told.1 t), λ t. p.told.2 (q.told.2 t));
    counts = (q.counts.0 ∙ p.counts.0, q.counts.1 ∙ p.counts.1, q.counts.2 ∙ p.counts.2);
    only = λ t. q.only t ∙ ap (λ (w : Tale _ _). record w { lines = (g.tale c).lines }) (p.only (q.told.0 t));
    said = λ t. q.said t ∙ ap (λ (ls : List (List ℕ)). ls ++ ys) (p.said (q.told.2 t)) ∙ append_assoc (g.tale a).lines xs ys;
  }

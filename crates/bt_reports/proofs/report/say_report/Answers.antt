use Rattle.std.proofs.Common.{◌≡◌, ℕ, List, [], ◌∷◌, ◌++◌, ap, ◌∙◌, append_assoc}
use Rattle.bt_reports.proofs.Tales.{says-then}
use Rattle.bt_reports.proofs.report.say_report.Goals as goal

-- a list that grew by some lines and then by two more
grown : (a b c d e : List (List ℕ)) (t t' r r' : List ℕ) → b ≡ a ++ e → c ≡ b ++ t' ∷ [] → d ≡ c ++ r' ∷ [] → t' ≡ t → r' ≡ r → d ≡ a ++ (e ++ t ∷ r ∷ [])
grown a b c d e t t' r r' p q s u v =
    s ∙ ap (λ (l : List (List ℕ)). l ++ r' ∷ []) q ∙ append_assoc b (t' ∷ []) (r' ∷ []) ∙ ap (λ (x : List ℕ). b ++ x ∷ r' ∷ []) u ∙ ap (λ (x : List ℕ). b ++ t ∷ x ∷ []) v
    ∙ ap (λ (l : List (List ℕ)). l ++ t ∷ r ∷ []) p ∙ append_assoc a e (t ∷ r ∷ [])

pub returns : goal.returns
returns g c =
    let first = c.say_fault.ensures in
    let second = c.err.ensures in
    let third = c.err-2.ensures in
    record {
      told = (
        λ t. first.told.0 (second.told.0 (third.told.0 t)),
        λ t. first.told.1 (second.told.1 (third.told.1 t)),
        λ t. first.told.2 (second.told.2 (third.told.2 t)),
      );
      counts = (
        third.steady.0 ∙ second.steady.0 ∙ first.counts.0,
        third.steady.1 ∙ second.steady.1 ∙ first.counts.1,
        third.steady.2 ∙ second.steady.2 ∙ first.counts.2,
      );
      only = λ t.
          let t1 = third.told.0 t in
          let t0 = second.told.0 t1 in
          let start = g.W.World.tale c.args.world.now in
          let one = g.W.World.tale c.say_fault.new.world in
          let two = g.W.World.tale c.err.new.self in
          let three = g.W.World.tale c.err-2.new.self in
          says-then start two three (says-then start one two (first.only t0) (second.same t1)) (third.same t);
      said = λ t.
          let t1 = third.told.2 t in
          let t0 = second.told.2 t1 in
          grown _ _ _ _ _ _ _ _ _ (first.said t0) (second.adds t1) (third.adds t)
          (c.as_bytes.ensures.value ∙ c.as_str.ensures.value ∙ c.taken_line.ensures)
          (c.as_bytes-2.ensures.value ∙ c.as_str-2.ensures.value ∙ c.releases_line.ensures);
    }

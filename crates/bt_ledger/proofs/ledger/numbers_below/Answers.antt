use Rattle.std.proofs.Common.{◌≡◌, ◌+◌, arith, sym, ap, ◌∙◌, List, ℕ, ◌++◌, ◌∷◌, [], suc, length}
use Rattle.bt_chains.specs.Places.{numbers_from}
use Rattle.bt_ledger.proofs.Making.{numbers_more, numbers_length}
use Rattle.bt_ledger.proofs.ledger.numbers_below.Goals as goal

pub push_reserved-requires : goal.push_reserved-requires
push_reserved-requires c = let a = ap length c.loop-i.invariant.numbers ∙ numbers_length c.loop-i.i 0 in let b = c.loop-i.invariant.room in omega arith

pub loop-i-preserved : goal.loop-i-preserved
loop-i-preserved c =
    let e : suc c.loop-i.i ≡ c.loop-i.i + 1 = omega arith in
    let z : c.loop-i.i ≡ 0 + c.loop-i.i = omega arith in
    record {
      numbers = c.push_reserved.ensures.items ∙ ap (λ (xs : List ℕ). xs ++ c.loop-i.i ∷ []) c.loop-i.invariant.numbers ∙ ap (λ (n : ℕ). numbers_from c.loop-i.i 0 ++ n ∷ []) z ∙ sym (numbers_more c.loop-i.i 0) ∙ ap (λ (n : ℕ). numbers_from n 0) e;
      room = (let a = c.push_reserved.ensures.capacity in let b = c.loop-i.invariant.room in omega arith);
    }

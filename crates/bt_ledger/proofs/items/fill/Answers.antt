use Rattle.std.proofs.Common.{arith, length, sym, ap, ◌∙◌, ◌++◌, ◌∷◌, [], List}
use Rattle.bt_demand.specs.declared.routes.Count.{Count}
use Rattle.bt_ledger.specs.Counted.{fresh_count}
use Rattle.bt_ledger.proofs.CountSeen.{fresh_length, fresh_more}
use Rattle.bt_ledger.proofs.items.fill.Goals as goal

pub push_reserved-requires : goal.push_reserved-requires
push_reserved-requires c = let a = ap length c.loop-i.invariant.counts ∙ fresh_length c.loop-i.i in let b = c.loop-i.invariant.capacity in let r = c.requires.room in omega arith

pub loop-i-preserved : goal.loop-i-preserved
loop-i-preserved c = record {
  counts = c.push_reserved.ensures.items ∙ ap (λ (xs : List Count). xs ++ fresh_count ∷ []) c.loop-i.invariant.counts ∙ sym (fresh_more c.loop-i.i);
  capacity = c.push_reserved.ensures.capacity ∙ c.loop-i.invariant.capacity;
}

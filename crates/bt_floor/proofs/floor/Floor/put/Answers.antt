use Rattle.std.proofs.Common.{◌≡◌, arith, refl, sym, ap, subst, ◌+◌, []}
use Rattle.bt_demand.specs.Holding.{is_open}
use Rattle.bt_demand.specs.Steps.{state_for}
use Rattle.bt_ledger.specs.Ledger.{Ledger, slot_at, part_tree, parts_in, IsPart, number_in}
use Rattle.bt_demand.specs.Reached.{IsNext}
use Rattle.bt_demand.specs.Recorded.{untried}
use Rattle.bt_demand.specs.WellFormed.{nodes}
use Rattle.bt_sound.specs.Owned.{PutsAs}
use Rattle.bt_sound.specs.View.{FloorView}
use Rattle.bt_moves.proofs.Keeping.{given_true}
use Rattle.bt_sound.proofs.Owned.{puts_next}
use Rattle.bt_sound.proofs.Steps.{part_plain, sound_put, well_formed_at}
use Rattle.bt_leaves.proofs.NextLeaf.{to_put_bytes, put_in_range, next_open}
use Rattle.bt_leaves.proofs.Kept.{untried_settle}
use Rattle.bt_sound.specs.Turns.{AtMostOne, SinksAdd}
use Rattle.bt_sound.proofs.Turns.{put_adds}
use Rattle.bt_floor.proofs.floor.Floor.put.Goals as goal

pub leaf_bytes-bytes-requires-clause-leaf : goal.leaf_bytes-bytes-requires-clause-leaf
leaf_bytes-bytes-requires-clause-leaf g c =
    let l = ap (λ (v : FloorView _ _ _ _ _). v.ledger) c.self.view_is in
    let puts = subst (λ (v : FloorView _ _ _ _ _). PutsAs v.releases c.args.leaf c.args.sink c.args.batch (part_tree v.ledger c.args.slot c.args.part)) (sym c.self.view_is) c.requires.puts in
    let next : IsNext c.args.leaf c.args.sink (part_tree c.self.inside.ledger c.args.slot c.args.part) = puts_next c.self.inside.releases.items c.args.leaf c.args.sink c.args.batch (part_tree c.self.inside.ledger c.args.slot c.args.part) puts in
    to_put_bytes c.args.leaf c.args.sink (part_tree c.self.inside.ledger c.args.slot c.args.part) next

pub write-accepted-requires-after_bounds : goal.write-accepted-requires-after_bounds
write-accepted-requires-after_bounds g c = λ κs within.
    let l = ap (λ (v : FloorView _ _ _ _ _). v.ledger) c.self.view_is in
    let part : IsPart c.self.inside.ledger c.args.slot c.args.part = subst (λ k. IsPart k c.args.slot c.args.part) (sym l) c.requires.part in
    let puts = subst (λ (v : FloorView _ _ _ _ _). PutsAs v.releases c.args.leaf c.args.sink c.args.batch (part_tree v.ledger c.args.slot c.args.part)) (sym c.self.view_is) c.requires.puts in
    let next : IsNext c.args.leaf c.args.sink (part_tree c.self.inside.ledger c.args.slot c.args.part) = puts_next c.self.inside.releases.items c.args.leaf c.args.sink c.args.batch (part_tree c.self.inside.ledger c.args.slot c.args.part) puts in
    let s = c.self.invariant.1 in
    let formed = well_formed_at _ _ _ (parts_in (slot_at c.self.inside.ledger c.args.slot)) c.args.part part.1 (s.shaped c.args.slot (given_true (slot_at c.self.inside.ledger c.args.slot) c.args.part part.1)) in
    let known = put_in_range c.args.leaf c.args.sink _ _ (part_tree c.self.inside.ledger c.args.slot c.args.part) next formed in
    let many = s.sinks in
    omega arith

pub invariant_of-self : goal.invariant_of-self
invariant_of-self g c =
    let l = ap (λ (v : FloorView _ _ _ _ _). v.ledger) c.self.view_is in
    let part : IsPart c.self.inside.ledger c.args.slot c.args.part = subst (λ k. IsPart k c.args.slot c.args.part) (sym l) c.requires.part in
    let puts = subst (λ (v : FloorView _ _ _ _ _). PutsAs v.releases c.args.leaf c.args.sink c.args.batch (part_tree v.ledger c.args.slot c.args.part)) (sym c.self.view_is) c.requires.puts in
    let next : IsNext c.args.leaf c.args.sink (part_tree c.self.inside.ledger c.args.slot c.args.part) = puts_next c.self.inside.releases.items c.args.leaf c.args.sink c.args.batch (part_tree c.self.inside.ledger c.args.slot c.args.part) puts in
    rw c.settle_leaf.ensures (
      c.self.invariant.0,
      sound_put _ _ _ _ _ _ c.self.invariant.0 c.args.slot c.args.part c.args.leaf c.args.sink _ c.write-accepted.result _ c.self.invariant.1 part puts c.leaf_bytes-bytes.ensures c.write-accepted.ensures c.number-number.ensures refl refl
          (untried_settle c.args.leaf (state_for c.write-accepted.result) (part_tree c.self.inside.ledger c.args.slot c.args.part)) (ap is_open (next_open c.args.leaf c.args.sink (part_tree c.self.inside.ledger c.args.slot c.args.part) next)),
    )

pub returns-clause-adds : goal.returns-clause-adds
returns-clause-adds g c =
    subst (λ (v : FloorView _ _ _ _ _). SinksAdd g.K.Sink (AtMostOne (number_in (slot_at v.ledger c.args.slot)) c.args.part c.args.leaf) v.sinks c.write-accepted.new.sinks.items) c.self.view_is
    (put_adds g.K.Sink c.self.inside.sinks.items c.write-accepted.new.sinks.items c.args.sink _ c.write-accepted.result (number_in (slot_at c.self.inside.ledger c.args.slot)) c.args.part c.args.leaf c.write-accepted.ensures c.number-number.ensures refl refl)

pub returns-clause-plain : goal.returns-clause-plain
returns-clause-plain g c =
    let l = ap (λ (v : FloorView _ _ _ _ _). v.ledger) c.self.view_is in
    let part : IsPart c.self.inside.ledger c.args.slot c.args.part = subst (λ k. IsPart k c.args.slot c.args.part) (sym l) c.requires.part in
    subst (λ (k : Ledger). k.policies ≡ [] → nodes (untried (part_tree k c.args.slot c.args.part)) ≡ []) l (part_plain _ _ _ _ _ _ c.self.invariant.0 c.args.slot c.args.part c.self.invariant.1 part)

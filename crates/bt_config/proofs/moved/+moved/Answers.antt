use Rattle.std.proofs.Common.{◌≡◌, sym, subst, arith, rules}
use Rattle.bt_value.specs.Keys.{Rising}
use Rattle.bt_config.proofs.Moving.{Rising-next}
use Rattle.bt_config.proofs.moved.+moved.Goals as goal

pub moved_members-push-requires : goal.moved_members-push-requires
moved_members-push-requires t c =
    let es = c.as_slice-field-items.result.now in
    let rising : Rising es = subst Rising (sym c.as_slice-field-items.ensures.items) c.as_slice-field-items.ensures.rising in
    let named : c.in_ok-key.key ≡ c.field-item.result.0 = grind (arith, rules) in
    rw (named, c.loop-field.invariant, c.field-item.is) (Rising-next c.args.scanners c.args.here es c.loop-field.field-index _ c.in_ok-value.value rising c.loop-field-test.true)

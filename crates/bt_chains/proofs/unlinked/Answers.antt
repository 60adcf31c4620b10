use Rattle.std.proofs.Common.{rules, ◌≡◌, arith, refl, None, replicate, Option}
use Rattle.bt_chains.specs.declared.Entry.{Entry}
use Rattle.bt_chains.proofs.Fresh.{fresh, empty_chain, empty_places}
use Rattle.bt_chains.proofs.unlinked.Goals as goal

pub invariant_of-result : goal.invariant_of-result
invariant_of-result c =
    let a : c.in_ok-vec.field-0.items ≡ replicate {A = Option Entry} c.args.entries None = c.in_ok-vec.ensures.items_if_clones_equal (λ y h. search rules) in
    let b : c.in_ok-vec-2.field-0.items ≡ replicate c.args.chains empty_chain = c.in_ok-vec-2.ensures.items_if_clones_equal (λ y e. e) in
    let i = c.loop-i.invariant in
    let f = fresh c.args.entries c.args.chains c.loop-i.links.items c.ranges.entries.fits i.0 (λ j h. i.1 j (omega arith)) in
    rw (a, b) f.linked

pub returns : goal.returns
returns c =
    let a : c.in_ok-vec.field-0.items ≡ replicate {A = Option Entry} c.args.entries None = c.in_ok-vec.ensures.items_if_clones_equal (λ y h. search rules) in
    let b : c.in_ok-vec-2.field-0.items ≡ replicate c.args.chains empty_chain = c.in_ok-vec-2.ensures.items_if_clones_equal (λ y e. e) in
    let i = c.loop-i.invariant in
    let f = fresh c.args.entries c.args.chains c.loop-i.links.items c.ranges.entries.fits i.0 (λ j h. i.1 j (omega arith)) in
    rw (a, b, f.free, empty_places c.args.chains c.loop-i.links.items) refl

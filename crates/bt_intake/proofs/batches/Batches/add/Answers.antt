use Rattle.std.proofs.Common.{◌≡◌, ℕ, ◌+◌, ◌-◌, ◌^◌, min, Bool, List, ◌++◌, ◌∷◌, [], length, length-append, sym, ap, ◌∙◌, subst, arith}
use Rattle.bt_ports.specs.declared.parts.Item.{Item}
use Rattle.bt_intake.specs.declared.policy.Policy.{Policy}
use Rattle.bt_intake.specs.Batches.{bytes_in, ends_at}
use Rattle.bt_intake.specs.Gathering.{size_of}
use Rattle.bt_intake.proofs.Batching.{either_first}
use Rattle.bt_intake.proofs.Sizes.{size-more}
use Rattle.bt_intake.proofs.batches.Batches.add.Goals as goal

-- what the test of the numbers says of the batch with the item
full_of : (p : Policy) (batch : List Item) (i : Item) (full : Bool) (size more count : ℕ) → size ≡ size_of batch → more ≡ min (2 ^ 64 - 1) (size + length i.bytes) → count ≡ length batch
    → ((all : ℕ) → more ≡ min (2 ^ 64 - 1) all → full ≡ ends_at p (count + 1) all)
    → full ≡ ends_at p (length (batch ++ i ∷ [])) (bytes_in (batch ++ i ∷ []))
full_of p batch i full size more count is grows counts says =
    let n : count + 1 ≡ length (batch ++ i ∷ []) = omega (arith, counts, length-append batch (i ∷ [])) in
    subst (λ m. full ≡ ends_at p m (bytes_in (batch ++ i ∷ []))) n (says (bytes_in (batch ++ i ∷ [])) (size-more batch i size more is grows))

pub add_last-requires-clause-ended : goal.add_last-requires-clause-ended
add_last-requires-clause-ended g c =
    let s = c.args.self.now in
    let grows : c.saturating_add-self.result ≡ min (2 ^ 64 - 1) (s.size + length c.args.item.bytes) = omega (arith, c.saturating_add-self.ensures, ap length c.as_slice.ensures) in
    let full = full_of s.policy s.batch.list c.args.item c.is_full.result s.size c.saturating_add-self.result c.len.result c.requires.size grows c.len.ensures c.is_full.ensures in
    either_first _ _ (sym full ∙ c.if-is_full.true)

pub add_by_check-requires-clause-size : goal.add_by_check-requires-clause-size
add_by_check-requires-clause-size g c =
    let s = c.args.self.now in
    size-more s.batch.list c.args.item s.size c.saturating_add-self.result c.requires.size (omega (arith, c.saturating_add-self.ensures, ap length c.as_slice.ensures))

pub add_by_check-requires-clause-full : goal.add_by_check-requires-clause-full
add_by_check-requires-clause-full g c =
    let s = c.args.self.now in
    let grows : c.saturating_add-self.result ≡ min (2 ^ 64 - 1) (s.size + length c.args.item.bytes) = omega (arith, c.saturating_add-self.ensures, ap length c.as_slice.ensures) in
    sym (full_of s.policy s.batch.list c.args.item c.is_full.result s.size c.saturating_add-self.result c.len.result c.requires.size grows c.len.ensures c.is_full.ensures) ∙ c.if-is_full.false

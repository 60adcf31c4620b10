use Rattle.std.proofs.Common.{◌≡◌, ℕ, ◌∷◌, ◌++◌, nat_eq}
use Rattle.std.specs.List.Sorted.{IsStrictlyIncreasing}
use Rattle.std.specs.Set.{is_member}
use Rattle.std.specs.Vec.Iter.{into_iter_items}
use Rattle.bt_batches.specs.Archives as spec
use Rattle.bt_batches.specs.Unions.{is_in_any}
use Rattle.bt_batches.proofs.archive.archived.Given as goal

abbrev pub invariant-loop-p : goal.invariant-loop-p
invariant-loop-p l = record {
  so_far : l.yielded ++ into_iter_items l.p-iterator ≡ into_iter_items l.initial.p-iterator;
  rising : IsStrictlyIncreasing (spec.origins l.initial.run l.yielded);
  members : (q : ℕ) → is_in_any (l.run ∷ l.runs.items) q ≡ is_member nat_eq (spec.origins l.initial.run l.yielded) q;
}

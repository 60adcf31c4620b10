-- A value put where another was put for a while.
use Rattle.std.proofs.Common.{◌≡◌, ◌≢◌, ◌-◌, List, ℕ, zero, suc, refl, arith}
use Rattle.std.specs.List.{fold}
use Rattle.bt_objects.specs.Objects.{Pairs, merged, merged_on, assigned, assigned_on}
use Rattle.std.specs.Cmp.Lexicographic.{slice_cmp}
use Rattle.std.specs.Ordering.{nat_cmp}
use Rattle.std.specs.BTreeMap.{insert_entry}
use Rattle.bt_value.specs.declared.val.Val.{Val}
use Rattle.bt_value.proofs.Replacing.{put-twice}

pub merged_step : (n : ℕ) (ms ns : Pairs) → n ≢ 0 → merged n ms ns ≡ fold (merged_on (merged (n - 1))) ms ns
unfolding merged
merged_step zero ms ns h = absurd (h refl)
merged_step (suc n) ms ns h = let e : suc n - 1 ≡ n = omega arith in rw e refl

pub assigned_step : (n : ℕ) (ms ns : Pairs) → n ≢ 0 → assigned n ms ns ≡ fold (assigned_on (assigned (n - 1))) ms ns
unfolding assigned
assigned_step zero ms ns h = absurd (h refl)
assigned_step (suc n) ms ns h = let e : suc n - 1 ≡ n = omega arith in rw e refl

pub replaced_put : (k : List ℕ) (v w : Val) (es : List (List ℕ × Val)) → insert_entry (slice_cmp nat_cmp) (insert_entry (slice_cmp nat_cmp) es k v) k w ≡ insert_entry (slice_cmp nat_cmp) es k w
replaced_put k v w es = put-twice k v w es

-- with no levels left the first object stands
pub merged_none : (n : ℕ) (ms ns : Pairs) → n ≡ 0 → ms ≡ merged n ms ns
unfolding merged
merged_none zero ms ns h = refl
merged_none (suc n) ms ns h = absurd (omega (arith, h))

pub assigned_none : (n : ℕ) (ms ns : Pairs) → n ≡ 0 → ms ≡ assigned n ms ns
unfolding assigned
assigned_none zero ms ns h = refl
assigned_none (suc n) ms ns h = absurd (omega (arith, h))

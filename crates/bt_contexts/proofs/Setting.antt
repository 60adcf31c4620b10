-- A document with a value put into it, by what setting answers.
use Rattle.std.proofs.Common.{◌≡◌, ◌≤◌, ◌<◌, ◌+◌, ℕ, List, Bool, true, false, Option, Some, None, Result, Ok, Err, IsSomeAnd, refl, rules, length, nat_lt, arith}
use Rattle.std.specs.Prelude.{codes}
use Rattle.std.proofs.lemmas.Bool.Decides.{nat_tests}
use Rattle.bt_value.specs.Depth.{depth}
use Rattle.bt_value.specs.Paths.{set_at}
use Rattle.bt_value.specs.declared.val.Val.{Val}
use Rattle.bt_meaning.specs.Statements.{set_in, set_found}
use Rattle.bt_meaning.specs.declared.state.Root.{Root}
use Rattle.bt_meaning.specs.declared.state.Root.TheVariants.{Set}

shallow : (n : ℕ) → n ≤ 127 → nat_lt 127 n ≡ false
shallow n h = grind (arith, nat_tests)

deep : (n : ℕ) → 127 < n → nat_lt 127 n ≡ true
deep n h = grind (arith, nat_tests)

pub was_set : (ns : List (List ℕ)) (x d w : Val) → set_at ns x d ≡ Some w → length ns + depth x ≤ 127 → set_in ns x d ≡ Ok (Set w)
was_set ns x d w e h = rw (e, shallow (length ns + depth x) h) refl

pub no_object : (ns : List (List ℕ)) (x d : Val) → set_at ns x d ≡ None → set_in ns x d ≡ Err (codes "root: path through a value that is not an object")
no_object ns x d e = rw e refl

too_deep_at : (o : Option Val) (P : Val → Type 0) → IsSomeAnd o P → set_found o true ≡ Err (codes "root: too deep")
too_deep_at None P h = absurd h
too_deep_at (Some w) P h = refl

pub too_deep : (ns : List (List ℕ)) (x d : Val) (P : Val → Type 0) → IsSomeAnd (set_at ns x d) P → 127 < length ns + depth x → set_in ns x d ≡ Err (codes "root: too deep")
too_deep ns x d P s h = rw (deep (length ns + depth x) h) (too_deep_at (set_at ns x d) P s)

-- The order of lints.
use Rattle.std.specs.Prelude.{ℕ}
use Rattle.std.specs.declared.cmp.Ordering.{Ordering}
use Rattle.std.specs.Ordering.{nat_cmp, ordering_then}
use Rattle.bt_lints.specs.declared.lint.MapLint.{MapLint}
use Rattle.bt_lints.specs.declared.lint.MapLintKind.{MapLintKind}
use Rattle.bt_lints.specs.declared.lint.MapLintKind.TheVariants as kind

-- the number of a kind
abbrev pub number : MapLintKind → ℕ
number kind.UnknownFunction = 1
number kind.UnknownMethod = 2
number kind.WrongArguments = 3
number kind.UnknownVariable = 4
number kind.UnknownMap = 5
number kind.MapCycle = 6
number kind.DuplicateMap = 7
number kind.RootInCheck = 8

-- by place, and at one place by number
abbrev pub by_place : MapLint → MapLint → Ordering
by_place x y = ordering_then (nat_cmp x.at y.at) (nat_cmp (number x.kind) (number y.kind))

-- What the steps of the walk leave behind. Only its proofs use these words.
use Rattle.std.specs.Prelude.{◌≡◌, ℕ, List, [], ◌∷◌, ◌++◌, Result, OnOk, Option, Some, None}
use Rattle.std.specs.declared.alloc.Global.{Global}
use denote.Ref.{Bor, MutBor}
use Rattle.bt_ports.specs.Contents.{Contents}
use Rattle.bt_ports.specs.declared.NoMemory.{NoMemory}
use Rattle.bt_tree.specs.declared.tree.Query.{Query}
use Rattle.bt_tree.specs.declared.tree.Suffix.{Suffix}
use Rattle.bt_tree.specs.declared.tree.Arg.{Arg}
use Rattle.bt_tree.specs.declared.tree.Member.{Member}
use Rattle.bt_tree.specs.declared.tree.Term.{Term}
use Rattle.bt_tree.specs.declared.tree.Case.{Case}
use Rattle.bt_tree.specs.declared.tree.Branch.{Branch}
use Rattle.bt_tree.specs.Parts.{in_arg, in_suffix, in_case}
use Rattle.bt_findings.specs.Found as spec
use Rattle.bt_findings.specs.Found.{findings, seen}
use Rattle.bt_findings.specs.declared.finding.Finding.{Finding}

-- what is found in each part, behind what was found before
abbrev pub each : {A : Type 0} → (A → List Finding) → List Finding → List A → List Finding
each f u [] = u
each f u (x ∷ xs) = each f (u ++ f x) xs

abbrev pub arg : Arg Query → List Finding
arg x = spec.arg (in_arg seen x)

abbrev pub suffix : Suffix Query → List Finding
suffix x = spec.suffix (in_suffix seen x)

abbrev pub member : Member Query → List Finding
member x = findings x.query

abbrev pub term : Term Query → List Finding
term x = findings x.query

abbrev pub one_case : Case Query → List Finding
one_case x = spec.one_case (in_case seen x)

abbrev pub branch : Branch Query → List Finding
branch x = findings x.test ++ findings x.gives

abbrev pub optional : Option Query → List Finding
optional None = []
optional (Some q) = findings q

-- a function value that walks queries, with so much room
pub record Walks (room : ℕ) (pre : Global → MutBor (Contents Finding) → Bor Query → ℕ → Type 0)
    (post : Global → MutBor (Contents Finding) → Bor Query → ℕ → Result (Unit {0}) NoMemory → MutBor (Contents Finding) → Type 0) : Type 0 where
  pub callable : (alloc : Global) (old : MutBor (Contents Finding)) (q : Bor Query) → pre alloc old q room
  pub walks : (alloc : Global) (old new : MutBor (Contents Finding)) (q : Bor Query) (r : Result (Unit {0}) NoMemory) → post alloc old q room r new
      → OnOk r (new.now.list ≡ old.now.list ++ findings q.now)

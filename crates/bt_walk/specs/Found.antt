-- What a walk over a configuration finds.
use Rattle.std.specs.Prelude.{ℕ, List, [], ◌∷◌, Bool, map, if◌then◌else◌}
use Rattle.bt_schema.specs.declared.forms.Language.{Language}
use Rattle.bt_schema.specs.declared.lints.LintKind.{LintKind}
use Rattle.bt_walk.specs.declared.findings.Found.{Found}
use Rattle.bt_walk.specs.declared.findings.Found.TheVariants as found
use Rattle.bt_walk.specs.declared.findings.Finding.{Finding}

-- something wrong at a place, or a text there of which the mapping language says what is wrong
pub data Fact : Type 0 where
  wrong : LintKind → Fact
  text : Language → List ℕ → Fact

-- the same with the pointer of the place
pub record Located : Type 0 where
  pub pointer : List ℕ
  pub fact : Fact

abbrev pub fact_of : Found → Fact
fact_of (found.Wrong kind) = wrong kind
fact_of (found.Text language t) = text language t.now

-- what is found, where the text of a finding is seen as its bytes
abbrev pub located : Finding → Located
located f = record { pointer = f.pointer; fact = fact_of f.found }

-- a fact, where the test holds
abbrev pub when : Bool → LintKind → List Fact
when test kind = if test then wrong kind ∷ [] else []

-- facts at a place
abbrev pub at_pointer : List ℕ → List Fact → List Located
at_pointer p facts = map (λ f. record { pointer = p; fact = f }) facts

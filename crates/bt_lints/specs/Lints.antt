-- What is wrong in a mapping, and at which places.
use Rattle.std.specs.Prelude.{◌≡◌, ◌⊎◌, ℕ, List, [], ◌∷◌, ◌++◌, flat_map}
use Rattle.std.specs.List.{Contains}
use Rattle.bt_tree.specs.declared.tree.Query.{Query}
use Rattle.bt_tree.specs.declared.tree.MapStmt.{MapStmt}
use Rattle.bt_tree.specs.declared.tree.MapStmt.TheVariants as ms
use Rattle.bt_tree.specs.declared.tree.Mapping.{Mapping}
use Rattle.bt_tree.specs.declared.tree.Mapping.TheVariants as m
use Rattle.bt_tree.specs.declared.tree.Stmt.{Stmt}
use Rattle.bt_tree.specs.declared.tree.Stmt.TheVariants as st
use Rattle.bt_findings.specs.Found.{findings}
use Rattle.bt_findings.specs.declared.finding.Finding.{Finding}
use Rattle.bt_findings.specs.declared.finding.Finding.TheVariants as found
use Rattle.bt_lints.specs.declared.lint.MapLint.{MapLint}
use Rattle.bt_lints.specs.declared.lint.MapLintKind.{MapLintKind}
use Rattle.bt_lints.specs.declared.lint.MapLintKind.TheVariants as kind
use Rattle.bt_lints.specs.declared.lint.Use.{Use}
use Rattle.bt_lints.specs.declared.lint.Use.TheVariants as usage
use Rattle.bt_lints.specs.declared.reach.Application.{Application}

-- one of the list's members has the property
abbrev pub OneOf : {A : Type 0} → (A → Type 0) → List A → Type 0
OneOf P [] = ⊥
OneOf P (x ∷ xs) = P x ⊎ OneOf P xs

abbrev pub lint : ℕ → MapLintKind → MapLint
lint at k = record { at = at; kind = k }

-- ---- which maps reach which

-- the query of a map's statement
abbrev pub map_query : MapStmt → Query
map_query (ms.Root at path q) = q
map_query (ms.Let name q) = q

-- what is found in a map's body
abbrev pub map_stmt_findings : MapStmt → List Finding
map_stmt_findings y = findings (map_query y)

abbrev pub body_findings : List MapStmt → List Finding
body_findings body = flat_map map_stmt_findings body

-- the maps that are applied, of what is found in the body of a map
abbrev pub applied_by : List ℕ → List Finding → List Application
applied_by name [] = []
applied_by name (found.Apply w ∷ fs) = record { by = name; map = w.text } ∷ applied_by name fs
applied_by name (_ ∷ fs) = applied_by name fs

abbrev pub stmt_applications : Stmt → List Application
stmt_applications (st.Map at name body) = applied_by name (body_findings body)
stmt_applications _ = []

-- which map applies which; of maps with one name all bodies count
abbrev pub applications : List Stmt → List Application
applications ss = flat_map stmt_applications ss

-- a map reaches itself, and whatever a map that it applies reaches
pub data Reaches (links : List Application) : List ℕ → List ℕ → Type 0 where
  itself : {a : List ℕ} → Reaches links a a
  applies : {a b c : List ℕ} → Contains links (record { by = a; map = b }) → Reaches links b c → Reaches links a c

-- ---- lints of queries

-- where a query stands: the use of the mapping, the names of all its maps, and the variables that earlier statements of the body set
pub record Scope : Type 0 where
  pub how : Use
  pub maps : List (List ℕ)
  pub variables : List (List ℕ)

abbrev pub scope : Use → List (List ℕ) → List (List ℕ) → Scope
scope how maps variables = record { how = how; maps = maps; variables = variables }

-- `root` in a check
abbrev pub RootLint : Use → ℕ → MapLint → Type 0
RootLint how at x = (how ≡ usage.Check) × (x ≡ lint at kind.RootInCheck)

-- The lints of what is found in a query, a row a kind. `Leads` are the maps that reach the one in whose body the query stands; outside of maps
-- there are none.
abbrev pub FindingLint : Scope → (List ℕ → Type 0) → Finding → MapLint → Type 0
FindingLint s Leads (found.UnknownFunction at) x = x ≡ lint at kind.UnknownFunction
FindingLint s Leads (found.UnknownMethod at) x = x ≡ lint at kind.UnknownMethod
FindingLint s Leads (found.WrongArguments at) x = x ≡ lint at kind.WrongArguments
FindingLint s Leads (found.Variable w) x = (Contains s.variables w.text → ⊥) × (x ≡ lint w.at kind.UnknownVariable)
FindingLint s Leads (found.Apply w) x =
    ((Contains s.maps w.text → ⊥) × (x ≡ lint w.at kind.UnknownMap)) ⊎ (Leads w.text × (x ≡ lint w.at kind.MapCycle))
FindingLint s Leads (found.Root at) x = RootLint s.how at x
FindingLint s Leads (found.Pattern w) x = ⊥

abbrev pub QueryLint : Scope → (List ℕ → Type 0) → Query → MapLint → Type 0
QueryLint s Leads q x = OneOf (λ f. FindingLint s Leads f x) (findings q)

-- ---- lints of bodies

-- where the statements behind one stand, which may set a variable
abbrev pub behind : Scope → List (List ℕ) → Scope
behind s names = record s { variables = s.variables ++ names }

abbrev pub map_sets : MapStmt → List (List ℕ)
map_sets (ms.Root at path q) = []
map_sets (ms.Let name q) = name ∷ []

abbrev pub MapStmtLint : Scope → (List ℕ → Type 0) → MapStmt → MapLint → Type 0
MapStmtLint s Leads (ms.Root at path q) x = RootLint s.how at x ⊎ QueryLint s Leads q x
MapStmtLint s Leads (ms.Let name q) x = QueryLint s Leads q x

-- lints of the statements of a map's body
abbrev pub BodyLint : Scope → (List ℕ → Type 0) → List MapStmt → MapLint → Type 0
BodyLint s Leads [] x = ⊥
BodyLint s Leads (y ∷ ys) x = MapStmtLint s Leads y x ⊎ BodyLint (behind s (map_sets y)) Leads ys x

abbrev pub sets : Stmt → List (List ℕ)
sets (st.Let line name q) = name ∷ []
sets _ = []

abbrev pub stmt_maps : Stmt → List (List ℕ)
stmt_maps (st.Map at name body) = name ∷ []
stmt_maps _ = []

-- the names of a mapping's maps
abbrev pub map_names : List Stmt → List (List ℕ)
map_names ss = flat_map stmt_maps ss

-- Lints of a statement, behind maps with these names. A map's body has variables of its own.
abbrev pub StmtLint : Scope → List (List ℕ) → List Application → Stmt → MapLint → Type 0
StmtLint s earlier links (st.Root at line path q) x = RootLint s.how at x ⊎ QueryLint s (λ n. ⊥) q x
StmtLint s earlier links (st.Meta line key q) x = QueryLint s (λ n. ⊥) q x
StmtLint s earlier links (st.Let line name q) x = QueryLint s (λ n. ⊥) q x
StmtLint s earlier links (st.Map at name body) x =
    (Contains earlier name × (x ≡ lint at kind.DuplicateMap)) ⊎ BodyLint (record s { variables = [] }) (λ n. Reaches links n name) body x

abbrev pub StmtsLint : Scope → List (List ℕ) → List Application → List Stmt → MapLint → Type 0
StmtsLint s earlier links [] x = ⊥
StmtsLint s earlier links (y ∷ ys) x = StmtLint s earlier links y x ⊎ StmtsLint (behind s (sets y)) (earlier ++ stmt_maps y) links ys x

-- what is a lint of a mapping that is used so
abbrev pub IsLint : Mapping → Use → MapLint → Type 0
IsLint (m.Query line q) how x = QueryLint (scope how [] []) (λ n. ⊥) q x
IsLint (m.Statements ss) how x =
    StmtsLint (scope how (map_names ss) []) [] (applications ss) ss x

-- What a mapping without a lint has in the bodies of its maps, and which map applies which.
use Rattle.std.proofs.Common.{◌≡◌, ℕ, List, [], ◌∷◌, ◌++◌, Bool, true, false, Option, Some, None, ◌⊎◌, inl, inr, if◌then◌else◌, refl, sym, subst}
use Rattle.std.specs.List.{Contains}
use Rattle.std.specs.Str.{bytes_eq}
use Rattle.std.proofs.lemmas.List.Elements.{Contains-append_cases}
use Rattle.bt_tree.specs.declared.tree.Word.{Word}
use Rattle.bt_tree.specs.declared.tree.MapStmt.{MapStmt}
use Rattle.bt_tree.specs.declared.tree.MapStmt.TheVariants as ms
use Rattle.bt_tree.specs.declared.tree.Mapping.{Mapping}
use Rattle.bt_tree.specs.declared.tree.Mapping.TheVariants as m
use Rattle.bt_tree.specs.declared.tree.Stmt.{Stmt}
use Rattle.bt_tree.specs.declared.tree.Stmt.TheVariants as st
use Rattle.bt_findings.specs.Found.{findings}
use Rattle.bt_findings.specs.declared.finding.Finding.{Finding}
use Rattle.bt_findings.specs.declared.finding.Finding.TheVariants as found
use Rattle.bt_lints.specs.Lints.{BodyLint, FindingLint, MapStmtLint, Reaches, Scope, StmtsLint, applications, applied_by, behind, body_findings, lint, map_names, map_sets, map_stmt_findings, scope, sets, stmt_applications, stmt_maps}
use Rattle.bt_lints.specs.declared.lint.MapLint.{MapLint}
use Rattle.bt_lints.specs.declared.lint.MapLintKind.TheVariants as kind
use Rattle.bt_lints.specs.declared.lint.Use.{Use}
use Rattle.bt_lints.specs.declared.reach.Application.{Application}
use Rattle.bt_lints.proofs.Members.{bytes_equal, contains_cases, contains_head, contains_none, contains_tail}
use Rattle.bt_meaning.specs.Maps.{map_of}
use Rattle.bt_meaning.specs.Mapped.{maps_of}
use Rattle.bt_map_laws.specs.Nests.{HasNo}
use Rattle.bt_map_laws.proofs.Members.{from_flat, in_flat, one_of}

abbrev pub link : List ℕ → List ℕ → Application
link a b = record { by = a; map = b }

-- ---- lints of what is found in a body

stmt_lint : (s : Scope) (L : List ℕ → Type 0) (y : MapStmt) (x : MapLint) (f : Finding) → FindingLint s L f x → Contains (map_stmt_findings y) f → MapStmtLint s L y x
stmt_lint s L (ms.Root at path q) x f is h = inr (one_of (λ a. FindingLint s L a x) (findings q) f h is)
stmt_lint s L (ms.Let name q) x f is h = one_of (λ a. FindingLint s L a x) (findings q) f h is

body_lint : (s : Scope) (L : List ℕ → Type 0) (ys : List MapStmt) (x : MapLint) (f : Finding) → ((t : Scope) → FindingLint t L f x) → Contains (body_findings ys) f → BodyLint s L ys x
body_lint s L [] x f is h = contains_none f h
body_lint s L (y ∷ ys) x f is h =
    elim (Contains-append_cases (map_stmt_findings y) (body_findings ys) f h) as (λ _. MapStmtLint s L y x ⊎ BodyLint (behind s (map_sets y)) L ys x) [
      | inl k ↦ inl (stmt_lint s L y x f (is s) k)
      | inr k ↦ inr (body_lint (behind s (map_sets y)) L ys x f is k)
    ]

head_lint : (s : Scope) (earlier : List (List ℕ)) (links : List Application) (y : Stmt) (ys : List Stmt) (at : ℕ) (n : List ℕ) (body : List MapStmt) (x : MapLint) →
    ((t : Scope) → BodyLint t (λ k. Reaches links k n) body x) → st.Map at n body ≡ y → StmtsLint s earlier links (y ∷ ys) x
head_lint s earlier links y ys at n body x is e =
    subst (λ (z : Stmt). StmtsLint s earlier links (z ∷ ys) x) e (inl (inr (is (record s { variables = [] }))))

stmts_lint : (s : Scope) (earlier : List (List ℕ)) (links : List Application) (ss : List Stmt) (at : ℕ) (n : List ℕ) (body : List MapStmt) (x : MapLint) →
    ((t : Scope) → BodyLint t (λ k. Reaches links k n) body x) → Contains ss (st.Map at n body) → StmtsLint s earlier links ss x
stmts_lint s earlier links [] at n body x is h = contains_none (st.Map at n body) h
stmts_lint s earlier links (y ∷ ys) at n body x is h =
    elim (contains_cases y (st.Map at n body) ys h) as (λ _. StmtsLint s earlier links (y ∷ ys) x) [
      | inl e ↦ head_lint s earlier links y ys at n body x is (sym e)
      | inr k ↦ inr (stmts_lint (behind s (sets y)) (earlier ++ stmt_maps y) links ys at n body x is k)
    ]

-- no call in the body of a map has other arguments than it takes
pub right_arguments : (p : Mapping) (how : Use) → HasNo kind.WrongArguments p how → (at : ℕ) (n : List ℕ) (body : List MapStmt) → Contains (maps_of p) (st.Map at n body) →
    (i : ℕ) → Contains (body_findings body) (found.WrongArguments i) → ⊥
right_arguments (m.Query line q) how never at n body h i k = contains_none (st.Map at n body) h
right_arguments (m.Statements ss) how never at n body h i k =
    never i (stmts_lint (scope how (map_names ss) []) [] (applications ss) ss at n body (lint i kind.WrongArguments)
    (λ t. body_lint t (λ b. Reaches (applications ss) b n) body (lint i kind.WrongArguments) (found.WrongArguments i) (λ u. refl) k) h)

-- ---- applications

abbrev Applied : List Finding → List ℕ → Application → Type 0
Applied fs n l = (w : Word) × Contains fs (found.Apply w) × (l ≡ link n w.text)

later : (x : Finding) (fs : List Finding) (n : List ℕ) (l : Application) → Applied fs n l → Applied (x ∷ fs) n l
later x fs n l a = (a.0, contains_tail x (found.Apply a.0) fs a.1, a.2)

applied_in : (n : List ℕ) (fs : List Finding) (l : Application) → Contains (applied_by n fs) l → Applied fs n l
applied_in n [] l h = contains_none l h
applied_in n (found.Apply w ∷ fs) l h =
    elim (contains_cases (link n w.text) l (applied_by n fs) h) as (λ _. Applied (found.Apply w ∷ fs) n l) [
      | inl e ↦ (w, contains_head (found.Apply w) fs, sym e)
      | inr k ↦ later (found.Apply w) fs n l (applied_in n fs l k)
    ]
applied_in n (x ∷ fs) l h = later x fs n l (applied_in n fs l h)

same_word : (v w : Word) → found.Apply v ≡ found.Apply w → v ≡ w
same_word v w e = cc

pub applied_there : (n : List ℕ) (fs : List Finding) (w : Word) → Contains fs (found.Apply w) → Contains (applied_by n fs) (link n w.text)
applied_there n [] w h = contains_none (found.Apply w) h
applied_there n (found.Apply v ∷ fs) w h =
    elim (contains_cases (found.Apply v) (found.Apply w) fs h) as (λ _. Contains (link n v.text ∷ applied_by n fs) (link n w.text)) [
      | inl e ↦ subst (λ (u : Word). Contains (link n v.text ∷ applied_by n fs) (link n u.text)) (same_word v w e) (contains_head (link n v.text) (applied_by n fs))
      | inr k ↦ contains_tail (link n v.text) (link n w.text) (applied_by n fs) (applied_there n fs w k)
    ]
applied_there n (x ∷ fs) w h =
    elim (contains_cases x (found.Apply w) fs h) as (λ _. Contains (applied_by n fs) (link n w.text)) [
      | inl e ↦ absurd (cc)
      | inr k ↦ applied_there n fs w k
    ]

-- the map in whose body an application stands
abbrev AppliedIn : List Stmt → Application → Type 0
AppliedIn ss l = (at : ℕ) × (n : List ℕ) × (body : List MapStmt) × Contains ss (st.Map at n body) × Applied (body_findings body) n l

by_stmt : (ss : List Stmt) (y : Stmt) (l : Application) → Contains ss y → Contains (stmt_applications y) l → AppliedIn ss l
by_stmt ss (st.Map at n body) l h k = (at, n, body, h, applied_in n (body_findings body) l k)
by_stmt ss _ l h k = contains_none l k

applied_from : (ss : List Stmt) (l : Application) → Contains (applications ss) l → AppliedIn ss l
applied_from ss l h = let r = from_flat stmt_applications ss l h in by_stmt ss r.0 l r.1 r.2

-- no map reaches one that applies it
abbrev pub IsAcyclic : List Stmt → Type 0
IsAcyclic ss = (a b : List ℕ) → Contains (applications ss) (link a b) → Reaches (applications ss) b a → ⊥

pub acyclic : (p : Mapping) (how : Use) → HasNo kind.MapCycle p how → IsAcyclic (maps_of p)
acyclic (m.Query line q) how never a b one back = contains_none (link a b) one
acyclic (m.Statements ss) how never a b one back =
    let r = applied_from ss (link a b) one in
    let w : Word = r.4.0 in
    let same : link a b ≡ link r.1 w.text = r.4.2 in
    let leads : Reaches (applications ss) w.text r.1 =
    subst (λ (k : Application). Reaches (applications ss) k.map k.by) same back in
    never w.at (stmts_lint (scope how (map_names ss) []) [] (applications ss) ss r.0 r.1 r.2 (lint w.at kind.MapCycle)
    (λ t. body_lint t (λ k. Reaches (applications ss) k r.1) r.2 (lint w.at kind.MapCycle) (found.Apply w) (λ u. inr (leads, refl)) r.4.1) r.3)

-- ---- the map of a name

abbrev Stands : List Stmt → List ℕ → List MapStmt → Type 0
Stands ss n body = (at : ℕ) × Contains ss (st.Map at n body)

behind_one : (y : Stmt) (ss : List Stmt) (n : List ℕ) (body : List MapStmt) → Stands ss n body → Stands (y ∷ ss) n body
behind_one y ss n body h = (h.0, contains_tail y (st.Map h.0 n body) ss h.1)

first_or : (b : Bool) (at : ℕ) (n w : List ℕ) (xs body : List MapStmt) (ss : List Stmt) → (b ≡ true → n ≡ w) → (map_of n ss ≡ Some body → Stands ss n body) →
    (if b then Some xs else map_of n ss) ≡ Some body → Stands (st.Map at w xs ∷ ss) n body
first_or true at n w xs body ss is go e =
    let same : xs ≡ body = cc in
    let name : w ≡ n = sym (is refl) in (
      at,
      subst (λ (k : List ℕ). Contains (st.Map at w xs ∷ ss) (st.Map at k body)) name
          (subst (λ (k : List MapStmt). Contains (st.Map at w xs ∷ ss) (st.Map at w k)) same (contains_head (st.Map at w xs) ss)),
    )
first_or false at n w xs body ss is go e = behind_one (st.Map at w xs) ss n body (go e)

none_some : (body : List MapStmt) → ◌≡◌ {A = Option (List MapStmt)} None (Some body) → ⊥
none_some body e = cc

pub map_stands : (n : List ℕ) (ss : List Stmt) (body : List MapStmt) → map_of n ss ≡ Some body → Stands ss n body
map_stands n [] body e = absurd (none_some body e)
map_stands n (st.Map at w xs ∷ ss) body e = first_or (bytes_eq n w) at n w xs body ss (bytes_equal n w) (map_stands n ss body) e
map_stands n (y ∷ ss) body e = behind_one y ss n body (map_stands n ss body e)

pub named : (ss : List Stmt) (at : ℕ) (n : List ℕ) (body : List MapStmt) → Contains ss (st.Map at n body) → Contains (map_names ss) n
named ss at n body h = in_flat stmt_maps ss (st.Map at n body) n h (contains_head n [])

pub linked : (ss : List Stmt) (at : ℕ) (n : List ℕ) (body : List MapStmt) (w : Word) → Contains ss (st.Map at n body) → Contains (body_findings body) (found.Apply w) →
    Contains (applications ss) (link n w.text)
linked ss at n body w h k = in_flat stmt_applications ss (st.Map at n body) (link n w.text) h (applied_there n (body_findings body) w k)

-- only a map applies
pub applier_named : (ss : List Stmt) (l : Application) → Contains (applications ss) l → Contains (map_names ss) l.by
applier_named ss l h =
    let r = applied_from ss l h in
    subst (λ (k : Application). Contains (map_names ss) k.by) (sym r.4.2) (named ss r.0 r.1 r.2 r.3)

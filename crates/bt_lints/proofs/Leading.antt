-- Lints where two sets of leading maps agree, and a step of the search through statements.
use Rattle.std.proofs.Common.{◌≡◌, ℕ, ◌+◌, ◌<◌, ◌≤◌, List, [], ◌∷◌, ◌++◌, length, get_or, drop, ◌↔◌, inl, inr, sym, subst}
use Rattle.std.specs.List.{Contains}
use Rattle.std.proofs.lemmas.List.{drop_all}
use Rattle.bt_findings.specs.Found.{findings}
use Rattle.bt_findings.specs.declared.finding.Finding.{Finding}
use Rattle.bt_findings.specs.declared.finding.Finding.TheVariants as found
use Rattle.bt_tree.specs.declared.tree.Query.{Query}
use Rattle.bt_tree.specs.declared.tree.Stmt.{Stmt}
use Rattle.bt_tree.specs.declared.tree.MapStmt.{MapStmt}
use Rattle.bt_tree.specs.declared.tree.MapStmt.TheVariants as ms
use Rattle.bt_lints.specs.Adding.{Adds}
use Rattle.bt_lints.specs.Lints.{OneOf, Scope, scope, behind, map_sets, sets, stmt_maps, FindingLint, QueryLint, MapStmtLint, BodyLint, StmtLint, StmtsLint}
use Rattle.bt_lints.specs.declared.lint.MapLint.{MapLint}
use Rattle.bt_lints.specs.declared.reach.Application.{Application}
use Rattle.bt_lints.proofs.Addings.{adds_none, adds_same, adds_both}
use Rattle.bt_lints.proofs.Members.{contains_none, left_at}

one_of_more : {A : Type 0} (P Q : A → Type 0) → ((a : A) → P a → Q a) → (xs : List A) → OneOf P xs → OneOf Q xs
one_of_more P Q to [] h = h
one_of_more P Q to (x ∷ xs) (inl p) = inl (to x p)
one_of_more P Q to (x ∷ xs) (inr h) = inr (one_of_more P Q to xs h)

finding_leads : (s : Scope) (L M : List ℕ → Type 0) → ((n : List ℕ) → L n → M n) → (x : MapLint) (f : Finding) → FindingLint s L f x → FindingLint s M f x
finding_leads s L M to x (found.Root at) h = h
finding_leads s L M to x (found.Variable w) h = h
finding_leads s L M to x (found.UnknownFunction at) h = h
finding_leads s L M to x (found.UnknownMethod at) h = h
finding_leads s L M to x (found.WrongArguments at) h = h
finding_leads s L M to x (found.Apply w) (inl p) = inl p
finding_leads s L M to x (found.Apply w) (inr p) = inr (to w.text p.0, p.1)
finding_leads s L M to x (found.Pattern w) h = h

query_leads : (s : Scope) (L M : List ℕ → Type 0) → ((n : List ℕ) → L n → M n) → (q : Query) (x : MapLint) → QueryLint s L q x → QueryLint s M q x
query_leads s L M to q x = one_of_more (λ f. FindingLint s L f x) (λ f. FindingLint s M f x) (finding_leads s L M to x) (findings q)

map_stmt_leads : (s : Scope) (L M : List ℕ → Type 0) → ((n : List ℕ) → L n → M n) → (y : MapStmt) (x : MapLint) → MapStmtLint s L y x → MapStmtLint s M y x
map_stmt_leads s L M to (ms.Root at path q) x (inl r) = inl r
map_stmt_leads s L M to (ms.Root at path q) x (inr h) = inr (query_leads s L M to q x h)
map_stmt_leads s L M to (ms.Let name q) x h = query_leads s L M to q x h

body_leads : (s : Scope) (L M : List ℕ → Type 0) → ((n : List ℕ) → L n → M n) → (ys : List MapStmt) (x : MapLint) → BodyLint s L ys x → BodyLint s M ys x
body_leads s L M to [] x h = h
body_leads s L M to (y ∷ ys) x (inl h) = inl (map_stmt_leads s L M to y x h)
body_leads s L M to (y ∷ ys) x (inr h) = inr (body_leads (behind s (map_sets y)) L M to ys x h)

-- outside of maps none lead
pub query_outside : (s : Scope) (names : List (List ℕ)) (q : Query) (u v : List MapLint) → names ≡ [] →
    Adds (QueryLint s (Contains names) q) u v → Adds (QueryLint s (λ n. ⊥) q) u v
query_outside s names q u v none =
    adds_same (QueryLint s (Contains names) q) (QueryLint s (λ n. ⊥) q) u v
    (λ x. (query_leads s (Contains names) (λ n. ⊥) (λ n h. contains_none n (rw none at h)) q x, query_leads s (λ n. ⊥) (Contains names) (λ n h. absurd h) q x))

pub body_inside : (s : Scope) (names : List (List ℕ)) (L : List ℕ → Type 0) (ys : List MapStmt) (u v : List MapLint) → ((n : List ℕ) → Contains names n ↔ L n) →
    Adds (BodyLint s (Contains names) ys) u v → Adds (BodyLint s L ys) u v
body_inside s names L ys u v tells =
    adds_same (BodyLint s (Contains names) ys) (BodyLint s L ys) u v
    (λ x. (body_leads s (Contains names) L (λ n. (tells n).0) ys x, body_leads s L (Contains names) (λ n. (tells n).1) ys x))

-- one more statement, and then the others
pub stmts_next : (s : Scope) (earlier : List (List ℕ)) (links : List Application) (ys : List Stmt) (i : ℕ) (y : Stmt) (names maps : List (List ℕ)) (u v w : List MapLint) →
    i < length ys → y ≡ get_or ys i y → names ≡ s.variables ++ sets y → maps ≡ earlier ++ stmt_maps y →
    Adds (StmtLint s earlier links y) u v → Adds (StmtsLint (scope s.how s.maps names) maps links (drop (i + 1) ys)) v w →
    Adds (StmtsLint s earlier links (drop i ys)) u w
stmts_next s earlier links ys i y names maps u v w lt is set map a b =
    subst (λ (zs : List Stmt). Adds (StmtsLint s earlier links zs) u w) (sym (left_at ys i y lt is))
    (adds_both (StmtLint s earlier links y) _ u v w a
    (subst (λ (n : List (List ℕ)). Adds (StmtsLint (scope s.how s.maps n) (earlier ++ stmt_maps y) links (drop (i + 1) ys)) v w) set
    (subst (λ (n : List (List ℕ)). Adds (StmtsLint (scope s.how s.maps names) n links (drop (i + 1) ys)) v w) map b)))

pub stmts_end : (s : Scope) (earlier : List (List ℕ)) (links : List Application) (ys : List Stmt) (i : ℕ) (u : List MapLint) → length ys ≤ i →
    Adds (StmtsLint s earlier links (drop i ys)) u u
stmts_end s earlier links ys i u past =
    subst (λ (zs : List Stmt). Adds (StmtsLint s earlier links zs) u u) (sym (drop_all i ys past)) (adds_none (StmtsLint s earlier links []) u (λ x h. h))

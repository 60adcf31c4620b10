-- The form of mapping that is run so far: `root = ` and then a path of names from `this`, or a literal.
use Rattle.std.specs.Prelude.{◌≡◌, ℕ, pos, Bool, true, false, ◌&&◌, List, [], ◌∷◌, ◌++◌, map, codes, drop, slice_range}
use Rattle.std.specs.List.{list_all}
use Rattle.bt_lexer.specs.Bytes.{quote, is_blank}
use Rattle.bt_lexer.specs.Lines.{HasTokens}
use Rattle.bt_lexer.specs.Places.{line_of}
use Rattle.bt_lexer.specs.Strings.{is_plain}
use Rattle.bt_lexer.specs.Tokens.{int_value}
use Rattle.bt_lexer.specs.declared.token.Kind.TheVariants as kinds
use Rattle.bt_lexer.specs.declared.token.Token.{Token}
use Rattle.bt_tree.specs.declared.tree.Mapping.{Mapping}
use Rattle.bt_tree.specs.declared.tree.Mapping.TheVariants as mappings
use Rattle.bt_tree.specs.declared.tree.Query.{Query, out-Query}
use Rattle.bt_tree.specs.declared.tree.Query.TheOpen.{Query-F}
use Rattle.bt_tree.specs.declared.tree.Query.TheVariants as queries
use Rattle.bt_tree.specs.declared.tree.Stmt.TheVariants as stmts
use Rattle.bt_tree.specs.declared.tree.Suffix.{Suffix}
use Rattle.bt_tree.specs.declared.tree.Suffix.TheVariants as suffixes

-- the bytes of a token
abbrev pub bytes_of : List ℕ → Token → List ℕ
bytes_of s t = slice_range s t.from t.to

-- the token is this name
pub record IsName (s : List ℕ) (t : Token) (name : List ℕ) : Type 0 where
  pub kind : t.kind ≡ kinds.Name
  pub bytes : bytes_of s t ≡ name

-- the tokens are `.` and a name, any number of times, and the names are these
pub data AreSteps : List ℕ → List Token → List (List ℕ) → Type 0 where
  none : {s : List ℕ} → AreSteps s [] []
  step : {s : List ℕ} {ts : List Token} {names : List (List ℕ)} (dot name : Token) → dot.kind ≡ kinds.Dot → name.kind ≡ kinds.Name →
      AreSteps s ts names → AreSteps s (dot ∷ name ∷ ts) (bytes_of s name ∷ names)

-- the query of a path of names from `this`
abbrev pub path : List (List ℕ) → Query
path [] = queries.This
path (name ∷ names) = queries.Item queries.This (map suffixes.Name (name ∷ names))

-- The tokens are a path of names from `this` or a literal, and the query is this. A text has one quotation mark at each end,
-- and neither `"` nor `\` nor a line feed between them.
pub data ReadsQuery : List ℕ → List Token → Query → Type 0 where
  null : {s : List ℕ} (t : Token) → IsName s t (codes "null") → ReadsQuery s (t ∷ []) queries.Null
  holds : {s : List ℕ} (t : Token) → IsName s t (codes "true") → ReadsQuery s (t ∷ []) queries.True
  fails : {s : List ℕ} (t : Token) → IsName s t (codes "false") → ReadsQuery s (t ∷ []) queries.False
  int : {s : List ℕ} (t : Token) → t.kind ≡ kinds.Int → ReadsQuery s (t ∷ []) (queries.Int (pos (int_value (bytes_of s t))))
  text : {s : List ℕ} (t : Token) (v : List ℕ) → t.kind ≡ kinds.Text → bytes_of s t ≡ quote ∷ (v ++ quote ∷ []) → list_all is_plain v ≡ true →
      ReadsQuery s (t ∷ []) (queries.Quoted (record { at = t.from; text = v }))
  this : {s : List ℕ} {ts : List Token} {names : List (List ℕ)} (t : Token) → IsName s t (codes "this") → AreSteps s ts names →
      ReadsQuery s (t ∷ ts) (path names)

-- whether nothing but spaces, tabs and carriage returns stand between the tokens from a place on, before the first and after the last
abbrev pub has_only_blanks : List ℕ → ℕ → List Token → Bool
has_only_blanks s at [] = list_all is_blank (drop at s)
has_only_blanks s at (t ∷ ts) = list_all is_blank (slice_range s at t.from) && has_only_blanks s t.to ts

-- `root = q`, by the place of `root`, its line and q
abbrev pub assignment : ℕ → ℕ → Query → Mapping
assignment at line q = mappings.Statements (stmts.Root at line [] q ∷ [])

-- The text is of the form, and is this mapping.
pub record BuiltReading (s : List ℕ) (m : Mapping) : Type 0 where
  pub root : Token
  pub assign : Token
  pub value : List Token
  pub query : Query
  pub tokens : HasTokens s (root ∷ assign ∷ value)
  pub blanks : has_only_blanks s 0 (root ∷ assign ∷ value) ≡ true
  pub root_is : IsName s root (codes "root")
  pub assign_is : assign.kind ≡ kinds.Assign
  pub reads : ReadsQuery s value query
  pub gives : m ≡ assignment root.from (line_of s root.from) query

-- whether each suffix is a name
abbrev pub are_names : List (Suffix Query) → Bool
are_names [] = true
are_names (suffixes.Name name ∷ xs) = are_names xs
are_names (_ ∷ xs) = false

abbrev pub is_this : Query-F Query → Bool
is_this Query-F.This = true
is_this _ = false

-- whether a query is a literal or a path of names from `this`
abbrev pub is_built : Query-F Query → Bool
is_built Query-F.Null = true
is_built Query-F.True = true
is_built Query-F.False = true
is_built (Query-F.Int n) = true
is_built (Query-F.Quoted w) = true
is_built Query-F.This = true
is_built (Query-F.Item q xs) = is_this (out-Query q) && are_names xs
is_built _ = false

abbrev pub is_built_query : Query → Bool
is_built_query q = is_built (out-Query q)

-- The mapping is of the form.
pub record IsBuilt (m : Mapping) : Type 0 where
  pub at : ℕ
  pub line : ℕ
  pub query : Query
  pub is : m ≡ assignment at line query
  pub built : is_built_query query ≡ true

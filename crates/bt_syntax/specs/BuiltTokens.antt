-- The form of mapping that is run so far, token by token: what the parts of its reader answer.
use Rattle.std.specs.Prelude.{ℕ, pos, ◌-◌, Bool, true, false, ◌&&◌, ◌==◌, nat_le, List, [], ◌∷◌, codes, length, Option, Some, None, option_map, if◌then◌else◌, slice_index, slice_range}
use Rattle.std.specs.List.{list_all}
use Rattle.std.specs.Str.{bytes_eq}
use Rattle.bt_lexer.specs.Bytes.{quote}
use Rattle.bt_lexer.specs.Lines.{is_name_kind}
use Rattle.bt_lexer.specs.Strings.{is_plain}
use Rattle.bt_lexer.specs.Tokens.{is_dot, int_value}
use Rattle.bt_lexer.specs.declared.token.Kind.{Kind}
use Rattle.bt_lexer.specs.declared.token.Kind.TheVariants as kinds
use Rattle.bt_lexer.specs.declared.token.Token.{Token}
use Rattle.bt_lexer.specs.Places.{line_of}
use Rattle.bt_syntax.specs.Built.{bytes_of, assignment, has_only_blanks}
use Rattle.bt_tree.specs.declared.tree.Mapping.{Mapping}
use Rattle.bt_tree.specs.declared.tree.Query.{Query}
use Rattle.bt_tree.specs.declared.tree.Query.TheVariants as queries
use Rattle.bt_tree.specs.declared.tree.Suffix.{Suffix}
use Rattle.bt_tree.specs.declared.tree.Suffix.TheVariants as suffixes

-- whether the token is this name
abbrev pub is_name : List ℕ → Token → List ℕ → Bool
is_name s t name = is_name_kind t.kind && bytes_eq (bytes_of s t) name

abbrev pub is_assign : Kind → Bool
is_assign kinds.Assign = true
is_assign _ = false

-- whether the tokens are `.` and a name
abbrev pub is_step : Token → Token → Bool
is_step dot name = is_dot dot.kind && is_name_kind name.kind

-- a step before those of the rest
abbrev pub one_more : List ℕ → Option (List (Suffix Query)) → Option (List (Suffix Query))
one_more name xs = option_map (λ xs. suffixes.Name name ∷ xs) xs

-- the steps that the tokens are
abbrev pub steps_of : List ℕ → List Token → Option (List (Suffix Query))
steps_of s [] = Some []
steps_of s (dot ∷ []) = None
steps_of s (dot ∷ name ∷ ts) = if is_step dot name then one_more (bytes_of s name) (steps_of s ts) else None

-- the steps from `this`
abbrev pub from_this : List (Suffix Query) → Query
from_this [] = queries.This
from_this (x ∷ xs) = queries.Item queries.This (x ∷ xs)

abbrev pub constant_of : List ℕ → Option Query
constant_of u =
    if bytes_eq u (codes "null") then Some queries.Null else if bytes_eq u (codes "true") then Some queries.True
    else if bytes_eq u (codes "false") then Some queries.False else None

-- the bytes but the first and the last
abbrev pub inner : List ℕ → List ℕ
inner u = slice_range u 1 (length u - 1)

-- whether a quotation mark stands at each end, and neither one nor a backslash nor a line feed between them
abbrev pub is_simple : List ℕ → Bool
is_simple u = nat_le 2 (length u) && slice_index u 0 == quote && slice_index u (length u - 1) == quote && list_all is_plain (inner u)

abbrev pub text_of : List ℕ → ℕ → Option Query
text_of u at = if is_simple u then Some (queries.Quoted (record { at = at; text = inner u })) else None

-- the literal that a token of this kind, at this place and with these bytes, is
abbrev pub literal_of : Kind → ℕ → List ℕ → Option Query
literal_of kinds.Name at u = constant_of u
literal_of kinds.Int at u = Some (queries.Int (pos (int_value u)))
literal_of kinds.Text at u = text_of u at
literal_of _ at u = None

-- the literal of a token that no other follows
abbrev pub alone : Option Query → List Token → Option Query
alone q [] = q
alone q (t ∷ ts) = None

abbrev pub query_of : List ℕ → List Token → Option Query
query_of s [] = None
query_of s (t ∷ ts) =
    if is_name s t (codes "this") then option_map from_this (steps_of s ts) else alone (literal_of t.kind t.from (bytes_of s t)) ts

-- the assignment that `root`, `=` and a value are
abbrev pub assignment_of : List ℕ → List Token → Option Mapping
assignment_of s (root ∷ mark ∷ value) =
    if is_name s root (codes "root") && is_assign mark.kind then option_map (assignment root.from (line_of s root.from)) (query_of s value) else None
assignment_of s _ = None

abbrev pub mapping_of : List ℕ → List Token → Option Mapping
mapping_of s ts = if has_only_blanks s 0 ts then assignment_of s ts else None

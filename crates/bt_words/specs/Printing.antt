-- The layout of a mapping: its tokens, and what stands between them. Statements stand on lines of their own, binary operators, `=`,
-- `=>` and `->` between spaces, and `match` and `if` on one line with a space inside and before their braces.
use Rattle.std.specs.Prelude.{ℕ, zero, suc, ℤ, pos, negsuc, ◌+◌, Bool, true, false, List, [], ◌∷◌, ◌++◌, map, codes, Option, Some, None}
use Rattle.std.specs.Int.Digits.{digits_of}
use Rattle.json.specs.Print.{quoted}
use Rattle.bt_lexer.specs.Bytes.{is_digit}
use Rattle.bt_lexer.specs.declared.token.Kind.{Kind}
use Rattle.bt_lexer.specs.declared.token.Kind.TheVariants as k
use Rattle.bt_value.specs.declared.names.Op.{Op}
use Rattle.bt_value.specs.declared.names.Op.TheVariants as o
use Rattle.bt_value.specs.declared.names.PrefixOp.{PrefixOp}
use Rattle.bt_value.specs.declared.names.PrefixOp.TheVariants as po
use Rattle.bt_syntax.specs.declared.keywords.Keyword.{Keyword}
use Rattle.bt_syntax.specs.declared.keywords.Keyword.TheVariants as w
use Rattle.bt_tree.specs.declared.tree.Key.{Key}
use Rattle.bt_tree.specs.declared.tree.Key.TheVariants as key
use Rattle.bt_tree.specs.declared.tree.Query.{Query, fold-Query}
use Rattle.bt_tree.specs.declared.tree.Query.TheOpen.{Query-F}
use Rattle.bt_tree.specs.declared.tree.Suffix.{Suffix}
use Rattle.bt_tree.specs.declared.tree.Suffix.TheVariants as s
use Rattle.bt_tree.specs.declared.tree.Arg.{Arg}
use Rattle.bt_tree.specs.declared.tree.Arg.TheVariants as a
use Rattle.bt_tree.specs.declared.tree.Member.{Member}
use Rattle.bt_tree.specs.declared.tree.Term.{Term}
use Rattle.bt_tree.specs.declared.tree.Case.{Case}
use Rattle.bt_tree.specs.declared.tree.Case.TheVariants as case
use Rattle.bt_tree.specs.declared.tree.Branch.{Branch}
use Rattle.bt_tree.specs.declared.tree.MapStmt.{MapStmt}
use Rattle.bt_tree.specs.declared.tree.MapStmt.TheVariants as ms
use Rattle.bt_tree.specs.declared.tree.Stmt.{Stmt}
use Rattle.bt_tree.specs.declared.tree.Stmt.TheVariants as st
use Rattle.bt_tree.specs.declared.tree.Mapping.{Mapping}
use Rattle.bt_tree.specs.declared.tree.Mapping.TheVariants as m
use Rattle.bt_syntax.specs.Lexemes.{Lexeme, Lexemes}

-- a space, a line feed that is no token, or a token without its place
pub data Piece : Type 0 where
  Space : Piece
  Line : Piece
  Token : Lexeme → Piece

abbrev pub Pieces : Type 0
Pieces = List Piece

-- the tokens among them
abbrev pub words_of : Pieces → Lexemes
words_of [] = []
words_of (Space ∷ p) = words_of p
words_of (Line ∷ p) = words_of p
words_of (Token t ∷ p) = t ∷ words_of p

-- a token's bytes: a variable has its `$`, and a text is written as a compact JSON text
abbrev pub bytes_in : Kind → List ℕ → List ℕ
bytes_in k.Var u = 36 ∷ u
bytes_in k.Text u = quoted u
bytes_in _ u = u

abbrev pub bytes_of : Lexeme → List ℕ
bytes_of t = bytes_in t.kind t.text

abbrev pub text_of : Pieces → List ℕ
text_of [] = []
text_of (Space ∷ p) = 32 ∷ text_of p
text_of (Line ∷ p) = 10 ∷ text_of p
text_of (Token t ∷ p) = bytes_of t ++ text_of p

-- ---- tokens

-- how a mark is spelled
abbrev pub spelling : Kind → List ℕ
spelling k.Nl = codes "\n"
spelling k.Plus = codes "+"
spelling k.Minus = codes "-"
spelling k.Star = codes "*"
spelling k.Slash = codes "/"
spelling k.Percent = codes "%"
spelling k.Equal = codes "=="
spelling k.NotEqual = codes "!="
spelling k.Less = codes "<"
spelling k.LessEqual = codes "<="
spelling k.Greater = codes ">"
spelling k.GreaterEqual = codes ">="
spelling k.And = codes "&&"
spelling k.Or = codes "||"
spelling k.Pipe = codes "|"
spelling k.Bang = codes "!"
spelling k.Assign = codes "="
spelling k.FatArrow = codes "=>"
spelling k.Arrow = codes "->"
spelling k.Dot = codes "."
spelling k.Comma = codes ","
spelling k.Colon = codes ":"
spelling k.LeftParen = codes "("
spelling k.RightParen = codes ")"
spelling k.LeftBracket = codes "["
spelling k.RightBracket = codes "]"
spelling k.LeftBrace = codes "{"
spelling k.RightBrace = codes "}"
spelling k.At = codes "@"
spelling _ = []

-- how a reserved name is spelled
abbrev pub reserved_spelling : Keyword → List ℕ
reserved_spelling w.This = codes "this"
reserved_spelling w.Root = codes "root"
reserved_spelling w.Match = codes "match"
reserved_spelling w.If = codes "if"
reserved_spelling w.Else = codes "else"
reserved_spelling w.True = codes "true"
reserved_spelling w.False = codes "false"
reserved_spelling w.Null = codes "null"
reserved_spelling w.Let = codes "let"
reserved_spelling w.Meta = codes "meta"
reserved_spelling w.Map = codes "map"
reserved_spelling w.Underscore = codes "_"

-- the decimal digits of a number
unfoldable pub digits : ℕ → List ℕ
digits zero = codes "0"
digits (suc n) = map (λ d. 48 + d) (digits_of 10 (suc n))

abbrev pub int_digits : ℤ → List ℕ
int_digits (pos n) = digits n
int_digits (negsuc n) = codes "0"

abbrev pub placeless : Kind → List ℕ → Lexeme
placeless kd u = record { kind = kd; text = u; at = 0; line = 0 }

abbrev pub mark_word : Kind → Lexeme
mark_word kd = placeless kd (spelling kd)

abbrev pub reserved_word : Keyword → Lexeme
reserved_word v = placeless k.Name (reserved_spelling v)

abbrev pub mark : Kind → Piece
mark kd = Token (mark_word kd)

abbrev pub keyword : Keyword → Piece
keyword v = Token (reserved_word v)

abbrev pub name : List ℕ → Piece
name u = Token (placeless k.Name u)

abbrev pub text : List ℕ → Piece
text u = Token (placeless k.Text u)

abbrev pub key_word : Key → Lexeme
key_word (key.Name u) = placeless k.Name u
key_word (key.Quoted u) = placeless k.Text u

abbrev pub kind_of_op : Op → Kind
kind_of_op o.Add = k.Plus
kind_of_op o.Sub = k.Minus
kind_of_op o.Mul = k.Star
kind_of_op o.Div = k.Slash
kind_of_op o.Rem = k.Percent
kind_of_op o.Equal = k.Equal
kind_of_op o.NotEqual = k.NotEqual
kind_of_op o.Less = k.Less
kind_of_op o.AtMost = k.LessEqual
kind_of_op o.More = k.Greater
kind_of_op o.AtLeast = k.GreaterEqual
kind_of_op o.And = k.And
kind_of_op o.Or = k.Or

abbrev pub kind_of_prefix : PrefixOp → Kind
kind_of_prefix po.Not = k.Bang
kind_of_prefix po.Minus = k.Minus

-- ---- parts one after another

abbrev pub all_of : List Pieces → Pieces
all_of [] = []
all_of (p ∷ ps) = p ++ all_of ps

-- each behind a separator
abbrev pub behind_each : Pieces → List Pieces → Pieces
behind_each separator [] = []
behind_each separator (p ∷ ps) = separator ++ (p ++ behind_each separator ps)

-- with a separator between them
abbrev pub between : Pieces → List Pieces → Pieces
between separator [] = []
between separator (p ∷ ps) = p ++ behind_each separator ps

abbrev pub comma : Pieces
comma = mark k.Comma ∷ Space ∷ []

abbrev pub bracketed : Kind → Kind → Pieces → Pieces
bracketed opening closing p = mark opening ∷ (p ++ mark closing ∷ [])

-- a mark between spaces
abbrev pub spaced : Kind → Pieces
spaced kd = Space ∷ mark kd ∷ Space ∷ []

-- ---- queries, by what is printed for their parts

abbrev pub arg : Arg Pieces → Pieces
arg (a.Query p) = p
arg (a.Lambda u p) = name u ∷ (spaced k.Arrow ++ p)

abbrev pub args : List (Arg Pieces) → Pieces
args xs = bracketed k.LeftParen k.RightParen (between comma (map arg xs))

abbrev pub member : Member Pieces → Pieces
member x = text x.key ∷ mark k.Colon ∷ Space ∷ x.query

abbrev pub suffix : Suffix Pieces → Pieces
suffix (s.Name u) = mark k.Dot ∷ name u ∷ []
suffix (s.Quoted u) = mark k.Dot ∷ text u ∷ []
suffix (s.Int n) = mark k.Dot ∷ Token (placeless k.Int (int_digits n)) ∷ []
suffix (s.Method v xs) = mark k.Dot ∷ name v.text ∷ args xs
suffix (s.Within x) = mark k.Dot ∷ bracketed k.LeftParen k.RightParen (arg x)

-- A space stands before the `.` between an Int and an Int. Of the heads an Int alone begins with a digit.
abbrev pub begins_with_digit : List ℕ → Bool
begins_with_digit [] = false
begins_with_digit (c ∷ u) = is_digit c

abbrev pub begins_with_int : List (Suffix Pieces) → Bool
begins_with_int (s.Int n ∷ xs) = true
begins_with_int _ = false

abbrev pub gap_between : Bool → Bool → Pieces
gap_between true true = Space ∷ []
gap_between _ _ = []

abbrev pub term : Term Pieces → Pieces
term x = spaced (kind_of_op x.op) ++ x.query

-- in the braces of `match` and `if`, and before them
abbrev pub block : Pieces → Pieces
block p = Space ∷ bracketed k.LeftBrace k.RightBrace (Space ∷ (p ++ Space ∷ []))

abbrev pub one_case : Case Pieces → Pieces
one_case (case.Any p) = keyword w.Underscore ∷ (spaced k.FatArrow ++ p)
one_case (case.When q p) = q ++ (spaced k.FatArrow ++ p)

abbrev pub subject : Option Pieces → Pieces
subject None = []
subject (Some p) = Space ∷ p

abbrev pub branch : Branch Pieces → Pieces
branch x = keyword w.If ∷ Space ∷ (x.test ++ block x.gives)

abbrev pub other_branches : List (Branch Pieces) → Pieces
other_branches [] = []
other_branches (x ∷ xs) = Space ∷ keyword w.Else ∷ Space ∷ (branch x ++ other_branches xs)

abbrev pub last_branch : Option Pieces → Pieces
last_branch None = []
last_branch (Some p) = Space ∷ keyword w.Else ∷ block p

abbrev pub branches : List (Branch Pieces) → Option Pieces → Pieces
branches [] last = last_branch last
branches (x ∷ xs) last = branch x ++ (other_branches xs ++ last_branch last)

abbrev pub query_step : Query-F Pieces → Pieces
query_step Query-F.Null = keyword w.Null ∷ []
query_step Query-F.True = keyword w.True ∷ []
query_step Query-F.False = keyword w.False ∷ []
query_step (Query-F.Int n) = Token (placeless k.Int (int_digits n)) ∷ []
query_step (Query-F.Quoted v) = text v.text ∷ []
query_step Query-F.This = keyword w.This ∷ []
query_step (Query-F.Root at) = keyword w.Root ∷ []
query_step (Query-F.Name v) = name v.text ∷ []
query_step (Query-F.Var v) = Token (placeless k.Var v.text) ∷ []
query_step Query-F.Metadata = mark k.At ∷ []
query_step (Query-F.Meta x) = mark k.At ∷ Token (key_word x) ∷ []
query_step (Query-F.Call v xs) = name v.text ∷ args xs
query_step (Query-F.Paren p) = bracketed k.LeftParen k.RightParen p
query_step (Query-F.List ps) = bracketed k.LeftBracket k.RightBracket (between comma ps)
query_step (Query-F.Object xs) = bracketed k.LeftBrace k.RightBrace (between comma (map member xs))
query_step (Query-F.Item p xs) = p ++ (gap_between (begins_with_digit (text_of p)) (begins_with_int xs) ++ all_of (map suffix xs))
query_step (Query-F.Prefix op p) = mark (kind_of_prefix op) ∷ p
query_step (Query-F.Product p xs) = p ++ all_of (map term xs)
query_step (Query-F.Sum p xs) = p ++ all_of (map term xs)
query_step (Query-F.Compare p op q) = p ++ (spaced (kind_of_op op) ++ q)
query_step (Query-F.And p ps) = p ++ behind_each (spaced k.And) ps
query_step (Query-F.Or p ps) = p ++ behind_each (spaced k.Or) ps
query_step (Query-F.Coalesce p ps) = p ++ behind_each (spaced k.Pipe) ps
query_step (Query-F.Match q xs) = keyword w.Match ∷ (subject q ++ block (between comma (map one_case xs)))
query_step (Query-F.If xs last) = branches xs last

abbrev pub query : Query → Pieces
query = fold-Query Pieces query_step

-- ---- statements and mappings

abbrev pub keys : List Key → Pieces
keys [] = []
keys (x ∷ xs) = mark k.Dot ∷ Token (key_word x) ∷ keys xs

abbrev pub assigned : Query → Pieces
assigned q = spaced k.Assign ++ query q

abbrev pub map_stmt : MapStmt → Pieces
map_stmt (ms.Root at xs q) = keyword w.Root ∷ (keys xs ++ assigned q)
map_stmt (ms.Let u q) = keyword w.Let ∷ Space ∷ name u ∷ assigned q

abbrev pub optional_key : Option Key → Pieces
optional_key None = []
optional_key (Some x) = Space ∷ Token (key_word x) ∷ []

-- `map NAME {`, its statements on lines indented by two spaces, `}`
abbrev pub body : List Pieces → Pieces
body ps = Space ∷ bracketed k.LeftBrace k.RightBrace (Line ∷ Space ∷ Space ∷ (between (mark k.Nl ∷ Space ∷ Space ∷ []) ps ++ Line ∷ []))

abbrev pub stmt : Stmt → Pieces
stmt (st.Root at line xs q) = keyword w.Root ∷ (keys xs ++ assigned q)
stmt (st.Meta line x q) = keyword w.Meta ∷ (optional_key x ++ assigned q)
stmt (st.Let line u q) = keyword w.Let ∷ Space ∷ name u ∷ assigned q
stmt (st.Map at u xs) = keyword w.Map ∷ Space ∷ name u ∷ body (map map_stmt xs)

abbrev pub mapping : Mapping → Pieces
mapping (m.Query line q) = query q
mapping (m.Statements xs) = between (mark k.Nl ∷ []) (map stmt xs)

-- the words that are printed for a mapping
abbrev pub words : Mapping → Lexemes
words x = words_of (mapping x)

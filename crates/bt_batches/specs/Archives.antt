-- Messages put into one, and one taken apart: `archive` and `unarchive`.
use Rattle.std.specs.Prelude.{ℕ, List, [], ◌∷◌, ◌++◌, codes, map, Bool, true, Result, Ok, Err, nat_lt, ◌==◌, if◌then◌else◌, None}
use Rattle.std.specs.List.{slice_split, join_with_byte}
use Rattle.std.specs.Ordering.{nat_cmp}
use Rattle.std.specs.Set.{sorted_merge}
use Rattle.bt_value.specs.Depth.{depth}
use Rattle.bt_value.specs.Plain.{has_bytes, some}
use Rattle.bt_value.specs.Reading.{text}
use Rattle.bt_value.specs.declared.val.Val.{Val, out-Val}
use Rattle.bt_value.specs.declared.val.Val.TheOpen.{Val-F}
use Rattle.bt_value.specs.declared.val.Val.TheVariants as v
use Rattle.bt_meaning.specs.Contents.{document}
use Rattle.bt_meaning.specs.declared.content.ContentFault.{ContentFault}
use Rattle.bt_meaning.specs.declared.content.ContentFault.TheVariants.{NotJson, OutOfProfile}
use Rattle.bt_batches.specs.declared.piece.Piece.{Piece}
use Rattle.bt_batches.specs.Pieces.{flagged_piece}

-- why a content is no document, as a processor says it
abbrev pub unread : List ℕ → ContentFault → List ℕ
unread name NotJson = name ++ codes ": not JSON"
unread name OutOfProfile = name ++ codes ": number out of profile"

-- archive -------------------------------------------------------------------

-- the union of the origins
abbrev pub origins : List ℕ → List Piece → List ℕ
origins from [] = from
origins from (p ∷ ps) = origins (sorted_merge nat_cmp true from p.from) ps

-- one message in the place of all, with the first one's metadata and no flag
abbrev pub archived : List ℕ → List Piece → List Piece
archived content [] = []
archived content (p ∷ ps) = record { msg = record { content = content; meta = p.msg.meta; flag = None }; from = origins p.from ps } ∷ []

-- a document that may be an element, since with it the array nests to 127 at most
abbrev pub element : Val → Result Val (List ℕ)
element x = if nat_lt 126 (depth x) then Err (codes "archive: too deep") else Ok x

abbrev pub element_of : Result Val ContentFault → Result Val (List ℕ)
element_of (Ok x) = element x
element_of (Err e) = Err (unread (codes "archive") e)

abbrev pub one_more : Result Val (List ℕ) → Result (List Val) (List ℕ) → Result (List Val) (List ℕ)
one_more (Err t) rest = Err t
one_more (Ok x) (Ok xs) = Ok (x ∷ xs)
one_more (Ok x) (Err t) = Err t

-- the documents, or what is wrong with the first that can't be an element
abbrev pub documents : List Piece → Result (List Val) (List ℕ)
documents [] = Ok []
documents (p ∷ ps) = one_more (element_of (document p.msg.content)) (documents ps)

-- whether bytes stand in one of them
abbrev pub have_bytes : List Val → Bool
have_bytes xs = some (map has_bytes xs)

-- documents behind others, where there are such
abbrev pub behind : List Val → Result (List Val) (List ℕ) → Result (List Val) (List ℕ)
behind xs (Ok ys) = Ok (xs ++ ys)
behind xs (Err t) = Err t

abbrev pub contents : List Piece → List (List ℕ)
contents ps = map (λ p. p.msg.content) ps

-- `archive` with `lines`: the contents with a line feed between each two
abbrev pub archive_lines : List Piece → List Piece
archive_lines ps = archived (join_with_byte 10 (contents ps)) ps

abbrev pub as_array : Result (List Val) (List ℕ) → List Piece → List Piece
as_array (Ok xs) ps = archived (text (v.Arr xs)) ps
as_array (Err t) ps = map (flagged_piece t) ps

-- `archive` with `json_array`: the list of the documents; where one can't be an element, all messages stay and are flagged
abbrev pub archive_json : List Piece → List Piece
archive_json ps = as_array (documents ps) ps

-- unarchive -----------------------------------------------------------------

-- the same message with each of the contents
abbrev pub with_contents : Piece → List (List ℕ) → List Piece
with_contents p cs = map (λ c. record p { msg = record p.msg { content = c } }) cs

abbrev pub elements_at : Val-F Val → Result (List Val) (List ℕ)
elements_at (Val-F.Arr xs) = Ok xs
elements_at _ = Err (codes "unarchive: not an array")

abbrev pub elements : Result Val ContentFault → Result (List Val) (List ℕ)
elements (Ok x) = elements_at (out-Val x)
elements (Err e) = Err (unread (codes "unarchive") e)

abbrev pub with_elements : Piece → Result (List Val) (List ℕ) → List Piece
with_elements p (Ok xs) = with_contents p (map text xs)
with_elements p (Err t) = flagged_piece t p ∷ []

-- `unarchive` with `lines`: one message for each piece between line feeds, with metadata and flag of the whole
abbrev pub unarchive_lines : Piece → List Piece
unarchive_lines p = with_contents p (slice_split (λ b. b == 10) p.msg.content)

-- `unarchive` with `json_array`: one for each element; what is no array is flagged
abbrev pub unarchive_json : Piece → List Piece
unarchive_json p = with_elements p (elements (document p.msg.content))

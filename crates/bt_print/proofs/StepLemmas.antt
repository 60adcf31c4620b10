-- What is printed step by step is the text of the pieces.
use Rattle.std.proofs.Common.{◌≡◌, ℕ, List, [], ◌∷◌, ◌++◌, map, length, drop, codes, Option, Result, Ok, Err, OnOk, refl, sym, ap, ◌∙◌, append_assoc, append-nil}
use Rattle.std.proofs.Math.Seq.{drop-append_seam}
use Rattle.bt_lexer.specs.declared.token.Kind.{Kind}
use Rattle.bt_lexer.specs.declared.token.Kind.TheVariants as k
use Rattle.bt_syntax.specs.declared.keywords.Keyword.TheVariants as w
use Rattle.bt_tree.specs.declared.tree.Query.{Query}
use Rattle.bt_tree.specs.declared.tree.Branch.{Branch}
use Rattle.bt_tree.specs.declared.tree.Key.{Key}
use Rattle.bt_tree.specs.Parts.{in_branch}
use Rattle.bt_print.specs.Parts as parts
use Rattle.bt_words.specs.Printing as print
use Rattle.bt_words.specs.Printing.{Piece, Space, Line, Token, Pieces}
use Rattle.bt_words.specs.Printing.{text_of, bytes_of}
use Rattle.bt_print.specs.Steps.{after, all_after, joined, listed}

pub on_ok : {A E P Q : Type 0} (r : Result A E) → (P → Q) → OnOk r P → OnOk r Q
on_ok (Ok a) f h = f h
on_ok (Err e) f h = h

pub text_append : (p q : Pieces) → text_of (p ++ q) ≡ text_of p ++ text_of q
text_append [] q = refl
text_append (Space ∷ p) q = ap (λ u. 32 ∷ u) (text_append p q)
text_append (Line ∷ p) q = ap (λ u. 10 ∷ u) (text_append p q)
text_append (Token t ∷ p) q = ap (λ u. bytes_of t ++ u) (text_append p q) ∙ sym (append_assoc (bytes_of t) (text_of p) (text_of q))

pub after_append : (u : List ℕ) (p q : Pieces) → after u (p ++ q) ≡ after (after u p) q
after_append u p q = ap (λ v. u ++ v) (text_append p q) ∙ sym (append_assoc u (text_of p) (text_of q))

pub all_after_is : {A : Type 0} (f : A → Pieces) (u : List ℕ) (xs : List A) → all_after f u xs ≡ after u (print.all_of (map f xs))
all_after_is f u [] = sym (append-nil u)
all_after_is f u (x ∷ xs) = all_after_is f (after u (f x)) xs ∙ sym (after_append u (f x) (print.all_of (map f xs)))

module _ {A : Type 0} (f : A → Pieces) (m : Pieces) where
  pub behind_is : (u : List ℕ) (xs : List A) → joined f (text_of m) u xs ≡ after u (print.behind_each m (map f xs))
  behind_is u [] = sym (append-nil u)
  behind_is u (x ∷ xs) =
      behind_is (after (after u m) (f x)) xs
      ∙ sym (after_append u m (f x ++ print.behind_each m (map f xs)) ∙ after_append (after u m) (f x) (print.behind_each m (map f xs)))

  pub between_is : (u : List ℕ) (xs : List A) → listed f (text_of m) u xs ≡ after u (print.between m (map f xs))
  between_is u [] = sym (append-nil u)
  between_is u (x ∷ xs) = behind_is (after u (f x)) xs ∙ sym (after_append u (f x) (print.behind_each m (map f xs)))

-- a mark, pieces, and a mark
pub around_is : (u : List ℕ) (o c : Kind) (p : Pieces) → after (after (after u (print.mark o ∷ [])) p) (print.mark c ∷ []) ≡ after u (print.bracketed o c p)
around_is u o c p = sym (after_append u (print.mark o ∷ []) (p ++ print.mark c ∷ []) ∙ after_append (after u (print.mark o ∷ [])) p (print.mark c ∷ []))

-- ---- steps one behind another

pub two : (u a b : List ℕ) (p q : Pieces) → a ≡ after u p → b ≡ after a q → b ≡ after u (p ++ q)
two u a b p q e f = f ∙ ap (λ v. after v q) e ∙ sym (after_append u p q)

pub three : (u a b c : List ℕ) (p q r : Pieces) → a ≡ after u p → b ≡ after a q → c ≡ after b r → c ≡ after u (p ++ (q ++ r))
three u a b c p q r e f h = two u a c p (q ++ r) e (two a b c q r f h)

pub enclosed : (u a b c : List ℕ) (o k : Kind) (p : Pieces) → a ≡ after u (print.mark o ∷ []) → b ≡ after a p → c ≡ after b (print.mark k ∷ []) →
    c ≡ after u (print.bracketed o k p)
enclosed u a b c o k p e f h = three u a b c (print.mark o ∷ []) p (print.mark k ∷ []) e f h

pub in_block : (u a b c : List ℕ) (p : Pieces) → a ≡ u ++ codes " { " → b ≡ after a p → c ≡ b ++ codes " }" → c ≡ after u (print.block p)
in_block u a b c p e f h = three u a b c (Space ∷ print.mark k.LeftBrace ∷ Space ∷ []) p (Space ∷ print.mark k.RightBrace ∷ []) e f h ∙ ap (after u) (ap (λ q. Space ∷ print.mark k.LeftBrace ∷ q) (block_ends p))
  where
    block_ends : (p : Pieces) → Space ∷ (p ++ Space ∷ print.mark k.RightBrace ∷ []) ≡ (Space ∷ (p ++ Space ∷ [])) ++ print.mark k.RightBrace ∷ []
    block_ends p = ap (λ q. Space ∷ q) (sym (append_assoc p (Space ∷ []) (print.mark k.RightBrace ∷ [])))

-- ---- lists with each mark

pub comma_is : {A : Type 0} (f : A → Pieces) (u : List ℕ) (xs : List A) → listed f (codes ", ") u xs ≡ after u (print.between print.comma (map f xs))
comma_is f u xs = between_is f print.comma u xs

pub and_is : (u : List ℕ) (qs : List Query) → joined print.query (codes " && ") u qs ≡ after u (print.behind_each (print.spaced k.And) (map print.query qs))
and_is u qs = behind_is print.query (print.spaced k.And) u qs

pub or_is : (u : List ℕ) (qs : List Query) → joined print.query (codes " || ") u qs ≡ after u (print.behind_each (print.spaced k.Or) (map print.query qs))
or_is u qs = behind_is print.query (print.spaced k.Or) u qs

pub pipe_is : (u : List ℕ) (qs : List Query) → joined print.query (codes " | ") u qs ≡ after u (print.behind_each (print.spaced k.Pipe) (map print.query qs))
pipe_is u qs = behind_is print.query (print.spaced k.Pipe) u qs

-- ---- what stands behind a head

pub head_behind : (u a : List ℕ) (p : Pieces) (n : ℕ) → a ≡ after u p → n ≡ length u → drop n a ≡ text_of p
head_behind u a p n e h = ap (λ i. drop i a) h ∙ ap (drop (length u)) e ∙ drop-append_seam u (text_of p)

-- ---- the branches of an `if`

others_are : (u : List ℕ) (xs : List (Branch Query)) → joined parts.branch (codes " else ") u xs ≡ after u (print.other_branches (map (in_branch print.query) xs))
others_are u [] = sym (append-nil u)
others_are u (x ∷ xs) =
    let m : Pieces = Space ∷ print.keyword w.Else ∷ Space ∷ [] in
    others_are (after (after u m) (parts.branch x)) xs
    ∙ sym (after_append u m (parts.branch x ++ print.other_branches (map (in_branch print.query) xs))
    ∙ after_append (after u m) (parts.branch x) (print.other_branches (map (in_branch print.query) xs)))

pub branches_are : (u : List ℕ) (xs : List (Branch Query)) (last : Option Pieces) →
    after (listed parts.branch (codes " else ") u xs) (print.last_branch last) ≡ after u (print.branches (map (in_branch print.query) xs) last)
branches_are u [] last = refl
branches_are u (x ∷ xs) last =
    ap (λ v. after v (print.last_branch last)) (others_are (after u (parts.branch x)) xs)
    ∙ sym (after_append u (parts.branch x) (print.other_branches (map (in_branch print.query) xs) ++ print.last_branch last)
    ∙ after_append (after u (parts.branch x)) (print.other_branches (map (in_branch print.query) xs)) (print.last_branch last))

-- ---- statements

pub keys_are : (u : List ℕ) (xs : List Key) → all_after parts.step u xs ≡ after u (print.keys xs)
keys_are u xs = all_after_is parts.step u xs ∙ ap (after u) (go xs)
  where
    go : (xs : List Key) → print.all_of (map parts.step xs) ≡ print.keys xs
    go [] = refl
    go (x ∷ xs) = ap (λ p. print.mark k.Dot ∷ Token (print.key_word x) ∷ p) (go xs)

pub definition_is : (u a b d f z name : List ℕ) (p : Pieces) → a ≡ u ++ codes "map " → b ≡ a ++ name → d ≡ b ++ codes " {\n  " → f ≡ after d p → z ≡ f ++ codes "\n}" →
    z ≡ after u (print.keyword w.Map ∷ Space ∷ print.name name ∷ Space ∷ print.bracketed k.LeftBrace k.RightBrace (Line ∷ Space ∷ Space ∷ (p ++ Line ∷ [])))
definition_is u a b d f z name p e e' e'' h h' =
    let first = print.keyword w.Map ∷ Space ∷ [] in
    let opening = Space ∷ print.mark k.LeftBrace ∷ Line ∷ Space ∷ Space ∷ [] in
    let closing = Line ∷ print.mark k.RightBrace ∷ [] in
    two u a z first (print.name name ∷ (opening ++ (p ++ closing))) e
    (two a b z (print.name name ∷ []) (opening ++ (p ++ closing)) (e' ∙ ap (λ v. a ++ v) (sym (append-nil name)))
    (three b d f z opening p closing e'' h h'))
    ∙ ap (λ q. after u (first ++ print.name name ∷ (opening ++ q))) (sym (append_assoc p (Line ∷ []) (print.mark k.RightBrace ∷ [])))

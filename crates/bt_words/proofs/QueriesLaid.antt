-- What is printed for a query that was read is laid out so that its tokens are apart.
use Rattle.std.proofs.Common.{◌≡◌, ℕ, zero, suc, pos, Bool, true, false, ◌&&◌, List, [], ◌∷◌, ◌++◌, map, Option, Some, None, ◌⊎◌, inl, inr, refl, sym, ap, ◌∙◌, subst, append_assoc}
use Rattle.bt_lexer.specs.declared.token.Kind.{Kind}
use Rattle.bt_lexer.specs.declared.token.Kind.TheVariants as k
use Rattle.std.specs.List.{list_all}
use Rattle.bt_lexer.specs.Bytes.{is_digit}
use Rattle.bt_lexer.specs.Kinds.{is_number}
use Rattle.bt_lexer.specs.Tokens.{is_int, is_dot, begins_fraction}
use Rattle.bt_lexer.specs.Lines.{is_line_feed, is_soft_after}
use Rattle.bt_value.specs.declared.names.Op.{Op}
use Rattle.bt_value.specs.declared.names.Op.TheVariants as o
use Rattle.bt_value.specs.declared.names.PrefixOp.{PrefixOp}
use Rattle.bt_value.specs.declared.names.PrefixOp.TheVariants as po
use Rattle.bt_syntax.specs.declared.keywords.Keyword.{Keyword}
use Rattle.bt_syntax.specs.declared.keywords.Keyword.TheVariants as w
use Rattle.bt_tree.specs.declared.tree.Key.{Key}
use Rattle.bt_tree.specs.declared.tree.Key.TheVariants as key
use Rattle.bt_tree.specs.declared.tree.Query.{Query}
use Rattle.bt_tree.specs.declared.tree.Query.TheVariants as node
use Rattle.bt_tree.specs.declared.tree.Suffix.{Suffix}
use Rattle.bt_tree.specs.declared.tree.Suffix.TheVariants as s
use Rattle.bt_tree.specs.declared.tree.Arg.{Arg}
use Rattle.bt_tree.specs.declared.tree.Member.{Member}
use Rattle.bt_tree.specs.declared.tree.Term.{Term}
use Rattle.bt_tree.specs.declared.tree.Case.{Case}
use Rattle.bt_tree.specs.declared.tree.Branch.{Branch}
use Rattle.bt_syntax.specs.Lexemes.{Lexeme, Lexemes, reserved, number}
use Rattle.bt_syntax.specs.Rules as rule
use Rattle.bt_syntax.specs.Rules.{Repeated, Listed, Separated, Behind, Bracketed, Optional}
use Rattle.bt_syntax.specs.Grammar as g
use Rattle.bt_syntax.specs.Grammar.{word, token_head, head_in, reserved_head, segment_of, segment_in, separates_cases, IsArg, IsMember, AreArgs, IsHead, IsSuffix, IsItem, IsUnary, IsFactor, IsProduct, IsTerm, IsSum, IsComparison, IsLogic, IsPlain, IsBlock, IsCase, IsSubject, IsMatch, IsBranch, AreElses, IsIf, IsQuery, Nested}
use Rattle.bt_tree.specs.Parts.{in_suffix, in_option}
use Rattle.bt_words.specs.Printing as print
use Rattle.bt_words.specs.Printing.{Piece, Space, Line, Token, Pieces, placeless, mark_word, reserved_word, key_word, kind_of_op, kind_of_prefix, digits, begins_with_digit, begins_with_int, gap_between, text_of, query}
use Rattle.bt_words.proofs.TextReads.{Apart, Uncut, segment_next, leads, lead_kind}
use Rattle.bt_words.proofs.WordTokens.{is_cut}
use Rattle.bt_words.proofs.DigitLemmas.{digits_number}
use Rattle.bt_words.proofs.Layouts.{is_int_kind, is_int_alone, NoLines, last_kind, no_lines_append, last_append, follow_dot, is_end, end_hard, end_no_line, end_stops, follow_is_dot, before_space, closed_mark, Inner, Solid, Tail, Head, Steps, inner, inner_none, tail_none, steps_none, tail_append, steps_append, solid_tail, head_solid, spaced_tail, comma_tail, worded, space_tail, word_tail, Between, in_parens, in_list, in_braces, block_tail, bracket_head}
use Rattle.bt_words.proofs.PrintedLayers.{of_arg, of_args, of_member, of_suffix, of_term, of_case, of_branch, of_others, of_last, args_fused, printed-Null, printed-True, printed-False, printed-Int, printed-Quoted, printed-This, printed-Root, printed-Name, printed-Var, printed-Metadata, printed-Meta, printed-Call, printed-Paren, printed-List, printed-Object, printed-Item, printed-Prefix, printed-Product, printed-Sum, printed-Compare, printed-And, printed-Or, printed-Coalesce, printed-Match, printed-If}

-- a list of parts that are read so is laid out so
abbrev pub Laid : (A : Type 0) (R : A → Lexemes → Type 0) (P : A → Pieces) (S : Pieces → Type 0) → Type 0
Laid A R P S = (x : A) (u : Lexemes) → R x u → S (P x)

-- ---- lists

module _ {A : Type 0} {R : A → Lexemes → Type 0} {P : A → Pieces} where
  all_tail : Laid A R P Tail → Laid (List A) (Repeated A R) (λ xs. print.all_of (map P xs)) Tail
  all_tail H _ _ rule.none = tail_none
  all_tail H _ _ (rule.more {a} {rest} {u} {v} r rs) = tail_append (H a u r) (all_tail H rest v rs)

  all_steps : Laid A R P Steps → Laid (List A) (Repeated A R) (λ xs. print.all_of (map P xs)) Steps
  all_steps H _ _ rule.none = steps_none
  all_steps H _ _ (rule.more {a} {rest} {u} {v} r rs) = steps_append (H a u r) (all_steps H rest v rs)

  behind_tail : (mark kd : Kind) → is_line_feed kd ≡ false → Laid A R P Solid → Laid (List A) (Repeated A (Behind mark A R)) (λ xs. print.behind_each (print.spaced kd) (map P xs)) Tail
  behind_tail mark kd n H _ _ rule.none = tail_none
  behind_tail mark kd n H _ _ (rule.more {a} {rest} {v} (rule.behind {u} t h r) rs) = tail_append (spaced_tail kd n (H a u r)) (behind_tail mark kd n H rest v rs)

  commas_tail : Laid A R P Solid → Laid (List A) (Listed A R) (λ xs. print.behind_each print.comma (map P xs)) Tail
  commas_tail H _ _ rule.empty = tail_none
  commas_tail H _ _ (rule.last {a} {u} r) = tail_append (comma_tail (H a u r)) tail_none
  commas_tail H _ _ (Listed.then {a} {rest} {u} {v} c r h rs) = tail_append (comma_tail (H a u r)) (commas_tail H rest v rs)

  pub listed_inner : Laid A R P Solid → Laid (List A) (Listed A R) (λ xs. print.between print.comma (map P xs)) Inner
  listed_inner H _ _ rule.empty = inner_none
  listed_inner H _ _ (rule.last {a} {u} r) = inner (solid_tail (H a u r) tail_none)
  listed_inner H _ _ (Listed.then {a} {rest} {u} {v} c r h rs) = inner (solid_tail (H a u r) (commas_tail H rest v rs))

  separated_tail : (separates : Kind → Bool) → Laid A R P Solid → Laid (List A) (Separated separates A R) (λ xs. print.behind_each print.comma (map P xs)) Tail
  separated_tail separates H _ _ (rule.single {a} {u} r) = tail_append (comma_tail (H a u r)) tail_none
  separated_tail separates H _ _ (Separated.then {a} {rest} {u} {v} c r h rs) = tail_append (comma_tail (H a u r)) (separated_tail separates H rest v rs)

  pub separated_inner : (separates : Kind → Bool) → Laid A R P Solid → Laid (List A) (Separated separates A R) (λ xs. print.between print.comma (map P xs)) Inner
  separated_inner separates H _ _ (rule.single {a} {u} r) = inner (solid_tail (H a u r) tail_none)
  separated_inner separates H _ _ (Separated.then {a} {rest} {u} {v} c r h rs) = inner (solid_tail (H a u r) (separated_tail separates H rest v rs))

-- ---- tokens

abbrev is_alone_kind : Kind → Bool
is_alone_kind kd = is_end kd && lead_kind kd

int_same : (kd : Kind) (f : Bool) → is_end kd ≡ true → (is_int_kind kd && f) ≡ false → (is_int kd && (true && f)) ≡ false
int_same k.Int f e h = h
int_same k.Name f e h = refl
int_same k.Text f e h = refl
int_same k.Var f e h = refl
int_same k.At f e h = refl
int_same k.RightParen f e h = refl
int_same k.RightBracket f e h = refl
int_same k.RightBrace f e h = refl
int_same _ f e h = absurd (cc)

back : (kd : Kind) → is_end kd ≡ true → (p : Pieces) → Apart false p → Apart (is_dot kd) p
back k.Name e p a = a
back k.Int e p a = a
back k.Text e p a = a
back k.Var e p a = a
back k.At e p a = a
back k.RightParen e p a = a
back k.RightBracket e p a = a
back k.RightBrace e p a = a
back _ e p a = absurd (cc)

alone_head : (v : Lexeme) → is_end v.kind ≡ true → lead_kind v.kind ≡ true → Head (Token v ∷ [])
alone_head v e l = record {
  apart = λ r a f c. (inl (end_stops v.kind (text_of r) e f), uncut r c, back v.kind e r a);
  lines = (end_no_line v.kind e, tt);
  ends = λ b. end_hard v.kind e;
  first = λ r. l;
}
  where
    uncut : (r : Pieces) → ((is_int_kind v.kind && begins_fraction (text_of r)) ≡ false) ⊎ (segment_next r ≡ true) → Uncut v.kind false r
    uncut r (inl c) = inl (int_same v.kind (begins_fraction (text_of r)) e c)
    uncut r (inr h) = inr h

-- a name behind which brackets stand at once
name_brackets : (u : List ℕ) {p : Pieces} → Between k.LeftParen k.RightParen p → Head (print.name u ∷ print.bracketed k.LeftParen k.RightParen p)
name_brackets u {p} b = record { apart = λ r a f c. (inl refl, inl refl, b.apart false r a); lines = (refl, b.lines); ends = λ x. b.ends (Some k.Name); first = λ r. refl }

pub key_end : (x : Key) → is_end (key_word x).kind ≡ true
key_end (key.Name u) = refl
key_end (key.Quoted u) = refl

pub key_cut : (x : Key) (dot : Bool) (t : List ℕ) → is_cut (key_word x).kind dot t ≡ false
key_cut (key.Name u) dot t = refl
key_cut (key.Quoted u) dot t = refl

meta_head : (x : Key) → Head (print.mark k.At ∷ Token (key_word x) ∷ [])
meta_head x = record {
  apart = λ r a f c. closed_mark k.At refl false (Token (key_word x) ∷ r) (inl (end_stops (key_word x).kind (text_of r) (key_end x) f), inl (key_cut x false (text_of r)), back (key_word x).kind (key_end x) r a);
  lines = (refl, (end_no_line (key_word x).kind (key_end x), tt));
  ends = λ b. end_hard (key_word x).kind (key_end x);
  first = λ r. refl;
}

pub dot_token : (v : Lexeme) → is_end v.kind ≡ true → ((t : List ℕ) → is_cut v.kind true t ≡ false) → Steps (print.mark k.Dot ∷ Token v ∷ [])
dot_token v e c = record {
  apart = λ r a f. closed_mark k.Dot refl false (Token v ∷ r) (inl (end_stops v.kind (text_of r) e f), inl (c (text_of r)), back v.kind e r a);
  after = λ r f. refl;
  lines = (refl, (end_no_line v.kind e, tt));
  ends = λ b h. end_hard v.kind e;
}

-- a number begins with a digit
number_begins : (u r : List ℕ) → is_number u ≡ true → begins_with_digit (u ++ r) ≡ true
number_begins [] r h = absurd (cc)
number_begins (c ∷ u) r h = both_true (is_digit c) (list_all is_digit u) h
  where
    both_true : (a b : Bool) → (a && b) ≡ true → a ≡ true
    both_true true b h = refl
    both_true false b h = h

-- a query that is one token
record Single (q : Query) : Type 0 where
  token : Lexeme
  printed : query q ≡ Token token ∷ []
  ends : is_end token.kind ≡ true
  leads_on : lead_kind token.kind ≡ true
  digit : is_int_kind token.kind ≡ true → begins_with_digit (text_of (Token token ∷ [])) ≡ true

single_at : (q p : Query) → Some p ≡ Some q → Single p → Single q
single_at q p h b = let h' : p ≡ q = cc in subst Single h' b

word_single : (x : Option Keyword) (t : Lexeme) (q : Query) → reserved_head t x ≡ Some q → Single q
word_single None t q h = absurd (cc)
word_single (Some w.Null) t q h = single_at q node.Null h (record { token = reserved_word w.Null; printed = printed-Null; ends = refl; leads_on = refl; digit = λ e. absurd (cc) })
word_single (Some w.True) t q h = single_at q node.True h (record { token = reserved_word w.True; printed = printed-True; ends = refl; leads_on = refl; digit = λ e. absurd (cc) })
word_single (Some w.False) t q h = single_at q node.False h (record { token = reserved_word w.False; printed = printed-False; ends = refl; leads_on = refl; digit = λ e. absurd (cc) })
word_single (Some w.This) t q h = single_at q node.This h (record { token = reserved_word w.This; printed = printed-This; ends = refl; leads_on = refl; digit = λ e. absurd (cc) })
word_single (Some w.Root) t q h = single_at q (node.Root t.at) h (record { token = reserved_word w.Root; printed = printed-Root t.at; ends = refl; leads_on = refl; digit = λ e. absurd (cc) })
word_single (Some _) t q h = absurd (cc)

kind_single : (kd : Kind) (t : Lexeme) (q : Query) → head_in kd t ≡ Some q → Single q
kind_single k.Int t q h = single_at q (node.Int (pos (number t))) h (record { token = placeless k.Int (digits (number t)); printed = printed-Int (pos (number t)); ends = refl; leads_on = refl; digit = λ e. number_begins (digits (number t)) [] (digits_number (number t)) })
kind_single k.Text t q h = single_at q (node.Quoted (word t)) h (record { token = placeless k.Text t.text; printed = printed-Quoted (word t); ends = refl; leads_on = refl; digit = λ e. absurd (cc) })
kind_single k.Var t q h = single_at q (node.Var (word t)) h (record { token = placeless k.Var t.text; printed = printed-Var (word t); ends = refl; leads_on = refl; digit = λ e. absurd (cc) })
kind_single k.Name t q h = word_single (reserved t) t q h
kind_single _ t q h = absurd (cc)

segment_steps : (kd : Kind) (t : Lexeme) (x : Suffix Query) → segment_in kd t ≡ Some x → Steps (of_suffix x)
segment_steps k.Name t x h = let h' : s.Name t.text ≡ x = cc in subst (λ y. Steps (of_suffix y)) h' (dot_token (placeless k.Name t.text) refl (λ z. refl))
segment_steps k.Text t x h = let h' : s.Quoted t.text ≡ x = cc in subst (λ y. Steps (of_suffix y)) h' (dot_token (placeless k.Text t.text) refl (λ z. refl))
segment_steps k.Int t x h = let h' : s.Int (pos (number t)) ≡ x = cc in subst (λ y. Steps (of_suffix y)) h' (dot_token (placeless k.Int (digits (number t))) refl (λ z. refl))
segment_steps _ t x h = absurd (cc)

-- ---- operators

op_line : (op : Op) → is_line_feed (kind_of_op op) ≡ false
op_line o.Add = refl
op_line o.Sub = refl
op_line o.Mul = refl
op_line o.Div = refl
op_line o.Rem = refl
op_line o.Equal = refl
op_line o.NotEqual = refl
op_line o.Less = refl
op_line o.AtMost = refl
op_line o.More = refl
op_line o.AtLeast = refl
op_line o.And = refl
op_line o.Or = refl

-- a query before which an operator may stand
record Led (p : Pieces) : Type 0 where
  solid : Solid p
  first : (r : Pieces) → leads (p ++ r) ≡ true

prefix_solid : (op : PrefixOp) {p : Pieces} → Led p → Solid (print.mark (kind_of_prefix op) ∷ p)
prefix_solid po.Not {p} l = record { apart = λ r a f. (inr (refl, l.first r), inl refl, l.solid.apart r a f); lines = (refl, l.solid.lines); ends = λ b. l.solid.ends (Some k.Bang) }
prefix_solid po.Minus {p} l = record { apart = λ r a f. (inr (refl, l.first r), inl refl, l.solid.apart r a f); lines = (refl, l.solid.lines); ends = λ b. l.solid.ends (Some k.Minus) }

head_led : {p : Pieces} → Head p → Led p
head_led h = record { solid = head_solid h; first = h.first }

-- no `.` and Int follow, unless a space stands before them
segment_first : (x : Suffix Query) (xs : List (Suffix Query)) (r : Pieces) → begins_with_int (map (in_suffix query) (x ∷ xs)) ≡ false → segment_next (print.all_of (map of_suffix (x ∷ xs)) ++ r) ≡ true
segment_first (s.Name u) xs r h = refl
segment_first (s.Quoted u) xs r h = refl
segment_first (s.Int n) xs r h = absurd (cc)
segment_first (s.Method v ys) xs r h = refl
segment_first (s.Within y) xs r h = refl

not_alone : (t : Lexeme) (p : Pieces) (y : Piece) → is_int_alone (Token t ∷ (p ++ y ∷ [])) ≡ false
not_alone t [] y = refl
not_alone t (x ∷ p) y = refl

other_head : {p r : Pieces} → p ≡ r → is_int_alone r ≡ false → is_int_alone p ≡ true → begins_with_digit (text_of p) ≡ true
other_head e f h = absurd (clash (sym (ap is_int_alone e ∙ f) ∙ h))
  where
    clash : ◌≡◌ {A = Bool} false true → ⊥
    clash e = cc

single_digit : (p : Pieces) (t : Lexeme) → p ≡ Token t ∷ [] → (is_int_kind t.kind ≡ true → begins_with_digit (text_of (Token t ∷ [])) ≡ true) → is_int_alone p ≡ true → begins_with_digit (text_of p) ≡ true
single_digit p t e h f = ap (λ r. begins_with_digit (text_of r)) e ∙ h (sym (ap is_int_alone e) ∙ f)

item_led : {p : Pieces} (x : Suffix Query) (xs : List (Suffix Query)) → Head p → Steps (print.all_of (map of_suffix (x ∷ xs))) →
    (b c : Bool) → (is_int_alone p ≡ true → b ≡ true) → begins_with_int (map (in_suffix query) (x ∷ xs)) ≡ c → Led (p ++ (gap_between b c ++ print.all_of (map of_suffix (x ∷ xs))))
item_led {p} x xs h t b c e e' = go b c e e'
  where
    steps : Pieces
    steps = print.all_of (map of_suffix (x ∷ xs))

    made : (gap : Pieces) → ((r : Pieces) → Apart false r → Apart false (gap ++ r)) → NoLines gap → ((y : Option Kind) → is_soft_after y ≡ false → is_soft_after (last_kind y gap) ≡ false) →
        ((r : Pieces) → follow_dot (text_of (steps ++ r)) ≡ true → follow_dot (text_of (gap ++ (steps ++ r))) ≡ true) →
        ((r : Pieces) → ((is_int_alone p && begins_fraction (text_of (gap ++ (steps ++ r)))) ≡ false) ⊎ (segment_next (gap ++ (steps ++ r)) ≡ true)) → Led (p ++ (gap ++ steps))
    made gap ga gl ge gf gc = record {
      solid = record {
        apart = λ r a f. subst (Apart false) (sym (append_assoc p (gap ++ steps) r ∙ ap (λ z. p ++ z) (append_assoc gap steps r)))
            (h.apart (gap ++ (steps ++ r)) (ga (steps ++ r) (t.apart r a (follow_is_dot (text_of r) f))) (gf r (t.after r (follow_is_dot (text_of r) f))) (gc r));
        lines = no_lines_append p (gap ++ steps) h.lines (no_lines_append gap steps gl t.lines);
        ends = λ y. ap is_soft_after (last_append y p (gap ++ steps) ∙ last_append (last_kind y p) gap steps) ∙ t.ends (last_kind (last_kind y p) gap) (ge (last_kind y p) (h.ends y));
      };
      first = λ r. subst (λ z. leads z ≡ true) (sym (append_assoc p (gap ++ steps) r)) (h.first ((gap ++ steps) ++ r));
    }

    no_gap : ((r : Pieces) → ((is_int_alone p && begins_fraction (text_of (steps ++ r))) ≡ false) ⊎ (segment_next (steps ++ r) ≡ true)) → Led (p ++ steps)
    no_gap gc = made [] (λ r a. a) tt (λ y z. z) (λ r f. f) gc

    and_false : (a b : Bool) → a ≡ false → (a && b) ≡ false
    and_false a b h = rw h refl

    not_so : (a : Bool) → (a ≡ true → ◌≡◌ {A = Bool} false true) → a ≡ false
    not_so true f = sym (f refl)
    not_so false f = refl

    and_other : (a b : Bool) → b ≡ false → (a && b) ≡ false
    and_other true b h = h
    and_other false b h = refl

    go : (b c : Bool) → (is_int_alone p ≡ true → b ≡ true) → begins_with_int (map (in_suffix query) (x ∷ xs)) ≡ c → Led (p ++ (gap_between b c ++ steps))
    go true true e e' = made (Space ∷ []) (λ r a. a) tt (λ y z. z) (λ r f. refl) (λ r. inl (and_other (is_int_alone p) (begins_fraction (32 ∷ text_of (steps ++ r))) refl))
    go true false e e' = no_gap (λ r. inr (segment_first x xs r e'))
    go false c e e' = no_gap (λ r. inl (and_false (is_int_alone p) (begins_fraction (text_of (steps ++ r))) (not_so (is_int_alone p) e)))

module _ (I : Query → Lexemes → Type 0) (H : Laid Query I query Solid) where
  arg_laid : Laid (Arg Query) (IsArg I) of_arg Solid
  arg_laid _ _ (g.plain_arg {q} {u} r) = H q u r
  arg_laid _ _ (g.lambda {q} {u} name arrow free h r) = word_tail (placeless k.Name name.text) refl (spaced_tail k.Arrow refl (H q u r))

  args_laid : Laid (List (Arg Query)) (AreArgs I) (λ xs. print.between print.comma (map of_arg xs)) (Between k.LeftParen k.RightParen)
  args_laid _ _ (rule.bracketed {a = xs} {u} t t' h r h') = in_parens (listed_inner arg_laid xs u r)

  member_laid : Laid (Member Query) (IsMember I) of_member Solid
  member_laid _ _ (g.member {q} {u} text colon h h' r) =
      let b = H q u r in
      record { apart = λ r a f. (inl refl, inl refl, before_space false (mark_word k.Colon) (query q ++ r) (b.apart r a f)); lines = (refl, (refl, b.lines)); ends = λ y. b.ends (Some k.Colon) }

  head_laid : Laid Query (IsHead I) query Head
  head_laid q _ (g.token t h) = let b = kind_single t.kind t q h in subst Head (sym b.printed) (alone_head b.token b.ends b.leads_on)
  head_laid _ _ (g.name t free) = subst Head (sym (printed-Name (word t))) (alone_head (placeless k.Name t.text) refl refl)
  head_laid _ _ (g.metadata t h) = subst Head (sym printed-Metadata) (alone_head (mark_word k.At) refl refl)
  head_laid _ _ (g.meta_key {x} t t' h h') = subst Head (sym (printed-Meta x)) (meta_head x)
  head_laid _ _ (g.call {xs} {u} t free r) = subst Head (sym (printed-Call (word t) xs)) (name_brackets t.text (args_laid xs u r))
  head_laid _ _ (g.meta_call {xs} {u} t h r) = subst Head (sym (printed-Call (word t) xs)) (name_brackets t.text (args_laid xs u r))
  head_laid _ _ (g.parens (rule.bracketed {a = q} {u} t t' h r h')) =
      subst Head (sym (printed-Paren q)) (bracket_head k.LeftParen k.RightParen (query q) refl (in_parens (inner (H q u r))) refl)
  head_laid _ _ (g.«list» (rule.bracketed {a = qs} {u} t t' h r h')) =
      subst Head (sym (printed-List qs)) (bracket_head k.LeftBracket k.RightBracket (print.between print.comma (map query qs)) refl (in_list (listed_inner H qs u r)) refl)
  head_laid _ _ (g.object (rule.bracketed {a = xs} {u} t t' h r h')) =
      subst Head (sym (printed-Object xs)) (bracket_head k.LeftBrace k.RightBrace (print.between print.comma (map of_member xs)) refl (in_braces (listed_inner member_laid xs u r)) refl)

  head_digit : (q : Query) (u : Lexemes) → IsHead I q u → is_int_alone (query q) ≡ true → begins_with_digit (text_of (query q)) ≡ true
  head_digit q _ (g.token t h) e = let b = kind_single t.kind t q h in single_digit (query q) b.token b.printed b.digit e
  head_digit _ _ (g.name t free) e = other_head (printed-Name (word t)) refl e
  head_digit _ _ (g.metadata t h) e = other_head printed-Metadata refl e
  head_digit _ _ (g.meta_key {x} t t' h h') e = other_head (printed-Meta x) refl e
  head_digit _ _ (g.call {xs} t free r) e = other_head (printed-Call (word t) xs) refl e
  head_digit _ _ (g.meta_call {xs} t h r) e = other_head (printed-Call (word t) xs) refl e
  head_digit _ _ (g.parens (rule.bracketed {a = q} t t' h r h')) e = other_head (printed-Paren q) (not_alone (mark_word k.LeftParen) (query q) (print.mark k.RightParen)) e
  head_digit _ _ (g.«list» (rule.bracketed {a = qs} t t' h r h')) e =
      other_head (printed-List qs) (not_alone (mark_word k.LeftBracket) (print.between print.comma (map query qs)) (print.mark k.RightBracket)) e
  head_digit _ _ (g.object (rule.bracketed {a = xs} t t' h r h')) e =
      other_head (printed-Object xs) (not_alone (mark_word k.LeftBrace) (print.between print.comma (map of_member xs)) (print.mark k.RightBrace)) e

  suffix_laid : Laid (Suffix Query) (IsSuffix I) of_suffix Steps
  suffix_laid x _ (g.segment dot t h h') = segment_steps t.kind t x h'
  suffix_laid _ _ (g.method {xs} {u} dot t h free r) =
      let b = args_laid xs u r in
      subst (λ p. Steps (print.mark k.Dot ∷ print.name t.text ∷ p)) (sym (args_fused xs))
      (record {
        apart = λ r a f. closed_mark k.Dot refl false (print.name t.text ∷ (of_args xs ++ r)) (inl refl, inl refl, b.apart false r a);
        after = λ r f. refl;
        lines = (refl, (refl, b.lines));
        ends = λ y h. b.ends (Some k.Name);
      })
  suffix_laid _ _ (g.within dot h (rule.bracketed {a = x} {u} t t' h' r h'')) =
      let b = in_parens (inner (arg_laid x u r)) in
      record { apart = λ r a f. closed_mark k.Dot refl false (print.bracketed k.LeftParen k.RightParen (of_arg x) ++ r) (b.apart true r a); after = λ r f. refl; lines = (refl, b.lines); ends = λ y h. b.ends (Some k.Dot) }

  item_laid : Laid Query (IsItem I) query Led
  item_laid _ _ (g.head_alone {q} {u} r) = head_led (head_laid q u r)
  item_laid _ _ (g.suffixed {q} {x} {xs} {u} {v} r rs) =
      subst Led (sym (printed-Item q (x ∷ xs)))
      (item_led x xs (head_laid q u r) (all_steps suffix_laid (x ∷ xs) v rs) (begins_with_digit (text_of (query q))) (begins_with_int (map (in_suffix query) (x ∷ xs))) (head_digit q u r) refl)

  unary_laid : Laid Query (IsUnary I) query Solid
  unary_laid _ _ (g.item_alone {q} {u} r) = let b = item_laid q u r in b.solid
  unary_laid _ _ (g.prefixed {q} {op} {u} t h r) = subst Solid (sym (printed-Prefix op q)) (prefix_solid op (item_laid q u r))

  factor_laid : Laid (Term Query) (IsFactor I) of_term Tail
  factor_laid _ _ (g.factor {q} {op} {u} t h r) = spaced_tail (kind_of_op op) (op_line op) (unary_laid q u r)

  product_laid : Laid Query (IsProduct I) query Solid
  product_laid _ _ (g.unary_alone {q} {u} r) = unary_laid q u r
  product_laid _ _ (g.multiplied {q} {x} {xs} {u} {v} r rs) = subst Solid (sym (printed-Product q (x ∷ xs))) (solid_tail (unary_laid q u r) (all_tail factor_laid (x ∷ xs) v rs))

  term_laid : Laid (Term Query) (IsTerm I) of_term Tail
  term_laid _ _ (g.term {q} {op} {u} t h r) = spaced_tail (kind_of_op op) (op_line op) (product_laid q u r)

  sum_laid : Laid Query (IsSum I) query Solid
  sum_laid _ _ (g.product_alone {q} {u} r) = product_laid q u r
  sum_laid _ _ (g.added {q} {x} {xs} {u} {v} r rs) = subst Solid (sym (printed-Sum q (x ∷ xs))) (solid_tail (product_laid q u r) (all_tail term_laid (x ∷ xs) v rs))

  comparison_laid : Laid Query (IsComparison I) query Solid
  comparison_laid _ _ (g.sum_alone {q} {u} r) = sum_laid q u r
  comparison_laid _ _ (g.compared {q} {r = q'} {op} {u} {v} t r h r') = subst Solid (sym (printed-Compare q op q')) (solid_tail (sum_laid q u r) (spaced_tail (kind_of_op op) (op_line op) (sum_laid q' v r')))

  logic_laid : Laid Query (IsLogic I) query Solid
  logic_laid _ _ (g.comparison_alone {q} {u} r) = comparison_laid q u r
  logic_laid _ _ (g.all_of {q} {r = p} {qs} {u} {v} r rs) = subst Solid (sym (printed-And q (p ∷ qs))) (solid_tail (comparison_laid q u r) (behind_tail k.And k.And refl comparison_laid (p ∷ qs) v rs))
  logic_laid _ _ (g.any_of {q} {r = p} {qs} {u} {v} r rs) = subst Solid (sym (printed-Or q (p ∷ qs))) (solid_tail (comparison_laid q u r) (behind_tail k.Or k.Or refl comparison_laid (p ∷ qs) v rs))

  plain_laid : Laid Query (IsPlain I) query Solid
  plain_laid _ _ (g.logic {q} {u} r) = logic_laid q u r
  plain_laid _ _ (g.first_of {q} {r = p} {qs} {u} {v} r rs) = subst Solid (sym (printed-Coalesce q (p ∷ qs))) (solid_tail (unary_laid q u r) (behind_tail k.Pipe k.Pipe refl unary_laid (p ∷ qs) v rs))

  case_laid : Laid (Case Query) (IsCase I) of_case Solid
  case_laid _ _ (g.any {q} {u} t arrow h h' r) = word_tail (reserved_word w.Underscore) refl (spaced_tail k.FatArrow refl (H q u r))
  case_laid _ _ (g.when {p} {q} {u} {v} arrow r h r') = solid_tail (H p u r) (spaced_tail k.FatArrow refl (H q v r'))

  subject_laid : Laid (Option Query) (Optional Query (IsSubject I)) (λ x. print.subject (in_option query x)) Tail
  subject_laid _ _ rule.absent = tail_none
  subject_laid _ _ (rule.present {a = q} {u} r) = space_tail (plain_laid q u r.reads)

  match_laid : Laid Query (IsMatch I) query Solid
  match_laid _ _ (g.«match» {q} {xs} {u} t h r (rule.bracketed {u = v} t' t'' h' r' h'')) =
      subst Solid (sym (printed-Match q xs)) (word_tail (reserved_word w.Match) refl (tail_append (subject_laid q u r) (block_tail (separated_inner separates_cases case_laid xs v r'))))

  branch_laid : Laid (Branch Query) (IsBranch I) of_branch Solid
  branch_laid _ _ (g.branch {p} {q} {u} r (rule.bracketed {u = v} t t' h r' h')) = worded (reserved_word w.If) refl (solid_tail (plain_laid p u r) (block_tail (inner (H q v r'))))

  elses_laid : (xs : List (Branch Query)) (q : Option Query) (u : Lexemes) → AreElses I xs q u → Tail (of_others xs ++ of_last q)
  elses_laid _ _ _ g.no_else = tail_none
  elses_laid _ _ _ (g.else_if {x} {xs} {q} {u} {v} t t' h h' r rs) =
      subst (λ p. Tail (Space ∷ print.keyword w.Else ∷ Space ∷ p)) (sym (append_assoc (of_branch x) (of_others xs) (of_last q)))
      (space_tail (worded (reserved_word w.Else) refl (solid_tail (branch_laid x u r) (elses_laid xs q v rs))))
  elses_laid _ _ _ (g.else_last {q} t h (rule.bracketed {u = v} t' t'' h' r h'')) = space_tail (word_tail (reserved_word w.Else) refl (block_tail (inner (H q v r))))

  if_laid : Laid Query (IsIf I) query Solid
  if_laid _ _ (g.«if» {x} {xs} {q} {u} {v} t h r rs) = subst Solid (sym (printed-If (x ∷ xs) q)) (solid_tail (branch_laid x u r) (elses_laid xs q v rs))

  pub query_laid : Laid Query (IsQuery I) query Solid
  query_laid _ _ (g.match_query {q} {u} r) = match_laid q u r
  query_laid _ _ (g.if_query {q} {u} r) = if_laid q u r
  query_laid _ _ (g.plain_query {q} {u} r) = plain_laid q u r

pub nested_laid : (n : ℕ) → Laid Query (Nested n) query Solid
nested_laid zero q u r = absurd r
nested_laid (suc n) q u r = query_laid (Nested n) (nested_laid n) q u r

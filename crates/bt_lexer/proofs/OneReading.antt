-- A text is read in one way.
use Rattle.std.proofs.Common.{◌≡◌, ◌≢◌, ℕ, ◌+◌, Bool, true, false, List, [], ◌∷◌, ◌++◌, length, refl, sym, subst, ap, ◌∙◌, ◌⊎◌, inl, inr, ⊎_elim, arith, Option, Some, None, Result, Ok, Err}
use Rattle.std.proofs.lemmas.Bool.Decides.{nat_tests}
use Rattle.std.proofs.lemmas.List.Folds.{list_all-append}
use Rattle.std.specs.List.{list_all}
use Rattle.bt_lexer.specs.declared.token.Kind.{Kind}
use Rattle.bt_lexer.specs.declared.token.Token.{Token}
use Rattle.bt_lexer.specs.declared.token.LexFault.{LexFault}
use Rattle.bt_lexer.specs.declared.token.LexFault.TheVariants.{Char, Text, Number}
use Rattle.bt_lexer.specs.Bytes.{quote, is_blank, is_in_line, begins}
use Rattle.bt_lexer.specs.Kinds.{kind_of}
use Rattle.bt_lexer.specs.Tokens.{IsToken, NoToken, IsGap, blank, comment, NoGap, is_dot, is_bad, before, Reads, at_end, gap, token, bad_number, bad_text, bad_char}
use Rattle.bt_lexer.specs.Lines.{HasTokens, HasFault, hardened}
use Rattle.bt_lexer.proofs.KindLemmas.{false_left, false_right, kind-other, kind-empty}

-- the first front is longer by c ∷ v
abbrev Longer : List ℕ → List ℕ → List ℕ → List ℕ → Type 0
Longer u r u' r' = (c : ℕ) × (v : List ℕ) × (u ≡ u' ++ c ∷ v) × (r' ≡ c ∷ (v ++ r))

abbrev Compared : List ℕ → List ℕ → List ℕ → List ℕ → Type 0
Compared u r u' r' = ((u ≡ u') × (r ≡ r')) ⊎ (Longer u r u' r' ⊎ Longer u' r' u r)

one_more : {c d : ℕ} → c ≡ d → (u u' r r' : List ℕ) → Compared u r u' r' → Compared (c ∷ u) r (d ∷ u') r'
one_more same u u' r r' (inl e) = inl (cc, e.1)
one_more same u u' r r' (inr (inl (x, v, e, f))) = inr (inl (x, v, cc, f))
one_more same u u' r r' (inr (inr (x, v, e, f))) = inr (inr (x, v, cc, f))

-- two fronts of one text
compare : (u u' r r' : List ℕ) → u ++ r ≡ u' ++ r' → Compared u r u' r'
compare [] [] r r' h = inl (refl, h)
compare [] (c ∷ u') r r' h = inr (inr (c, u', refl, h))
compare (c ∷ u) [] r r' h = inr (inl (c, u, refl, sym h))
compare (c ∷ u) (d ∷ u') r r' h =
    let same : c ≡ d = cc in
    let rest : u ++ r ≡ u' ++ r' = cc in
    one_more same u u' r r' (compare u u' r r' rest)

abbrev some_kind : Kind → Option Kind
some_kind k = Some k

no_longer : (j k : Kind) (u r u' r' : List ℕ) → IsToken j u r → IsToken k u' r' → Longer u r u' r' → ⊥
no_longer j k u r u' r' w w' (c, v, e, f) = let g = w'.longest c v r f in let h = subst (λ y. kind_of y ≡ Some j) e w.has in let x : None ≡ some_kind j = sym g ∙ h in cc

blank_is : (c : ℕ) → is_blank c ≡ true → (c ≡ 32) ⊎ ((c ≡ 9) ⊎ (c ≡ 13))
blank_is c h = grind (arith, nat_tests)

-- what begins with a blank or a comment is no token
pub blank_no_kind : (c : ℕ) (v : List ℕ) → is_blank c ≡ true → kind_of (c ∷ v) ≡ None
blank_no_kind c v h = ⊎_elim (λ e. ap (λ y. kind_of (y ∷ v)) e ∙ kind-other 32 v refl refl refl refl) (λ o. ⊎_elim (λ e. ap (λ y. kind_of (y ∷ v)) e ∙ kind-other 9 v refl refl refl refl) (λ e. ap (λ y. kind_of (y ∷ v)) e ∙ kind-other 13 v refl refl refl refl) o) (blank_is c h)

pub hash_no_kind : (v : List ℕ) → kind_of (35 ∷ v) ≡ None
hash_no_kind v = kind-other 35 v refl refl refl refl

no_empty : (k : Kind) (rest : List ℕ) → IsToken k [] rest → ⊥
no_empty k rest w = let h : None ≡ some_kind k = sym kind-empty ∙ w.has in cc

gap_no_token : (k : Kind) (u r u' r' : List ℕ) → IsGap u r → IsToken k u' r' → u ++ r ≡ u' ++ r' → ⊥
gap_no_token k u r [] r' g w e = no_empty k r' w
gap_no_token k _ _ (d ∷ u') r' (blank {rest} c h) w e =
    let same : c ≡ d = cc in
    let x : None ≡ some_kind k = sym (blank_no_kind d u' (subst (λ y. is_blank y ≡ true) same h)) ∙ w.has in cc
gap_no_token k _ _ (d ∷ u') r' (comment {u} {rest} h ends) w e =
    let same : 35 ≡ d = cc in
    let x : None ≡ some_kind k = sym (hash_no_kind u') ∙ subst (λ y. kind_of (y ∷ u') ≡ Some k) (sym same) w.has in cc

-- a run ends where a byte doesn't pass
pub run_ends : (p : ℕ → Bool) (u : List ℕ) (c : ℕ) (v : List ℕ) → p c ≡ false → list_all p (u ++ c ∷ v) ≡ false
run_ends p u c v h = list_all-append p u (c ∷ v) ∙ false_right (list_all p u) _ (false_left (p c) _ h)

-- of two gaps at one place neither is longer
gap_longer : (u r u' r' : List ℕ) → IsGap u r → IsGap u' r' → Longer u r u' r' → ⊥
gap_longer _ _ _ _ (blank {rest} c h) (blank {rest = rest'} c' h') (x, v, e, f) = let none : [] ≡ x ∷ v = cc in cc
gap_longer _ _ _ _ (blank {rest} c h) (comment {u} {rest = rest'} h' ends) (x, v, e, f) = longer_than_one c u x v e
  where
    longer_than_one : (c : ℕ) (u : List ℕ) (x : ℕ) (v : List ℕ) → c ∷ [] ≡ 35 ∷ (u ++ x ∷ v) → ⊥
    longer_than_one c [] x v e = let none : [] ≡ x ∷ v = cc in cc
    longer_than_one c (y ∷ u) x v e = let none : [] ≡ y ∷ (u ++ x ∷ v) = cc in cc
gap_longer _ _ _ _ (comment {u} {rest} h ends) (blank {rest = rest'} c h') (x, v, e, f) =
    let same : 35 ≡ c = cc in let t = subst (λ y. is_blank y ≡ true) (sym same) h' in cc
gap_longer _ _ _ _ (comment {u} {rest} h ends) (comment {u = u'} {rest = rest'} h' ends') (x, v, e, f) =
    let same : u ≡ u' ++ x ∷ v = cc in
    let stop = run_ends is_in_line u' x v (subst (λ y. begins is_in_line y ≡ false) f ends') in
    let go = subst (λ y. list_all is_in_line y ≡ true) same h in
    let t : true ≡ false = sym go ∙ stop in cc

same_gap : (u r u' r' : List ℕ) → IsGap u r → IsGap u' r' → u ++ r ≡ u' ++ r' → (u ≡ u') × (r ≡ r')
same_gap u r u' r' g g' e = ⊎_elim (λ x. x) (λ o. ⊎_elim (λ l. absurd (gap_longer u r u' r' g g' l)) (λ l. absurd (gap_longer u' r' u r g' g l)) o) (compare u u' r r' e)

same_word : (j k : Kind) (u r u' r' : List ℕ) → IsToken j u r → IsToken k u' r' → u ++ r ≡ u' ++ r' → (j ≡ k) × (u ≡ u') × (r ≡ r')
same_word j k u r u' r' w w' e = ⊎_elim
    (λ x. (let h = subst (λ y. kind_of y ≡ Some j) x.0 w.has in let s : some_kind j ≡ some_kind k = sym h ∙ w'.has in (cc, x.0, x.1)))
    (λ o. ⊎_elim (λ l. absurd (no_longer j k u r u' r' w w' l)) (λ l. absurd (no_longer k j u' r' u r w' w l)) o) (compare u u' r r' e)

gap_no_end : (u r : List ℕ) → IsGap u r → u ++ r ≡ [] → ⊥
gap_no_end _ _ (blank {rest} c h) e = cc
gap_no_end _ _ (comment {u} {rest} h ends) e = cc

token_no_end : (k : Kind) (u r : List ℕ) → IsToken k u r → u ++ r ≡ [] → ⊥
token_no_end k [] r w e = no_empty k r w
token_no_end k (c ∷ u) r w e = cc

gap_no_quote : (u r v : List ℕ) → IsGap u r → u ++ r ≡ quote ∷ v → ⊥
gap_no_quote _ _ v (blank {rest} c h) e = let same : c ≡ 34 = cc in let t = subst (λ y. is_blank y ≡ true) same h in cc
gap_no_quote _ _ v (comment {u} {rest} h ends) e = let same : ◌≡◌ {A = ℕ} 35 34 = cc in absurd (omega arith)

abbrev Outcome : Type 0
Outcome = Result (List Token) LexFault

end_case : (at : ℕ) (dot : Bool) (s : List ℕ) → (q : Outcome) → s ≡ [] → Reads at dot s q → Ok [] ≡ q
end_case at dot _ _ e at_end = refl
end_case at dot s _ e (gap u rest e' g more) = absurd (gap_no_end u rest g (sym e' ∙ e))
end_case at dot s _ e (token k u rest e' w good more) = absurd (token_no_end k u rest w (sym e' ∙ e))
end_case at dot s _ e (bad_number k u rest e' w bad) = absurd (token_no_end k u rest w (sym e' ∙ e))
end_case at dot s _ e (bad_text rest e' none) = let x : quote ∷ rest ≡ [] = sym e' ∙ e in cc
end_case at dot s _ e (bad_char c rest e' none no_gap other) = let x : c ∷ rest ≡ [] = sym e' ∙ e in cc

gap_case : (at : ℕ) (dot : Bool) (s : List ℕ) → (r q : Outcome) (u rest : List ℕ) → s ≡ u ++ rest → IsGap u rest → ((q : Outcome) → Reads (at + length u) false rest q → r ≡ q) → Reads at dot s q → r ≡ q
gap_case at dot _ r _ u rest e g ih at_end = absurd (gap_no_end u rest g (sym e))
gap_case at dot s r q u rest e g ih (gap u' rest' e' g' more) =
    let (same, same') = same_gap u rest u' rest' g g' (sym e ∙ e') in
    ih q (subst (λ y. Reads (at + length u) false y q) (sym same') (subst (λ y. Reads (at + length y) false rest' q) (sym same) more))
gap_case at dot s r _ u rest e g ih (token k u' rest' e' w good more) = absurd (gap_no_token k u rest u' rest' g w (sym e ∙ e'))
gap_case at dot s r _ u rest e g ih (bad_number k u' rest' e' w bad) = absurd (gap_no_token k u rest u' rest' g w (sym e ∙ e'))
gap_case at dot s r _ u rest e g ih (bad_text rest' e' none) = absurd (gap_no_quote u rest rest' g (sym e ∙ e'))
gap_case at dot s r _ u rest e g ih (bad_char c rest' e' none no_gap other) = absurd (no_gap u rest e g)

token_case : (at : ℕ) (dot : Bool) (s : List ℕ) → (r q : Outcome) (j : Kind) (u rest : List ℕ) → s ≡ u ++ rest → IsToken j u rest → is_bad j dot u rest ≡ false → ((q : Outcome) → Reads (at + length u) (is_dot j) rest q → r ≡ q) →
    Reads at dot s q → before (record { kind = j; from = at; to = at + length u }) r ≡ q
token_case at dot _ r _ j u rest e w good ih at_end = absurd (token_no_end j u rest w (sym e))
token_case at dot s r q j u rest e w good ih (gap u' rest' e' g more) = absurd (gap_no_token j u' rest' u rest g w (sym e' ∙ e))
token_case at dot s r _ j u rest e w good ih (token {r = q} k u' rest' e' w' good' more) =
    let (kind, same, same') = same_word j k u rest u' rest' w w' (sym e ∙ e') in
    let tail = ih q (subst (λ y. Reads (at + length u) (is_dot j) y q) (sym same') (subst (λ y. Reads (at + length y) (is_dot j) rest' q) (sym same) (subst (λ y. Reads (at + length u') (is_dot y) rest' q) (sym kind) more))) in
    rw (kind, same, tail) refl
token_case at dot s r _ j u rest e w good ih (bad_number k u' rest' e' w' bad) =
    let (kind, same, same') = same_word j k u rest u' rest' w w' (sym e ∙ e') in
    let x : false ≡ true = sym good ∙ (rw (kind, same, same') bad) in cc
token_case at dot s r _ j u rest e w good ih (bad_text rest' e' none) = absurd (none j u rest e w)
token_case at dot s r _ j u rest e w good ih (bad_char c rest' e' none no_gap other) = absurd (none j u rest e w)

number_case : (at : ℕ) (dot : Bool) (s : List ℕ) → (q : Outcome) (j : Kind) (u rest : List ℕ) → s ≡ u ++ rest → IsToken j u rest → is_bad j dot u rest ≡ true → Reads at dot s q → Err (Number at) ≡ q
number_case at dot _ _ j u rest e w bad at_end = absurd (token_no_end j u rest w (sym e))
number_case at dot s _ j u rest e w bad (gap u' rest' e' g more) = absurd (gap_no_token j u' rest' u rest g w (sym e' ∙ e))
number_case at dot s _ j u rest e w bad (token k u' rest' e' w' good more) =
    let (kind, same, same') = same_word j k u rest u' rest' w w' (sym e ∙ e') in
    let x : true ≡ false = sym bad ∙ (rw (kind, same, same') good) in cc
number_case at dot s _ j u rest e w bad (bad_number k u' rest' e' w' bad') = refl
number_case at dot s _ j u rest e w bad (bad_text rest' e' none) = absurd (none j u rest e w)
number_case at dot s _ j u rest e w bad (bad_char c rest' e' none no_gap other) = absurd (none j u rest e w)

text_case : (at : ℕ) (dot : Bool) (s : List ℕ) → (q : Outcome) (v : List ℕ) → s ≡ quote ∷ v → NoToken s → Reads at dot s q → Err (Text at) ≡ q
text_case at dot _ _ v e none at_end = cc
text_case at dot s _ v e none (gap u' rest' e' g more) = absurd (gap_no_quote u' rest' v g (sym e' ∙ e))
text_case at dot s _ v e none (token k u' rest' e' w' good more) = absurd (none k u' rest' e' w')
text_case at dot s _ v e none (bad_number k u' rest' e' w' bad) = absurd (none k u' rest' e' w')
text_case at dot s _ v e none (bad_text rest' e' none') = refl
text_case at dot s _ v e none (bad_char c rest' e' none' no_gap other) = let x : c ∷ rest' ≡ quote ∷ v = sym e' ∙ e in let y : c ≡ quote = cc in absurd (other y)

char_case : (at : ℕ) (dot : Bool) (s : List ℕ) → (q : Outcome) (c : ℕ) (v : List ℕ) → s ≡ c ∷ v → NoToken s → NoGap s → c ≢ quote → Reads at dot s q → Err (Char at) ≡ q
char_case at dot _ _ c v e none no_gap other at_end = cc
char_case at dot s _ c v e none no_gap other (gap u' rest' e' g more) = absurd (no_gap u' rest' e' g)
char_case at dot s _ c v e none no_gap other (token k u' rest' e' w' good more) = absurd (none k u' rest' e' w')
char_case at dot s _ c v e none no_gap other (bad_number k u' rest' e' w' bad) = absurd (none k u' rest' e' w')
char_case at dot s _ c v e none no_gap other (bad_text rest' e' none') = let x : c ∷ v ≡ quote ∷ rest' = sym e ∙ e' in let y : c ≡ quote = cc in absurd (other y)
char_case at dot s _ c v e none no_gap other (bad_char c' rest' e' none' no_gap' other') = refl

pub one_outcome : (at : ℕ) (dot : Bool) (s : List ℕ) (r q : Outcome) → Reads at dot s r → Reads at dot s q → r ≡ q
one_outcome at dot _ _ q at_end x = end_case at dot [] q refl x
one_outcome at dot s r q (gap u rest e g more) x = gap_case at dot s r q u rest e g (λ q x. one_outcome (at + length u) false rest r q more x) x
one_outcome at dot s _ q (token {r} k u rest e w good more) x = token_case at dot s r q k u rest e w good (λ q x. one_outcome (at + length u) (is_dot k) rest r q more x) x
one_outcome at dot s _ q (bad_number k u rest e w bad) x = number_case at dot s q k u rest e w bad x
one_outcome at dot s _ q (bad_text rest e none) x = text_case at dot s q rest e none x
one_outcome at dot s _ q (bad_char c rest e none no_gap other) x = char_case at dot s q c rest e none no_gap other x

pub one_list : (s : List ℕ) (ts us : List Token) → HasTokens s ts → HasTokens s us → ts ≡ us
one_list s ts us h k =
    let same = one_outcome 0 false s (Ok h.all) (Ok k.all) h.reads k.reads in
    let same_all : h.all ≡ k.all = cc in
    h.hard ∙ ap (hardened s None) same_all ∙ sym k.hard

pub one_fault : (s : List ℕ) (f g : LexFault) → HasFault s f → HasFault s g → f ≡ g
one_fault s f g h k =
    let same = one_outcome 0 false s (Err f) (Err g) h k in cc

pub never_both : (s : List ℕ) (ts : List Token) (f : LexFault) → HasTokens s ts → HasFault s f → ⊥
never_both s ts f h k =
    let same = one_outcome 0 false s (Ok h.all) (Err f) h.reads k in cc

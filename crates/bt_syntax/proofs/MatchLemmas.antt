-- Matches are read rightly.
use Rattle.std.proofs.Common.{◌≡◌, ℕ, suc, Bool, true, false, not, ◌||◌, List, [], ◌∷◌, ◌++◌, Option, Some, None, inl, inr, refl, sym, ap, ◌∙◌, subst, nat_lt}
use Rattle.bt_lexer.specs.declared.token.Kind.{Kind}
use Rattle.bt_lexer.specs.declared.token.Kind.TheVariants as kinds
use Rattle.bt_syntax.specs.declared.keywords.Keyword.TheVariants as w
use Rattle.bt_tree.specs.declared.tree.Query.{Query}
use Rattle.bt_tree.specs.declared.tree.Query.TheVariants as e
use Rattle.bt_tree.specs.declared.tree.Case.{Case}
use Rattle.bt_tree.specs.declared.tree.Case.TheVariants as case
use Rattle.bt_syntax.specs.Lexemes.{Lexeme, Lexemes}
use Rattle.bt_syntax.specs.Rules.{Separated, Behind, behind, Bracketed, Optional, absent, present}
use Rattle.bt_syntax.specs.Grammar as g
use Rattle.bt_syntax.specs.Grammar.{separates_cases, begins, IsReserved, IsPlain, IsCase, IsSubject, IsMatch, Nested}
use Rattle.bt_syntax.specs.Reading.{Reader, seq, mapped, starts}
use Rattle.bt_syntax.specs.Readers as r
use Rattle.bt_syntax.specs.Readers.{is, is_not, is_reserved}
use Rattle.bt_syntax.proofs.Lawful.{Stops, Lawful, Seq, Nil, Image, nothing, seq_lawful, map_lawful, same_lawful, pure_lawful}
use Rattle.bt_syntax.proofs.Branches.{Either, branch_lawful}
use Rattle.bt_syntax.proofs.Many.{Begins, begins_some}
use Rattle.bt_syntax.proofs.TokenLemmas.{is_kind, kind_is, word_is, sample, sample_word, sample_reserved, rank, below, Flat}
use Rattle.bt_syntax.proofs.Forms.{AfterWord, after_word_lawful, behind_lawful, bracketed_lawful}
use Rattle.bt_syntax.proofs.Lists.{or_false, separated_lawful}
use Rattle.bt_syntax.proofs.FirstTokens.{query_first, nested_begins, query_not_word, plain_first, plain_begins, bracketed_begins}
use Rattle.bt_syntax.proofs.LogicLemmas.{plain_lawful}

separates_flat : (kd : Kind) → separates_cases kd ≡ true → Flat kd
separates_flat kinds.Nl h = λ d. refl
separates_flat kinds.Comma h = λ d. refl
separates_flat _ h = absurd (cc)

separates_rank : (kd : Kind) → separates_cases kd ≡ true → nat_lt (rank kd) 9 ≡ false
separates_rank kinds.Nl h = refl
separates_rank kinds.Comma h = refl
separates_rank _ h = absurd (cc)

-- what goes on behind a case: what does behind its query, and a separator
abbrev cases_cont : Lexeme → Bool
cases_cont t = nat_lt (rank t.kind) 9 || separates_cases t.kind

-- what goes on behind the value that is matched, and where there is none: everything but `{`
subject_cont : Option Query → Lexeme → Bool
subject_cont None t = is_not kinds.LeftBrace t
subject_cont (Some q) t = nat_lt (rank t.kind) 9

pub stops_bracket : (c : Lexeme → Bool) (kd kd' : Kind) (A : Type 0) (R : A → Lexemes → Type 0) (a : A) (v rest : Lexemes) → Bracketed kd kd' A R a v → ((t : Lexeme) → t.kind ≡ kd → c t ≡ false) → Stops c (v ++ rest)
stops_bracket c kd kd' A R a v rest s ends = (let (t, v', e, h) = bracketed_begins kd kd' A R a v s in rw e (ends t h))

module _ {fuel n : ℕ} {inner : Reader Query} (N : Lawful Query fuel n 0 0 (below 9) Nested inner) where
  -- ---- case = ( "_" | query ) "=>" query

  abbrev AnyCase : ℕ → Case Query → Lexemes → Type 0
  AnyCase m = AfterWord w.Underscore (λ t. Image case.Any (Behind kinds.FatArrow Query (Nested m)))

  any_lawful : Lawful (Case Query) fuel n 0 0 (below 9) AnyCase (r.any_case inner)
  unfolding r.any_case
  any_lawful = after_word_lawful {S = λ m t. Image case.Any (Behind kinds.FatArrow Query (Nested m))} w.Underscore (λ t. map_lawful (below 9) case.Any (behind_lawful kinds.FatArrow (λ d. refl) N) (λ q t h. h))

  abbrev WhenCase : ℕ → Case Query → Lexemes → Type 0
  WhenCase m = Seq (Nested m) (λ p. Image (case.When p) (Behind kinds.FatArrow Query (Nested m)))

  when_lawful : Lawful (Case Query) fuel n 0 0 (below 9) WhenCase (r.when_case inner)
  unfolding r.when_case
  when_lawful = seq_lawful {S = λ m p. Image (case.When p) (Behind kinds.FatArrow Query (Nested m))} N (λ p. map_lawful (below 9) (case.When p) (behind_lawful kinds.FatArrow (λ d. refl) N) (λ q t h. h))
      follows
    where
      follows : (m : ℕ) (p : Query) (b : Case Query) (v rest : Lexemes) → Image (case.When p) (Behind kinds.FatArrow Query (Nested m)) b v → Stops (below 9 b) rest → Stops (below 9 p) (v ++ rest)
      follows m p b v rest (q, same, behind t h s) stops = rw h refl

  when_begins : (m : ℕ) (x : Case Query) (u : Lexemes) → WhenCase m x u → Begins query_first u
  when_begins m x w (p, u, v, e, s, s') = (let (t, u', e', h) = nested_begins m p u s in (t, u' ++ v, e ∙ ap (λ y. y ++ v) e', h))

  AnyOrWhen : ℕ → Case Query → Lexemes → Type 0
  AnyOrWhen m = Either (is_reserved w.Underscore) (AnyCase m) (WhenCase m)

  either_case_lawful : Lawful (Case Query) fuel n 0 0 (below 9) AnyOrWhen (r.one_case inner)
  unfolding r.one_case AnyOrWhen
  either_case_lawful = branch_lawful (is_reserved w.Underscore) any_lawful when_lawful
      (λ m x u (t, v, e, h, s) e'. (let e'' : t ∷ v ≡ [] = sym e ∙ e' in cc))
      (λ m x s t h. absurd (begins_some query_first [] (when_begins m x [] s) refl))
      (let (q, u, s) = N.inhabited in
      (case.Any q, sample_word w.Underscore ∷ sample kinds.FatArrow ∷ u, inl ((sample_word w.Underscore, sample kinds.FatArrow ∷ u, refl, sample_reserved w.Underscore, (q, refl, behind (sample kinds.FatArrow) refl s)), word_is w.Underscore (sample_word w.Underscore) (sample_reserved w.Underscore))))

  case_into : (m : ℕ) (x : Case Query) (u : Lexemes) → AnyOrWhen m x u → IsCase (Nested m) x u
  unfolding AnyOrWhen
  case_into m x u (inl ((t, v, e, h, (q, same, s)), _)) = rw e (rw same (any_made t q v h s))
    where
      any_made : (t : Lexeme) (q : Query) (v : Lexemes) → IsReserved w.Underscore t → Behind kinds.FatArrow Query (Nested m) q v → IsCase (Nested m) (case.Any q) (t ∷ v)
      any_made t _ _ h (behind {a = q} {u = v} arrow h' s) = g.any t arrow h h' s
  case_into m x w (inr ((p, u, v, e, s, (q, same, s')), _)) = rw e (rw same (when_made p q u v s s'))
    where
      when_made : (p q : Query) (u v : Lexemes) → Nested m p u → Behind kinds.FatArrow Query (Nested m) q v → IsCase (Nested m) (case.When p q) (u ++ v)
      when_made p _ u _ s (behind {a = q} {u = v} arrow h s') = g.when arrow s h s'

  case_from : (m : ℕ) (x : Case Query) (u : Lexemes) → IsCase (Nested m) x u → AnyOrWhen m x u
  unfolding AnyOrWhen
  case_from m _ _ (g.any {q} {u} t arrow h h' s) = inl ((t, arrow ∷ u, refl, h, (q, refl, behind arrow h' s)), word_is w.Underscore t h)
  case_from m _ _ (g.when {p} {q} {u} {v} arrow s h s') =
      (let (t, u', e, b) = nested_begins m p u s in
      inr ((p, u, arrow ∷ v, refl, s, (q, refl, behind arrow h s')), rw e (query_not_word w.Underscore refl refl refl t b)))

  one_case_lawful : Lawful (Case Query) fuel n 0 0 (below 9) (λ m. IsCase (Nested m)) (r.one_case inner)
  one_case_lawful = same_lawful either_case_lawful (λ m. IsCase (Nested m)) case_into case_from

  cases_lawful : Lawful (List (Case Query)) fuel n 0 0 (λ _. cases_cont) (λ m. Separated separates_cases (Case Query) (IsCase (Nested m))) (r.cases inner)
  unfolding r.cases
  cases_lawful = separated_lawful separates_cases cases_cont one_case_lawful separates_flat kinds.Comma refl
      (λ x t h. separates_rank t.kind h) (λ x t h. (or_false (nat_lt (rank t.kind) 9) (separates_cases t.kind) h).0) (λ t h. (or_false (nat_lt (rank t.kind) 9) (separates_cases t.kind) h).1)

  abbrev Cases : ℕ → List (Case Query) → Lexemes → Type 0
  Cases m = Bracketed kinds.LeftBrace kinds.RightBrace (List (Case Query)) (Separated separates_cases (Case Query) (IsCase (Nested m)))

  in_braces_lawful : Lawful (List (Case Query)) (suc fuel) n 0 0 nothing Cases (r.bracketed kinds.LeftBrace kinds.RightBrace (r.cases inner))
  in_braces_lawful = bracketed_lawful kinds.LeftBrace kinds.RightBrace cases_lawful refl refl refl (λ x t h. rw h refl)

  -- ---- [ plain ]

  abbrev SubjectParts : ℕ → Option Query → Lexemes → Type 0
  SubjectParts m = Either (is_not kinds.LeftBrace) (Image Some (IsPlain (Nested m))) (Nil None)

  subject_parts : Lawful (Option Query) (suc fuel) n 0 0 subject_cont SubjectParts (r.subject inner)
  unfolding r.subject subject_cont
  subject_parts = branch_lawful (is_not kinds.LeftBrace)
      (map_lawful subject_cont Some (plain_lawful N) (λ q t h. h))
      (pure_lawful (suc fuel) n 0 subject_cont None)
      (λ m x u (q, same, s). begins_some plain_first u (plain_begins (Nested m) q u s))
      (λ m x (same, _) t h. subst (λ y. subject_cont y t ≡ false) same h)
      (None, [], inr ((refl, refl), refl))

  not_begun : (u : Lexemes) → starts (is_not kinds.LeftBrace) u ≡ true → begins kinds.LeftBrace u → ⊥
  not_begun [] h b = b
  not_begun (t ∷ u) h b = (let h' : not (is kinds.LeftBrace t) ≡ not true = ap not (kind_is kinds.LeftBrace t b) in let e : false ≡ true = sym h' ∙ h in cc)

  begun_not : (t : Lexeme) (u v : Lexemes) → u ≡ t ∷ v → (begins kinds.LeftBrace u → ⊥) → starts (is_not kinds.LeftBrace) u ≡ true
  begun_not t u v e f = rw e (go (is kinds.LeftBrace t) refl)
    where
      go : (b : Bool) → is kinds.LeftBrace t ≡ b → not b ≡ true
      go true h = absurd (f (rw e (is_kind kinds.LeftBrace t h)))
      go false h = refl

  subject_into : (m : ℕ) (x : Option Query) (u : Lexemes) → SubjectParts m x u → Optional Query (IsSubject (Nested m)) x u
  subject_into m x u (inl ((q, same, s), b)) = rw same (present (record { reads = s; no_brace = not_begun u b }))
  subject_into m x u (inr ((same, e), b)) = rw same (rw e absent)

  subject_from : (m : ℕ) (x : Option Query) (u : Lexemes) → Optional Query (IsSubject (Nested m)) x u → SubjectParts m x u
  subject_from m _ _ absent = inr ((refl, refl), refl)
  subject_from m _ _ (present {a = q} {u} s) = (let (t, v, e, h) = plain_begins (Nested m) q u s.reads in inl ((q, refl, s.reads), begun_not t u v e s.no_brace))

  subject_lawful : Lawful (Option Query) (suc fuel) n 0 0 subject_cont (λ m. Optional Query (IsSubject (Nested m))) (r.subject inner)
  subject_lawful = same_lawful subject_parts (λ m. Optional Query (IsSubject (Nested m))) subject_into subject_from

  -- ---- match

  abbrev MatchTail : ℕ → Query → Lexemes → Type 0
  MatchTail m = Seq (Optional Query (IsSubject (Nested m))) (λ x. Image (e.Match x) (Cases m))

  match_tail_lawful : Lawful Query (suc fuel) n 0 0 (below 9) MatchTail (seq (r.subject inner) (λ x. mapped (e.Match x) (r.bracketed kinds.LeftBrace kinds.RightBrace (r.cases inner))))
  unfolding subject_cont
  match_tail_lawful = seq_lawful {S = λ m x. Image (e.Match x) (Cases m)} subject_lawful (λ x. map_lawful (below 9) (e.Match x) in_braces_lawful (λ a t h. refl)) follows
    where
      ends : (x : Option Query) (t : Lexeme) → t.kind ≡ kinds.LeftBrace → subject_cont x t ≡ false
      ends None t h = ap not (kind_is kinds.LeftBrace t h)
      ends (Some q) t h = rw h refl

      follows : (m : ℕ) (x : Option Query) (b : Query) (v rest : Lexemes) → Image (e.Match x) (Cases m) b v → Stops (below 9 b) rest → Stops (subject_cont x) (v ++ rest)
      follows m x b v rest (xs, same, s) stops = stops_bracket (subject_cont x) kinds.LeftBrace kinds.RightBrace _ _ xs v rest s (ends x)

  match_from : (m : ℕ) (q : Query) (u : Lexemes) → IsMatch (Nested m) q u → AfterWord w.Match (λ t. MatchTail m) q u
  match_from m _ _ (g.«match» {q} {xs} {u} {v} t h s s') = (t, u ++ v, refl, h, (q, u, v, refl, s, (xs, refl, s')))

  pub match_lawful : Lawful Query (suc fuel) n 0 0 (below 9) (λ m. IsMatch (Nested m)) (r.match_query inner)
  unfolding r.match_query
  match_lawful = same_lawful (after_word_lawful {S = λ m t. MatchTail m} w.Match (λ t. match_tail_lawful)) (λ m. IsMatch (Nested m))
      (λ m b w (t, v, e, h, (q, u, v', e', s, (xs, same, s'))). rw e (rw e' (rw same (g.«match» t h s s'))))
      match_from

-- Queries are read rightly, however deep their brackets nest.
use Rattle.std.proofs.Common.{◌≡◌, ℕ, zero, suc, true, false, [], ◌∷◌, ◌++◌, Some, ◌⊎◌, inl, inr, refl, ap, ◌∙◌}
use Rattle.bt_syntax.specs.declared.keywords.Keyword.{Keyword}
use Rattle.bt_syntax.specs.declared.keywords.Keyword.TheVariants as w
use Rattle.bt_tree.specs.declared.tree.Query.{Query}
use Rattle.bt_tree.specs.declared.tree.Query.TheVariants as e
use Rattle.bt_syntax.specs.Lexemes.{Lexeme, Lexemes, reserved}
use Rattle.bt_syntax.specs.Grammar as g
use Rattle.bt_syntax.specs.Grammar.{IsReserved, IsPlain, IsMatch, IsIf, IsQuery, Nested}
use Rattle.bt_syntax.specs.Reading.{Reader, Got, Deep, branch, starts}
use Rattle.bt_syntax.specs.Readers as r
use Rattle.bt_syntax.specs.Readers.{is_reserved, same_keyword}
use Rattle.bt_syntax.proofs.Lawful.{Stops, Lawful, same_lawful}
use Rattle.bt_syntax.proofs.Branches.{Either, either_some, branch_lawful}
use Rattle.bt_syntax.proofs.Many.{Begins, begins_some}
use Rattle.bt_syntax.proofs.TokenLemmas.{word_is, sample_word, below}
use Rattle.bt_syntax.proofs.FirstTokens.{plain_first, plain_begins, match_begins, if_begins, not_word}
use Rattle.bt_syntax.proofs.OperatorLemmas.{null_item}
use Rattle.bt_syntax.proofs.LogicLemmas.{plain_lawful, unary_logic}
use Rattle.bt_syntax.proofs.MatchLemmas.{match_lawful}
use Rattle.bt_syntax.proofs.IfLemmas.{if_lawful}

pub null_plain : (I : Query → Lexemes → Type 0) → IsPlain I e.Null (sample_word w.Null ∷ [])
null_plain I = g.logic (unary_logic I e.Null (sample_word w.Null ∷ []) (g.item_alone (null_item I)))

pub other_word : (v x : Keyword) → same_keyword v (Some x) ≡ false → (t : Lexeme) → IsReserved x t → is_reserved v t ≡ false
other_word v x h t s = ap (same_keyword v) s ∙ h

module _ {fuel n : ℕ} {inner : Reader Query} (N : Lawful Query fuel n 0 0 (below 9) Nested inner) where
  abbrev IfOrPlain : ℕ → Query → Lexemes → Type 0
  IfOrPlain m = Either (is_reserved w.If) (IsIf (Nested m)) (IsPlain (Nested m))

  abbrev AnyQuery : ℕ → Query → Lexemes → Type 0
  AnyQuery m = Either (is_reserved w.Match) (IsMatch (Nested m)) (IfOrPlain m)

  plain_some : (m : ℕ) (q : Query) (u : Lexemes) → IsPlain (Nested m) q u → u ≡ [] → ⊥
  plain_some m q u s = begins_some plain_first u (plain_begins (Nested m) q u s)

  if_or_plain_lawful : Lawful Query (suc fuel) n 0 0 (below 9) IfOrPlain (branch (is_reserved w.If) (r.if_query inner) (r.plain inner))
  unfolding reserved
  if_or_plain_lawful = branch_lawful (is_reserved w.If) (if_lawful N) (plain_lawful N)
      (λ m q u s. begins_some (is_reserved w.If) u (if_begins (Nested m) q u s))
      (λ m q s t h. absurd (plain_some m q [] s refl))
      (e.Null, sample_word w.Null ∷ [], inr (null_plain (Nested n), refl))

  any_query_lawful : Lawful Query (suc fuel) n 0 0 (below 9) AnyQuery (r.query_by inner)
  unfolding r.query_by reserved
  any_query_lawful = branch_lawful (is_reserved w.Match) (match_lawful N) if_or_plain_lawful
      (λ m q u s. begins_some (is_reserved w.Match) u (match_begins (Nested m) q u s))
      (λ m q s t h. absurd (either_some (is_reserved w.If) (IsIf (Nested m)) (IsPlain (Nested m)) q [] (plain_some m q []) s refl))
      (e.Null, sample_word w.Null ∷ [], inr (inr (null_plain (Nested n), refl), refl))

  query_into : (m : ℕ) (q : Query) (u : Lexemes) → AnyQuery m q u → IsQuery (Nested m) q u
  query_into m q u (inl (s, _)) = g.match_query s
  query_into m q u (inr (inl (s, _), _)) = g.if_query s
  query_into m q u (inr (inr (s, _), _)) = g.plain_query s

  starts_word : (v : Keyword) (u : Lexemes) → Begins (is_reserved v) u → starts (is_reserved v) u ≡ true
  starts_word v u (t, x, e, h) = rw e h

  query_from : (m : ℕ) (q : Query) (u : Lexemes) → IsQuery (Nested m) q u → AnyQuery m q u
  query_from m q u (g.match_query s) = inl (s, starts_word w.Match u (match_begins (Nested m) q u s))
  query_from m _ _ (g.if_query (g.«if» {x} {xs} {q} {u} {v} t h s s')) = inr (inl (g.«if» t h s s', word_is w.If t h), other_word w.Match w.If refl t h)
  query_from m q u (g.plain_query s) =
      (let (t, v, e, h) = plain_begins (Nested m) q u s in inr (inr (s, rw e (not_word w.If refl t h)), rw e (not_word w.Match refl t h)))

  pub query_by_lawful : Lawful Query (suc fuel) n 0 0 (below 9) (λ m. IsQuery (Nested m)) (r.query_by inner)
  query_by_lawful = same_lawful any_query_lawful (λ m. IsQuery (Nested m)) query_into query_from

-- A query of depth k is read as one whose brackets nest so deep and no deeper.
pub query_lawful : (k : ℕ) → Lawful Query k (suc k) 0 0 (below 9) Nested (r.query k)
unfolding r.query
query_lawful zero = record {
  got = λ ts a rest h. absurd (cc);
  all = λ m a u rest s stops. inr refl;
  stuck = λ ts rest h. absurd (cc);
  deep = λ ts h. record { u = []; rest = ts; whole = refl; deep = λ d. refl };
  inhabited = (e.Null, sample_word w.Null ∷ [], g.plain_query (null_plain (Nested zero)));
}
query_lawful (suc k) =
    let L = query_by_lawful (query_lawful k) in
    record {
      got = L.got;
      all = λ m a u rest s stops. all_at L.all m a u rest s stops;
      stuck = L.stuck;
      deep = L.deep;
      inhabited = L.inhabited;
    }
  where
    all_at : ((m : ℕ) (a : Query) (u rest : Lexemes) → IsQuery (Nested m) a u → Stops (below 9 a) rest → (r.query_by (r.query k) (u ++ rest) ≡ Got a rest) ⊎ (r.query_by (r.query k) (u ++ rest) ≡ Deep)) →
        (m : ℕ) (a : Query) (u rest : Lexemes) → Nested m a u → Stops (below 9 a) rest → (r.query_by (r.query k) (u ++ rest) ≡ Got a rest) ⊎ (r.query_by (r.query k) (u ++ rest) ≡ Deep)
    all_at f zero a u rest s stops = absurd s
    all_at f (suc m) a u rest s stops = f m a u rest s stops

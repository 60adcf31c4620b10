-- The loop over what stands behind a first condition and its block.
use Rattle.std.proofs.Common.{◌≡◌, ◌<◌, true, false, cond, List, [], ◌∷◌, ◌++◌, Some, None, length, Err, refl, sym, ap, ◌∙◌, append_assoc, append-nil}
use Rattle.bt_syntax.specs.declared.keywords.Keyword.TheVariants as w
use Rattle.bt_syntax.specs.declared.stop.Stop.{Stop}
use Rattle.bt_syntax.specs.declared.stop.Stop.TheVariants as stop
use Rattle.bt_tree.specs.declared.tree.Branch.{Branch}
use Rattle.bt_tree.specs.declared.tree.Query.{Query}
use Rattle.bt_tree.specs.declared.tree.Query.TheVariants as e
use Rattle.bt_syntax.specs.Lexemes.{Lexeme, Lexemes}
use Rattle.bt_syntax.specs.Reading.{Res, Got, Stuck, Deep, Reader, and_then, starts, map_res, go_on}
use Rattle.bt_syntax.specs.Readers.{Else, More, Last, has_more, branches_of, last_of, is_reserved, expect_reserved, block, if_tested, else_turn, elses}
use Rattle.bt_syntax.specs.Code.{Reads}
use Rattle.bt_syntax.proofs.Takes.{Takes}
use Rattle.bt_syntax.proofs.Turns.{many_turn}
use Rattle.bt_syntax.proofs.Progress.{else_turn_takes}

-- the branches that were read, and the turns that are still to come
abbrev pub if_from : List (Branch Query) → List Else → Query
if_from bs xs = e.If (bs ++ branches_of xs) (last_of xs)

from_more : (bs : List (Branch Query)) (b : Branch Query) (y : Res (List Else)) → map_res (if_from bs) (map_res (λ xs. More b ∷ xs) y) ≡ map_res (if_from (bs ++ b ∷ [])) y
from_more bs b (Got xs r) = ap (λ z. Got (e.If z (last_of xs)) r) (sym (append_assoc bs (b ∷ []) (branches_of xs)))
from_more bs b (Stuck r) = refl
from_more bs b Deep = refl

module _ (inner : Reader Query) (I : Takes Query inner) where
  turn : (ts : Lexemes) → elses inner ts ≡ cond (starts (is_reserved w.Else) ts) (and_then (else_turn inner ts) (λ a rest. go_on (has_more a) a (elses inner rest) rest)) (Got [] ts)
  unfolding elses
  turn ts = many_turn (is_reserved w.Else) has_more (else_turn inner) (else_turn_takes inner I) ts

  pub else_end : (bs : List (Branch Query)) (ts : Lexemes) (whole : Res Query) → map_res (if_from bs) (elses inner ts) ≡ whole → starts (is_reserved w.Else) ts ≡ false → whole ≡ Got (e.If bs None) ts
  else_end bs ts whole inv s = sym inv ∙ ap (map_res (if_from bs)) (turn ts) ∙ rw s (ap (λ z. Got (e.If z None) ts) (simp append-nil))

  module _ (bs : List (Branch Query)) (ts r : Lexemes) (t : Lexeme) (whole : Res Query) (inv : map_res (if_from bs) (elses inner ts) ≡ whole) (s : starts (is_reserved w.Else) ts ≡ true)
      (x : expect_reserved w.Else ts ≡ Got t r) where
    more_turn : starts (is_reserved w.If) r ≡ true → else_turn inner ts ≡ map_res More (if_tested inner r)
    unfolding else_turn
    more_turn i = rw x (rw i refl)

    last_turn : starts (is_reserved w.If) r ≡ false → else_turn inner ts ≡ map_res Last (block inner r)
    unfolding else_turn
    last_turn i = rw x (rw i refl)

    pub else_go : (b : Branch Query) (r' : Lexemes) → starts (is_reserved w.If) r ≡ true → if_tested inner r ≡ Got b r' → map_res (if_from (bs ++ b ∷ [])) (elses inner r') ≡ whole
    else_go b r' i g =
        let one : else_turn inner ts ≡ Got (More b) r' = more_turn i ∙ rw g refl in
        sym (ap (map_res (if_from bs)) (turn ts ∙ rw s (rw one refl)) ∙ from_more bs b (elses inner r')) ∙ inv

    pub else_err : (r' : Lexemes) (e : Stop) → starts (is_reserved w.If) r ≡ true → Reads (if_tested inner r) (Err e) r' → Reads whole (Err e) r'
    else_err r' stop.Stuck i g =
        let one : else_turn inner ts ≡ Stuck r' = more_turn i ∙ rw g refl in
        sym inv ∙ ap (map_res (if_from bs)) (turn ts) ∙ rw s (rw one refl)
    else_err r' stop.Deep i g =
        let one : else_turn inner ts ≡ Deep = more_turn i ∙ rw g refl in
        sym inv ∙ ap (map_res (if_from bs)) (turn ts) ∙ rw s (rw one refl)
    else_err r' stop.NoMemory i g = tt

    last_of_block : (y : Res Query) → map_res (if_from bs) (and_then (map_res Last y) (λ a rest. go_on (has_more a) a (elses inner rest) rest)) ≡ map_res (λ q. e.If bs (Some q)) y
    last_of_block (Got q r') = ap (λ z. Got (e.If z (Some q)) r') (simp append-nil)
    last_of_block (Stuck r') = refl
    last_of_block Deep = refl

    pub else_last : starts (is_reserved w.If) r ≡ false → whole ≡ map_res (λ q. e.If bs (Some q)) (block inner r)
    else_last i = sym inv ∙ ap (map_res (if_from bs)) (turn ts) ∙ rw s (rw (last_turn i) (last_of_block (block inner r)))

  pub else_less : (ts r r' : Lexemes) (t : Lexeme) (b : Branch Query) → expect_reserved w.Else ts ≡ Got t r → starts (is_reserved w.If) r ≡ true → if_tested inner r ≡ Got b r' → length r' < length ts
  unfolding else_turn
  else_less ts r r' t b x i g =
      let one : else_turn inner ts ≡ Got (More b) r' = rw x (rw i (rw g refl)) in
      (else_turn_takes inner I).less ts (More b) r' one

  pub no_else : (ts r : Lexemes) (bs : List (Branch Query)) (whole : Res Query) (e : Stop) → map_res (if_from bs) (elses inner ts) ≡ whole → starts (is_reserved w.Else) ts ≡ true →
      Reads (expect_reserved w.Else ts) (Err e) r → Reads whole (Err e) r
  unfolding else_turn
  no_else ts r bs whole stop.Stuck inv s g =
      let one : else_turn inner ts ≡ Stuck r = rw g refl in
      sym inv ∙ ap (map_res (if_from bs)) (turn ts) ∙ rw s (rw one refl)
  no_else ts r bs whole stop.Deep inv s g =
      let one : else_turn inner ts ≡ Deep = rw g refl in
      sym inv ∙ ap (map_res (if_from bs)) (turn ts) ∙ rw s (rw one refl)
  no_else ts r bs whole stop.NoMemory inv s g = tt

-- The lines of `blobl`, one turn after another.
use Rattle.std.proofs.Common.{◌≡◌, ℕ, ◌+◌, suc, List, [], ◌∷◌, ◌++◌, take, length, refl, ap, sym, ◌∙◌, arith, Bool, true, false, ◌||◌, Some, slice_get, append-nil, append_assoc, length-append}
use Rattle.bt_ports.specs.World.{Tale, StillTells}
use Rattle.bt_ports.specs.declared.outside.Source as Source
use Rattle.bt_commands.specs.View.{InputView}
use Rattle.bt_blobl.specs.Inside.{Going, GivenLines, NextLines, LinesHalted, Passed, SameLines, LineMapped, all_lines}
use Rattle.bt_blobl.specs.Meaning.{Task, outcome, printed_of, error_of, fails, blobl_text, blobl_errors, errors_from, some_fail}
use Rattle.bt_blobl.specs.declared.course.PassStop.{PassStop}
use Rattle.bt_blobl.specs.declared.course.PassStop.TheVariants as stops

-- one line more
text-more : (m : Task) (done : List (List ℕ)) (line : List ℕ) → blobl_text m (done ++ line ∷ []) ≡ blobl_text m done ++ printed_of (outcome m line)
text-more m [] line = append-nil (printed_of (outcome m line))
text-more m (l ∷ done) line = ap (λ (t : List ℕ). printed_of (outcome m l) ++ t) (text-more m done line) ∙ sym (append_assoc (printed_of (outcome m l)) (blobl_text m done) (printed_of (outcome m line)))

errors-more : (n : ℕ) (m : Task) (done : List (List ℕ)) (line : List ℕ) → errors_from n m (done ++ line ∷ []) ≡ errors_from n m done ++ error_of (length done + n) (outcome m line)
errors-more n m [] line = let none : n ≡ 0 + n = omega arith in append-nil (error_of n (outcome m line)) ∙ ap (λ (k : ℕ). error_of k (outcome m line)) none
errors-more n m (l ∷ done) line =
    let next : length done + suc n ≡ suc (length done) + n = omega arith in
    ap (λ (t : List (List ℕ)). error_of n (outcome m l) ++ t) (errors-more (suc n) m done line ∙ ap (λ (k : ℕ). errors_from (suc n) m done ++ error_of k (outcome m line)) next)
    ∙ sym (append_assoc (error_of n (outcome m l)) (errors_from (suc n) m done) (error_of (suc (length done) + n) (outcome m line)))

or-assoc : (a b c : Bool) → (a || (b || c)) ≡ ((a || b) || c)
or-assoc true b c = refl
or-assoc false b c = refl

or-false : (a : Bool) → (a || false) ≡ a
or-false true = refl
or-false false = refl

some-more : (m : Task) (done : List (List ℕ)) (line : List ℕ) → some_fail m (done ++ line ∷ []) ≡ (some_fail m done || fails (outcome m line))
some-more m [] line = or-false (fails (outcome m line))
some-more m (l ∷ done) line = ap (λ (b : Bool). fails (outcome m l) || b) (some-more m done line) ∙ or-assoc (fails (outcome m l)) (some_fail m done) (fails (outcome m line))

-- the first of some lines and the one behind them
first-more : (all done : List (List ℕ)) (line : List ℕ) → done ≡ take (length done) all → slice_get all (length done) ≡ Some line → done ++ line ∷ [] ≡ take (length (done ++ line ∷ [])) all
first-more [] [] line first at = cc
first-more [] (d ∷ done) line first at = cc
first-more (x ∷ all) [] line first at = let same : x ≡ line = cc in ap (λ (y : List ℕ). y ∷ []) (sym same)
first-more (x ∷ all) (d ∷ done) line first at =
    let same : d ≡ x = cc in
    let rest : done ≡ take (length done) all = cc in
    ap (λ (y : List ℕ). y ∷ (done ++ line ∷ [])) same ∙ ap (λ (ys : List (List ℕ)). x ∷ ys) (first-more all done line rest at)

-- two additions
pub joined : {A : Type 0} (a b c : List A) (x y : List A) → b ≡ a ++ (x ++ []) → c ≡ b ++ y → c ≡ a ++ (x ++ y)
joined a b c x y p q = q ∙ ap (λ (z : List _). z ++ y) (p ∙ ap (λ (z : List _). a ++ z) (append-nil x)) ∙ append_assoc a x y

gave-all : (stop : PassStop) (done : List (List ℕ)) (line : List ℕ) (before given : ℕ) (all : List (List ℕ)) → before ≡ length done → NextLines stop line before given all → GivenLines stop done line given all
gave-all stops.Ended done line before given all is gave = gave ∙ is
gave-all stops.ReadFault done line before given all is gave = gave ∙ is
gave-all (stops.LongLine n) done line before given all is gave = gave ∙ is
gave-all stops.Bound done line before given all is gave = gave ∙ is
gave-all stops.PrintFailed done line before given all is gave = ap (λ (n : ℕ). slice_get all n) (sym is) ∙ gave
gave-all stops.NoMemory done line before given all is gave = tt

module _ {S E I : Type 0} (gs : Source.Ghosts S) (m : Task) where
  -- no line was taken
  pub going-begins : (i : InputView S) (tells prints says : Bool) (a : Tale E I) → i.given ≡ 0 → Going gs m 0 false i tells prints says a a
  going-begins i tells prints says a none = record {
    done = [];
    whole = record { printed = λ t p. sym (append-nil a.printed); said = λ t p. sym (append-nil a.lines); failed = refl; first = λ t. refl };
    count = refl;
    given = λ t. none;
  }

  module _ (n : ℕ) (failed : Bool) (i j : InputView S) (tells tells' prints prints' says says' : Bool) (a b c : Tale E I)
      (still : StillTells tells tells' × StillTells prints prints' × StillTells says says') (going : Going gs m n failed i tells prints says a b) where
    -- one line more
    pub going-turned : (fault : Bool) → LineMapped gs m (n + 1) fault i j tells' prints' says' b c → SameLines gs i j → Going gs m (n + 1) (failed || fault) j tells' prints' says' a c
    going-turned fault turned lines =
        let was = going.whole in
        let done = going.done in
        let line = turned.line in
        let count = going.count in
        let more : length (done ++ line ∷ []) ≡ length done + 1 = length-append done (line ∷ []) in
        record {
          done = done ++ line ∷ [];
          whole =
              record {
                printed = λ t p.
                    joined a.printed b.printed c.printed (blobl_text m done) (printed_of (outcome m line)) (was.printed (still.0 t) (still.1 p)) (turned.tells_it.printed t p)
                    ∙ ap (λ (x : List ℕ). a.printed ++ x) (sym (text-more m done line) ∙ sym (append-nil (blobl_text m (done ++ line ∷ []))));
                said = λ t p.
                    joined a.lines b.lines c.lines (blobl_errors m done) (error_of (n + 1) (outcome m line)) (was.said (still.0 t) (still.2 p) ∙ ap (λ (x : List (List ℕ)). a.lines ++ x) (sym (append-nil (blobl_errors m done)))) (turned.tells_it.said t p)
                    ∙ ap (λ (x : List (List ℕ)). a.lines ++ x) (ap (λ (k : ℕ). blobl_errors m done ++ error_of (k + 1) (outcome m line)) (sym count) ∙ sym (errors-more 1 m done line));
                failed = ap (λ (x : Bool). x || fault) was.failed ∙ ap (λ (x : Bool). some_fail m done || x) turned.fault_is ∙ sym (some-more m done line);
                first = λ t.
                    let same = lines t in
                    first-more (all_lines gs j) done line (was.first same.0 ∙ ap (take (length done)) (sym same.1)) (ap (slice_get (all_lines gs j)) (count ∙ sym (going.given same.0)) ∙ (turned.given t).1);
              };
          count = more ∙ ap (λ (k : ℕ). k + 1) count;
          given = λ t. let same = lines t in (turned.given t).0 ∙ ap (λ (k : ℕ). k + 1) (going.given same.0);
        }

    -- and no more
    pub passed-halted : (stop : PassStop) → LinesHalted gs m stop i j tells' prints' says' b c → SameLines gs i j → Passed gs m (record { stop = stop; failed = failed }) j tells' prints' says' a c
    passed-halted stop halted lines =
        let was = going.whole in
        let done = going.done in
        record {
          done = done;
          line = halted.line;
          prefix = halted.breaks.prefix;
          whole =
              record {
                printed = λ t p. joined a.printed b.printed c.printed (blobl_text m done) halted.breaks.prefix (was.printed (still.0 t) (still.1 p)) (halted.breaks.printed t p);
                said = λ t p. halted.breaks.said t p ∙ was.said (still.0 t) (still.2 p);
                failed = was.failed;
                first = λ t. let same = lines t in was.first same.0 ∙ ap (take (length done)) (sym same.1);
              };
          prefix_is = halted.breaks.prefix_is;
          gave = λ t. let same = lines t in gave-all stop done halted.line _ _ _ (going.given same.0 ∙ sym going.count) (halted.gave t);
          answer = halted.answer;
        }

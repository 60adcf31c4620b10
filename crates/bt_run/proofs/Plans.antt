-- Calls of a plan, one behind the other.
use Rattle.std.proofs.Common.{◌≡◌, ℕ, zero, suc, ◌+◌, ◌≤◌, IsTrue, List, [], ◌∷◌, ◌++◌, length, map, take, drop, Option, Some, slice_get, Ok, Err, refl, sym, ap, subst, ◌∙◌, inl, inr, arith, append_assoc, append-nil, length-append}
use Rattle.bt_ports.specs.World.{Tale, once_more}
use Rattle.bt_ports.specs.Contents.{Contents}
use Rattle.bt_ports.specs.declared.parts.Asked.{Asked}
use Rattle.bt_ports.specs.declared.parts.Ends.{Ends}
use Rattle.bt_ports.specs.declared.parts.Named.{Named}
use Rattle.bt_ports.specs.declared.world.World as World
use Rattle.bt_commands.specs.Calls.{failed}
use Rattle.bt_commands.specs.Lines.{failure_line, no_memory_line}
use Rattle.bt_commands.specs.Outside.{StillTold, SameCounts, SaysOnly}
use Rattle.bt_run.specs.Form.{HasBuiltForm, FormSays}
use Rattle.bt_run.specs.Inside.{Asks, HaltTells, halt_lines_at, MakesCall, Reached, Halted, Starts}
use Rattle.bt_run.specs.Plan.{plan, IsPart}
use Rattle.bt_run.specs.Promise.{HaltCounts}
use Rattle.bt_run.specs.Report.{halt_lines}
use Rattle.bt_run.specs.declared.halt.Halt.{Halt}
use Rattle.bt_run.specs.declared.halt.Halt.TheVariants as halt

pub take-get : {A : Type 0} (xs : List A) (n : ℕ) (x : A) → slice_get xs n ≡ Some x → take (suc n) xs ≡ take n xs ++ x ∷ []
take-get [] n x e = cc
take-get (y ∷ ys) zero x e = let same : y ≡ x = cc in ap (λ z. z ∷ []) same
take-get (y ∷ ys) (suc n) x e = ap (λ zs. y ∷ zs) (take-get ys n x e)

pub drop-get : {A : Type 0} (xs : List A) (n : ℕ) (x : A) → slice_get xs n ≡ Some x → take 1 (drop n xs) ≡ x ∷ []
drop-get [] n x e = cc
drop-get (y ∷ ys) zero x e = let same : y ≡ x = cc in ap (λ z. z ∷ []) same
drop-get (y ∷ ys) (suc n) x e = drop-get ys n x e

-- a count that rose since a later moment rose since an earlier one
halt-counts : (h : Halt) (f f' f'' o o' o'' : ℕ) → f ≤ f' → o ≤ o' → HaltCounts h f' f'' o' o'' → HaltCounts h f f'' o o''
halt-counts (halt.Failed zero) f f' f'' o o' o'' p q r = omega (arith, p, r)
halt-counts (halt.Failed (suc k)) f f' f'' o o' o'' p q r = omega (arith, q, r)
halt-counts (halt.Config u) f f' f'' o o' o'' p q r = tt
halt-counts halt.NoMemory f f' f'' o o' o'' p q r = tt

halted-of : {E I : Type 0} (calls : List Asked) (h : Halt) (a d : Tale E I) (cs part : List Asked) (left : List ℕ) → d ≡ record a { calls = cs; stdin = left; lines = d.lines }
    → cs ≡ a.calls ++ part → IsPart (Err h) calls part → Halted calls h a d
halted-of {E} {I} calls h a d cs part left is made whole = record {
  part = part;
  made = ap (λ (t : Tale E I). t.calls) is ∙ made;
  whole = whole;
  only =
      let P : Tale E I → Type 0 = λ t. t ≡ record a { calls = t.calls; lines = t.lines; stdin = t.stdin; clock = t.clock; clocks = t.clocks } in
      subst P (sym is) refl;
  clocks = inl (ap (λ (t : Tale E I). t.clocks) is);
}

module _ {E I : Type 0} (calls : List Asked) (n : ℕ) (left : List ℕ) (a b d : Tale E I) (asks : Asks (take n calls) left a b) where
  -- one call more
  pub asks-then : (call : Asked) (rest : List ℕ) → slice_get calls n ≡ Some call → Asks (call ∷ []) rest b d → Asks (take (suc n) calls) rest a d
  asks-then call rest e p =
      p ∙ ap (λ (t : Tale E I). record t { calls = t.calls ++ call ∷ []; stdin = rest }) asks
      ∙ ap (λ (c : List Asked). record a { calls = c; stdin = rest }) (append_assoc a.calls (take n calls) (call ∷ []) ∙ ap (λ (c : List Asked). a.calls ++ c) (sym (take-get calls n call e)))

  -- the call at place n was the last
  pub halted : (call : Asked) (h : Halt) → slice_get calls n ≡ Some call → HaltTells n call h b d → Halted calls h a d
  halted call (halt.Failed k) e p =
      let P : ℕ → Type 0 = λ j. IsPart (Err (halt.Failed j)) calls (take n calls ++ failed call ∷ []) in
      halted-of calls (halt.Failed k) a d _ (take n calls ++ failed call ∷ []) left
      (p.1 ∙ ap (λ (t : Tale E I). record t { calls = t.calls ++ failed call ∷ []; lines = d.lines }) asks)
      (append_assoc a.calls (take n calls) (failed call ∷ [])) (subst P (sym p.0) (call, e, refl))
  halted call (halt.Config u) e p =
      let P : ℕ → Type 0 = λ j. take j calls ++ call ∷ [] ≡ take (suc j) calls in
      halted-of calls (halt.Config u) a d _ (take n calls ++ call ∷ []) left
      (p.1 ∙ ap (λ (t : Tale E I). record t { calls = t.calls ++ call ∷ []; lines = d.lines }) asks)
      (append_assoc a.calls (take n calls) (call ∷ [])) (sym (take-get calls n call e) ∙ ap (λ (j : ℕ). take (suc j) calls) p.0)
  halted call halt.NoMemory e (inl p) =
      halted-of calls halt.NoMemory a d _ (take n calls) left
      (p ∙ ap (λ (t : Tale E I). record t { lines = d.lines }) asks) refl (n, refl)
  halted call halt.NoMemory e (inr p) =
      halted-of calls halt.NoMemory a d _ (take n calls ++ call ∷ []) left
      (p ∙ ap (λ (t : Tale E I). record t { calls = t.calls ++ call ∷ []; lines = d.lines }) asks)
      (append_assoc a.calls (take n calls) (call ∷ [])) (suc n, sym (take-get calls n call e))

-- what is said of a call is what is said of the run that halted at it
halted-lines : {E I : Type 0} (calls : List Asked) (n : ℕ) (call : Asked) (h : Halt) (b d : Tale E I) → slice_get calls n ≡ Some call → HaltTells n call h b d
    → halt_lines_at call h ≡ halt_lines h calls
halted-lines calls n call (halt.Failed k) b d e p =
    let P : ℕ → Type 0 = λ j. failure_line call ∷ [] ≡ map failure_line (take 1 (drop j calls)) in
    subst P (sym p.0) (ap (map failure_line) (sym (drop-get calls n call e)))
halted-lines calls n call (halt.Config u) b d e p = refl
halted-lines calls n call halt.NoMemory b d e p = refl

-- a configuration that runs, where the run halted behind the reading
pub form-behind : {E I : Type 0} (n : ℕ) (call : Asked) (h : Halt) (b d : Tale E I) (file : Option (List ℕ)) → HaltTells (suc n) call h b d → HasBuiltForm file
    → FormSays (Err h) file
form-behind n call (halt.Failed k) b d file p form = let P : ℕ → Type 0 = λ j. FormSays (Err (halt.Failed j)) file in subst P (sym p.0) form
form-behind n call (halt.Config u) b d file p form = absurd (omega (arith, p.0))
form-behind n call halt.NoMemory b d file p form = tt

module _ {W S K A C : Type 0} (g : World.Ghosts W S K A C) (config : List ℕ) (answers : Option (List ℕ)) where
  abbrev Told : Type 0
  Told = Tale (Ends S K A C) (Contents (Named S))

  told-then : (a b d : W) → StillTold g a b → StillTold g b d → StillTold g a d
  told-then a b d p q = (λ t. p.0 (q.0 t), λ t. p.1 (q.1 t), λ t. p.2 (q.2 t))

  -- the first call of the plan
  pub reached-first : {T : Type 0} (x : T) (call : Asked) (left : List ℕ) (a b : W) → slice_get (plan config answers) 0 ≡ Some call → MakesCall g 0 call left (Ok x) a b → Reached g 1 (plan config answers) left a b
  reached-first x call left a b e m = record {
    told = m.told;
    counted = m.counted;
    tells = λ t. m.tells t ∙ ap (λ (c : List Asked). record (g.tale a) { calls = (g.tale a).calls ++ c; stdin = left }) (sym (take-get (plan config answers) 0 call e));
  }

  -- one call more
  pub reached-then : {T : Type 0} (n : ℕ) (x : T) (call : Asked) (left rest : List ℕ) (a b d : W) → slice_get (plan config answers) n ≡ Some call → Reached g n (plan config answers) left a b
      → MakesCall g n call rest (Ok x) b d → Reached g (suc n) (plan config answers) rest a d
  reached-then n x call left rest a b d e r m = record {
    told = told-then a b d r.told m.told;
    counted = (omega (arith, r.counted.0, m.counted.0), omega (arith, r.counted.1, m.counted.1), m.counted.2 ∙ r.counted.2);
    tells = λ t. asks-then (plan config answers) n left (g.tale a) (g.tale b) (g.tale d) (r.tells (m.told.0 t)) call rest e (m.tells t);
  }

  -- the run halted at its n-th call
  pub starts-halted : {T U : Type 0} (n : ℕ) (call : Asked) (left rest : List ℕ) (h : Halt) (a b d : W) → slice_get (plan config answers) n ≡ Some call → Reached g n (plan config answers) left a b
      → MakesCall {T = T} g n call rest (Err h) b d → (IsTrue (g.tells d) → FormSays (Err h) ((g.tale a).files config)) → Starts {T = U} g config answers (Err h) a d
  starts-halted n call left rest h a b d e r m form = record {
    told = told-then a b d r.told m.told;
    prints = m.counted.2 ∙ r.counted.2;
    counts = halt-counts h _ _ _ _ _ _ r.counted.0 r.counted.1 m.counts;
    tells = λ t. (halted (plan config answers) n left (g.tale a) (g.tale b) (g.tale d) (r.tells (m.told.0 t)) call h e (m.tells t), form t);
    lines = λ t s.
        m.lines t s ∙ ap (λ (l : List (List ℕ)). l ++ halt_lines_at call h) (ap (λ (u : Told). u.lines) (r.tells (m.told.0 t)))
        ∙ ap (λ (l : List (List ℕ)). (g.tale a).lines ++ l) (halted-lines (plan config answers) n call h (g.tale b) (g.tale d) e (m.tells t));
  }

  -- the run halted at its first call
  pub starts-unread : {T U : Type 0} (call : Asked) (left : List ℕ) (h : Halt) (a d : W) → slice_get (plan config answers) 0 ≡ Some call
      → MakesCall {T = T} g 0 call left (Err h) a d → (IsTrue (g.tells d) → FormSays (Err h) ((g.tale a).files config)) → Starts {T = U} g config answers (Err h) a d
  starts-unread call left h a d e m form =
      starts-halted 0 call (g.tale a).stdin left h a a d e
      (record {
        told = (λ t. t, λ t. t, λ t. t);
        counted = (omega arith, omega arith, refl);
        tells = λ t. ap (λ (c : List Asked). record (g.tale a) { calls = c; stdin = (g.tale a).stdin }) (sym (append-nil (g.tale a).calls));
      }) m form

  -- how many calls there are behind the first n
  pub reached-length : (n : ℕ) (left : List ℕ) (a b : W) → length (take n (plan config answers)) ≡ n → Reached g n (plan config answers) left a b → IsTrue (g.tells b) → length (g.tale b).calls ≡ length (g.tale a).calls + n
  reached-length n left a b e r t =
      ap (λ (u : Told). length u.calls) (r.tells t) ∙ length-append (g.tale a).calls (take n (plan config answers)) ∙ ap (λ (k : ℕ). length (g.tale a).calls + k) e

  -- a clock was taken behind the whole plan, and memory was wanting then
  pub starts-out_of_memory : {T : Type 0} (left : List ℕ) (h : Halt) (a b d e : W) → h ≡ halt.NoMemory → Reached g 4 (plan config answers) left a b → StillTold g b d → SameCounts g b d
      → (IsTrue (g.tells d) → g.tale d ≡ record (g.tale b) { clocks = once_more (g.tale b).clocks; clock = [] }) → SaysOnly g (no_memory_line ∷ []) d e → Starts {T = T} g config answers (Err h) a e
  starts-out_of_memory {T} left h a b d e is r told counts takes says = let P : Halt → Type 0 = λ k. Starts {T = T} g config answers (Err k) a e in subst P (sym is) (record {
    told = told-then a d e (told-then a b d r.told told) says.told;
    prints = says.counts.2 ∙ counts.2 ∙ r.counted.2;
    counts = tt;
    tells = λ t.
        let t1 = says.told.0 t in
        let t0 = told.0 t1 in
        let all : g.tale e ≡ record (g.tale a) { calls = (g.tale a).calls ++ plan config answers; stdin = left; clocks = once_more (g.tale a).clocks; clock = []; lines = (g.tale e).lines } =
        says.only t ∙ ap (λ (u : Told). record u { lines = (g.tale e).lines }) (takes t1 ∙ ap (λ (u : Told). record u { clocks = once_more u.clocks; clock = [] }) (r.tells t0))
        in
        let P : Told → Type 0 = λ u. u ≡ record (g.tale a) { calls = u.calls; lines = u.lines; stdin = u.stdin; clock = u.clock; clocks = u.clocks } in (
          record { part = plan config answers; made = ap (λ (u : Told). u.calls) all; whole = (4, refl); only = subst P (sym all) refl; clocks = inr (ap (λ (u : Told). u.clocks) all) },
          tt,
        );
    lines = λ t s.
        let t1 = says.told.0 t in
        let t0 = told.0 t1 in
        says.said s ∙ ap (λ (l : List (List ℕ)). l ++ no_memory_line ∷ []) (ap (λ (u : Told). u.lines) (takes t1) ∙ ap (λ (u : Told). u.lines) (r.tells t0));
  })

  -- a clock was taken behind the whole plan
  pub starts-ready : {T : Type 0} (x : T) (left : List ℕ) (a b d : W) → Reached g 4 (plan config answers) left a b → StillTold g b d → SameCounts g b d
      → (IsTrue (g.tells d) → g.tale d ≡ record (g.tale b) { clocks = once_more (g.tale b).clocks; clock = [] }) → Starts g config answers (Ok x) a d
  starts-ready x left a b d r told counts takes = record {
    told = told-then a b d r.told told;
    prints = counts.2 ∙ r.counted.2;
    counts = tt;
    tells = λ t. tt;
    lines = λ t s. ap (λ (u : Told). u.lines) (takes t) ∙ ap (λ (u : Told). u.lines) (r.tells (told.0 t)) ∙ sym (append-nil (g.tale a).lines);
  }

-- Openings one behind the other.
use Rattle.std.proofs.Common.{◌≡◌, ℕ, zero, suc, ◌+◌, ◌≤◌, Bool, IsTrue, List, [], ◌∷◌, ◌++◌, length, take, slice_get, arith, refl, sym, ap, ◌∙◌, subst, Some, Ok, Err, append_assoc}
use Rattle.std.proofs.lemmas.List.{append-nil}
use Rattle.bt_commands.specs.Calls.{failed}
use Rattle.bt_commands.specs.Lines.{failure_line, no_memory_line}
use Rattle.bt_commands.specs.Outside.{SaysOnly, StillTold}
use Rattle.bt_openings.specs.Openings.{AllMade, FailedAt, Opens, RoseWhere, StoppedAt, WantedAt}
use Rattle.bt_openings.specs.declared.stop.Stop.{Stop}
use Rattle.bt_openings.specs.declared.stop.Stop.TheVariants as stop
use Rattle.bt_ports.specs.Faults.{Rose}
use Rattle.bt_ports.specs.Contents.{Contents}
use Rattle.bt_ports.specs.World.{Tale}
use Rattle.bt_ports.specs.declared.parts.Ends.{Ends}
use Rattle.bt_ports.specs.declared.parts.Named.{Named}
use Rattle.bt_ports.specs.declared.parts.Asked.{Asked}
use Rattle.bt_ports.specs.declared.world.World as World

-- places of two lists of calls, one behind the other
got_right : (xs ys : List Asked) (k : ℕ) → slice_get (xs ++ ys) (length xs + k) ≡ slice_get ys k
got_right [] ys k = ap (slice_get ys) (omega arith)
got_right (x ∷ xs) ys k = let e : length (x ∷ xs) + k ≡ suc (length xs + k) = omega arith in ap (slice_get (x ∷ (xs ++ ys))) e ∙ got_right xs ys k

take_right : (xs ys : List Asked) (k : ℕ) → take (length xs + k) (xs ++ ys) ≡ xs ++ take k ys
take_right [] ys k = ap (λ n. take n ys) (omega arith)
take_right (x ∷ xs) ys k = let e : length (x ∷ xs) + k ≡ suc (length xs + k) = omega arith in ap (λ n. take n (x ∷ (xs ++ ys))) e ∙ ap (λ zs. x ∷ zs) (take_right xs ys k)

length_both : (xs ys : List Asked) → length (xs ++ ys) ≡ length xs + length ys
length_both [] ys = omega arith
length_both (x ∷ xs) ys = let e = length_both xs ys in omega arith

take_left : (xs ys : List Asked) (k : ℕ) → k ≤ length xs → take k (xs ++ ys) ≡ take k xs
take_left xs ys zero h = refl
take_left [] ys (suc k) h = absurd (omega arith)
take_left (x ∷ xs) ys (suc k) h = ap (λ zs. x ∷ zs) (take_left xs ys k (omega arith))

got_left : (xs ys : List Asked) (k : ℕ) (c : Asked) → slice_get xs k ≡ Some c → (slice_get (xs ++ ys) k ≡ Some c) × (k ≤ length xs)
got_left [] ys k c e = cc
got_left (x ∷ xs) ys zero c e = (e, omega arith)
got_left (x ∷ xs) ys (suc k) c e = let r = got_left xs ys k c e in (r.0, let h = r.1 in omega arith)

module _ {E I : Type 0} where
  -- what changed of a tale, after calls that were all made
  only_then : (a b c : Tale E I) (xs p : List Asked) → AllMade xs a b → c ≡ record b { calls = b.calls ++ p; stdin = c.stdin; lines = c.lines } → c ≡ record a { calls = a.calls ++ (xs ++ p); stdin = c.stdin; lines = c.lines }
  only_then a b c xs p e f = f ∙ (ap (λ (u : Tale E I). record u { calls = u.calls ++ p; stdin = c.stdin; lines = c.lines }) e ∙ ap (λ cs. record a { calls = cs; stdin = c.stdin; lines = c.lines }) (append_assoc a.calls xs p))

  made_then : (a b c : Tale E I) (xs ys : List Asked) → AllMade xs a b → AllMade ys b c → AllMade (xs ++ ys) a c
  made_then a b c xs ys e f = f ∙ (ap (λ (u : Tale E I). record u { calls = u.calls ++ ys; stdin = c.stdin }) e ∙ ap (λ cs. record a { calls = cs; stdin = c.stdin }) (append_assoc a.calls xs ys))

  lines_same : (a b : Tale E I) (xs : List Asked) → AllMade xs a b → b.lines ≡ a.lines
  lines_same a b xs e = ap (λ u. u.lines) e

  failed_then : (a b c : Tale E I) (l : Bool) (xs ys : List Asked) → AllMade xs a b → FailedAt ys l b c → FailedAt (xs ++ ys) l a c
  failed_then a b c l xs ys e f = record {
    place = length xs + f.place;
    call = f.call;
    there = got_right xs ys f.place ∙ f.there;
    only = only_then a b c xs (take f.place ys ++ failed f.call ∷ []) e f.only
        ∙ ap (λ cs. record a { calls = a.calls ++ cs; stdin = c.stdin; lines = c.lines }) (sym (append_assoc xs (take f.place ys) (failed f.call ∷ [])) ∙ ap (λ cs. cs ++ failed f.call ∷ []) (sym (take_right xs ys f.place)));
    said = λ t. f.said t ∙ ap (λ ls. ls ++ failure_line f.call ∷ []) (lines_same a b xs e);
  }

  wanted_then : (a b c : Tale E I) (l : Bool) (xs ys : List Asked) → AllMade xs a b → WantedAt ys l b c → WantedAt (xs ++ ys) l a c
  wanted_then a b c l xs ys e f = record {
    place = length xs + f.place;
    within = let h = length_both xs ys in let k = f.within in omega arith;
    only = only_then a b c xs (take f.place ys) e f.only ∙ ap (λ cs. record a { calls = a.calls ++ cs; stdin = c.stdin; lines = c.lines }) (sym (take_right xs ys f.place));
    said = λ t. f.said t ∙ ap (λ ls. ls ++ no_memory_line ∷ []) (lines_same a b xs e);
  }

  failed_early : (a b : Tale E I) (l : Bool) (xs ys : List Asked) → FailedAt xs l a b → FailedAt (xs ++ ys) l a b
  failed_early a b l xs ys f =
      let g = got_left xs ys f.place f.call f.there in
      record {
        place = f.place;
        call = f.call;
        there = g.0;
        only = f.only ∙ ap (λ cs. record a { calls = a.calls ++ (cs ++ failed f.call ∷ []); stdin = b.stdin; lines = b.lines }) (sym (take_left xs ys f.place g.1));
        said = f.said;
      }

  wanted_early : (a b : Tale E I) (l : Bool) (xs ys : List Asked) → WantedAt xs l a b → WantedAt (xs ++ ys) l a b
  wanted_early a b l xs ys f = record {
    place = f.place;
    within = let h = length_both xs ys in let k = f.within in omega arith;
    only = f.only ∙ ap (λ cs. record a { calls = a.calls ++ cs; stdin = b.stdin; lines = b.lines }) (sym (take_left xs ys f.place f.within));
    said = f.said;
  }

  stopped_then : (s : Stop) (a b c : Tale E I) (l : Bool) (xs ys : List Asked) → AllMade xs a b → StoppedAt s ys l b c → StoppedAt s (xs ++ ys) l a c
  stopped_then stop.Failed a b c l xs ys e f = failed_then a b c l xs ys e f
  stopped_then stop.NoMemory a b c l xs ys e f = wanted_then a b c l xs ys e f

  stopped_early : (s : Stop) (a b : Tale E I) (l : Bool) (xs ys : List Asked) → StoppedAt s xs l a b → StoppedAt s (xs ++ ys) l a b
  stopped_early stop.Failed a b l xs ys f = failed_early a b l xs ys f
  stopped_early stop.NoMemory a b l xs ys f = wanted_early a b l xs ys f

  none_made : (a : Tale E I) → AllMade [] a a
  none_made a = ap (λ cs. record a { calls = cs }) (sym (append-nil a.calls))

  -- only a line was said
  pub said_only : (a b : Tale E I) → b ≡ record a { lines = b.lines } → b ≡ record a { calls = a.calls ++ []; stdin = b.stdin; lines = b.lines }
  said_only a b e = e ∙ (ap (λ cs. record a { calls = cs; lines = b.lines }) (sym (append-nil a.calls)) ∙ ap (λ z. record a { calls = a.calls ++ []; stdin = z; lines = b.lines }) (sym (ap (λ u. u.stdin) e)))

  -- calls were made, and then only a line was said
  said_then : (a b c : Tale E I) (p : List Asked) → b ≡ record a { calls = a.calls ++ p } → c ≡ record b { lines = c.lines } → c ≡ record a { calls = a.calls ++ p; stdin = c.stdin; lines = c.lines }
  said_then a b c p e f =
      let g = f ∙ ap (λ (u : Tale E I). record u { lines = c.lines }) e in
      g ∙ ap (λ z. record a { calls = a.calls ++ p; stdin = z; lines = c.lines }) (sym (ap (λ u. u.stdin) g))

rose_later : (s : Stop) (T U : Type 0) (a b c : ℕ) → a ≤ b → RoseWhere {T = T} (Err s) b c → RoseWhere {T = U} (Err s) a c
rose_later stop.Failed T U a b c h r = omega arith
rose_later stop.NoMemory T U a b c h r = tt

rose_same : (s : Stop) (T U : Type 0) (a b : ℕ) → RoseWhere {T = T} (Err s) a b → RoseWhere {T = U} (Err s) a b
rose_same stop.Failed T U a b r = r
rose_same stop.NoMemory T U a b r = tt

module _ {W S K A C : Type 0} (g : World.Ghosts W S K A C) where
  still_then : (a b c : W) → StillTold g a b → StillTold g b c → StillTold g a c
  still_then a b c p q = (λ t. p.0 (q.0 t), λ t. p.1 (q.1 t), λ t. p.2 (q.2 t))

  -- calls that were all made, and then further ones that were
  pub opens_then : {T U V : Type 0} (xs ys : List Asked) (x : T) (y : U) (z : V) (a b c : W) → Opens g xs (Ok x) a b → Opens g ys (Ok y) b c → Opens g (xs ++ ys) (Ok z) a c
  opens_then xs ys x y z a b c p q = record {
    told = still_then a b c p.told q.told;
    files = q.files ∙ p.files;
    prints = q.prints ∙ p.prints;
    counted = let h = p.counted in let k = q.counted in omega arith;
    rose = tt;
    tells = λ t. made_then (g.tale a) (g.tale b) (g.tale c) xs ys (p.tells (q.told.0 t)) (q.tells t);
  }

  -- and then further ones that stopped
  pub opens_stopped : {T U V : Type 0} (xs ys : List Asked) (x : T) (s : Stop) (a b c : W) → Opens g xs (Ok x) a b → Opens {T = U} g ys (Err s) b c → Opens {T = V} g (xs ++ ys) (Err s) a c
  opens_stopped {T} {U} {V} xs ys x s a b c p q = record {
    told = still_then a b c p.told q.told;
    files = q.files ∙ p.files;
    prints = q.prints ∙ p.prints;
    counted = let h = p.counted in let k = q.counted in omega arith;
    rose = rose_later s U V (g.open_faults a) (g.open_faults b) (g.open_faults c) p.counted q.rose;
    tells = λ t. stopped_then s (g.tale a) (g.tale b) (g.tale c) (g.tells_lines c) xs ys (p.tells (q.told.0 t)) (q.tells t);
  }

  -- calls that stopped, before further ones
  pub opens_early : {T V : Type 0} (xs ys : List Asked) (s : Stop) (a b : W) → Opens {T = T} g xs (Err s) a b → Opens {T = V} g (xs ++ ys) (Err s) a b
  opens_early {T} {V} xs ys s a b p = record {
    told = p.told;
    files = p.files;
    prints = p.prints;
    counted = p.counted;
    rose = rose_same s T V (g.open_faults a) (g.open_faults b) p.rose;
    tells = λ t. stopped_early s (g.tale a) (g.tale b) (g.tells_lines b) xs ys (p.tells t);
  }

  -- what was to be opened says nothing where the calls stopped
  pub opens_as : {T V : Type 0} (calls : List Asked) (s : Stop) (a b : W) → Opens {T = T} g calls (Err s) a b → Opens {T = V} g calls (Err s) a b
  opens_as {T} {V} calls s a b p = record {
    told = p.told;
    files = p.files;
    prints = p.prints;
    counted = p.counted;
    rose = rose_same s T V (g.open_faults a) (g.open_faults b) p.rose;
    tells = λ t. p.tells t;
  }

  pub opens_made : {T V : Type 0} (calls : List Asked) (x : T) (y : V) (a b : W) → Opens g calls (Ok x) a b → Opens g calls (Ok y) a b
  opens_made calls x y a b p = record { told = p.told; files = p.files; prints = p.prints; counted = p.counted; rose = tt; tells = λ t. p.tells t }

  -- no call
  pub opens_none : {T : Type 0} (x : T) (a : W) → Opens g [] (Ok x) a a
  opens_none x a = record {
    told = (λ t. t, λ t. t, λ t. t);
    files = refl;
    prints = refl;
    counted = omega arith;
    rose = tt;
    tells = λ t. none_made (g.tale a);
  }

  -- a call failed, and a line said so
  pub opens_failed : {T : Type 0} (call : Asked) (a b c : W) → StillTold g a b → g.file_faults b ≡ g.file_faults a → g.print_faults b ≡ g.print_faults a → g.open_faults a ≤ g.open_faults b → Rose (g.open_faults a) (g.open_faults b)
      → (IsTrue (g.tells b) → g.tale b ≡ record (g.tale a) { calls = (g.tale a).calls ++ failed call ∷ [] }) → SaysOnly g (failure_line call ∷ []) b c → Opens {T = T} g (call ∷ []) (Err stop.Failed) a c
  opens_failed {T} call a b c told files prints more rose made p = record {
    told = still_then a b c told p.told;
    files = p.counts.0 ∙ files;
    prints = p.counts.2 ∙ prints;
    counted = let h = p.counts.1 in omega arith;
    rose = let h = p.counts.1 in let k = rose in omega arith;
    tells = λ t. (let u = p.told.0 t in record {
      place = 0;
      call = call;
      there = refl;
      only = said_then (g.tale a) (g.tale b) (g.tale c) (failed call ∷ []) (made u) (p.only t);
      said = λ l. p.said l ∙ ap (λ ls. ls ++ failure_line call ∷ []) (ap (λ v. v.lines) (made u));
    });
  }

  -- memory was wanting before any of the calls
  pub opens_wanted : {T : Type 0} (calls : List Asked) (s : Stop) (a b c : W) → s ≡ stop.NoMemory → StillTold g a b → g.file_faults b ≡ g.file_faults a → g.print_faults b ≡ g.print_faults a → g.open_faults a ≤ g.open_faults b
      → (IsTrue (g.tells b) → g.tale b ≡ g.tale a) → SaysOnly g (no_memory_line ∷ []) b c → Opens {T = T} g calls (Err s) a c
  opens_wanted {T} calls s a b c e told files prints more same p = subst (λ (x : Stop). Opens {T = T} g calls (Err x) a c) (sym e) (record {
    told = still_then a b c told p.told;
    files = p.counts.0 ∙ files;
    prints = p.counts.2 ∙ prints;
    counted = let h = p.counts.1 in omega arith;
    rose = tt;
    tells = λ t. (let u = same (p.told.0 t) in record {
      place = 0;
      within = omega arith;
      only = said_only (g.tale a) (g.tale c) (p.only t ∙ ap {A = Tale (Ends S K A C) (Contents (Named S))} (λ v. record v { lines = (g.tale c).lines }) u);
      said = λ l. p.said l ∙ ap (λ ls. ls ++ no_memory_line ∷ []) (ap (λ v. v.lines) u);
    });
  })

  pub opens_wanted_first : {T : Type 0} (calls : List Asked) (s : Stop) (a c : W) → s ≡ stop.NoMemory → SaysOnly g (no_memory_line ∷ []) a c → Opens {T = T} g calls (Err s) a c
  opens_wanted_first calls s a c e p = opens_wanted calls s a a c e (λ t. t, λ t. t, λ t. t) refl refl (omega arith) (λ t. refl) p

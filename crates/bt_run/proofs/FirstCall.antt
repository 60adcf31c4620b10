-- The reading of the configuration, as a run's first call.
use Rattle.std.proofs.Common.{◌≡◌, ◌≢◌, ◌≤◌, ℕ, List, [], ◌∷◌, ◌++◌, IsTrue, Option, Result, Ok, Err, refl, sym, ap, ◌∙◌, subst, arith, inl, inr, append_assoc, append-nil}
use Rattle.bt_commands.specs.Outside.{SaysOnly}
use Rattle.bt_config.specs.Violations.{AreViolations}
use Rattle.bt_config_file.specs.Reading.{FileSays, ReadCounts, ReadTells, ReadsLinted, config_reading, reading_lines}
use Rattle.bt_config_file.specs.declared.halt.ConfigHalt.{ConfigHalt}
use Rattle.bt_config_file.specs.declared.halt.ConfigHalt.TheVariants as unread
use Rattle.bt_config_file.specs.declared.linted.Linted.{Linted}
use Rattle.bt_ports.specs.World.{Tale}
use Rattle.bt_ports.specs.declared.parts.Asked.{Asked}
use Rattle.bt_ports.specs.declared.world.World as World
use Rattle.bt_run.specs.Form.{FormSays, HasBuiltForm, UnfitSays, names_parts}
use Rattle.bt_run.specs.Inside.{CallCounts, Fits, HaltTells, IsUnfit, MakesCall, Refuses, halt_lines_at, halt_of, refused_lines, unfit_said}
use Rattle.bt_run.specs.Report.{unfit_lines}
use Rattle.bt_run.specs.declared.halt.Halt.{Halt}
use Rattle.bt_run.specs.declared.halt.Halt.TheVariants as halt
use Rattle.bt_run.specs.declared.halt.Unfit.{Unfit}
use Rattle.bt_run.specs.declared.halt.Unfit.TheVariants as unfit

module _ {E I : Type 0} (call : Asked) (a b : Tale E I) where
  -- a part of the list of calls, and lines of `err`
  abbrev With : List Asked → Type 0
  With part = b ≡ record a { calls = a.calls ++ part; lines = b.lines }

  -- no call was made, or this one
  unmade : With [] → HaltTells 0 call halt.NoMemory a b
  unmade p = inl (p ∙ ap (λ (cs : List Asked). record a { calls = cs; lines = b.lines }) (append-nil a.calls))

  halt-tells : (h : ConfigHalt) → ReadTells call (Err h) a b → HaltTells 0 call (halt_of h) a b
  halt-tells unread.Unread r = (refl, subst With r.is_reading r.only)
  halt-tells (unread.Refused x) r = (refl, subst With r.is_reading r.only)
  halt-tells unread.NoMemory r =
      elim r.is_reading [ inl none ↦ unmade (subst With none r.only) | inr one ↦ inr (subst With one r.only) ]

halt-counts : (h : ConfigHalt) (f f' o o' : ℕ) → ReadCounts (Err h) f f' → CallCounts {T = Unit {0}} (Err (halt_of h)) f f' o o'
halt-counts unread.Unread f f' o o' c = c
halt-counts (unread.Refused x) f f' o o' c = tt
halt-counts unread.NoMemory f f' o o' c = tt

pub halt-says : (h : ConfigHalt) (file : Option (List ℕ)) → FileSays (Err h) file → FormSays (Err (halt_of h)) file
halt-says unread.Unread file says = tt
halt-says (unread.Refused x) file says = says
halt-says unread.NoMemory file says = tt

halt-lines : (call : Asked) (h : ConfigHalt) → reading_lines call (Err h) ≡ halt_lines_at call (halt_of h)
halt-lines call unread.Unread = refl
halt-lines call (unread.Refused x) = refl
halt-lines call unread.NoMemory = refl

-- what the file says of a configuration that was read, where it is run
pub fits-says : (linted : Linted) (file : Option (List ℕ)) → FileSays (Ok linted) file → Fits linted → HasBuiltForm file
fits-says linted file says fits = record {
  config = linted.config.doc;
  in_file = says.0;
  violations = subst (AreViolations linted.config.doc) fits.0 says.1;
  named = fits.1;
}

-- and where it isn't
unfit-says : (linted : Linted) (u : Unfit) (file : Option (List ℕ)) → FileSays (Ok linted) file → IsUnfit linted u → UnfitSays u file
unfit-says linted (unfit.Refused x) file says is = absurd is
unfit-says linted (unfit.Lints lints) file says is = (
  is.1,
  (
    names_parts linted.config.doc,
    record { config = linted.config.doc; in_file = says.0; violations = subst (AreViolations linted.config.doc) (sym is.0) says.1; named = refl },
  ),
)
unfit-says linted unfit.NotBuilt file says is = record {
  config = linted.config.doc;
  in_file = says.0;
  violations = subst (AreViolations linted.config.doc) is.0 says.1;
  named = is.1;
}

pub refused-says : (linted : Linted) (u : Unfit) (h : Halt) (file : Option (List ℕ)) → FileSays (Ok linted) file → IsUnfit linted u → Refuses u h → FormSays (Err h) file
refused-says linted u (halt.Failed k) file says is refuses = absurd refuses
refused-says linted u (halt.Config v) file says is refuses = subst (λ (w : Unfit). UnfitSays w file) (sym refuses) (unfit-says linted u file says is)
refused-says linted u halt.NoMemory file says is refuses = tt

unfit-lines : (linted : Linted) (u : Unfit) → IsUnfit linted u → unfit_said u ≡ unfit_lines u
unfit-lines linted (unfit.Refused x) is = absurd is
unfit-lines linted (unfit.Lints lints) is = refl
unfit-lines linted unfit.NotBuilt is = refl

refused-lines : (linted : Linted) (u : Unfit) (call : Asked) (h : Halt) → IsUnfit linted u → Refuses u h → refused_lines h ≡ halt_lines_at call h
refused-lines linted u call (halt.Failed k) is refuses = absurd refuses
refused-lines linted u call (halt.Config v) is refuses = subst (λ (w : Unfit). unfit_said w ≡ unfit_lines w) (sym refuses) (unfit-lines linted u is)
refused-lines linted u call halt.NoMemory is refuses = refl

refused-counts : (u : Unfit) (h : Halt) (f f' o o' : ℕ) → Refuses u h → CallCounts {T = Unit {0}} (Err h) f f' o o'
refused-counts u (halt.Failed k) f f' o o' refuses = absurd refuses
refused-counts u (halt.Config v) f f' o o' refuses = tt
refused-counts u halt.NoMemory f f' o o' refuses = tt

refused-tells : {E I : Type 0} (u : Unfit) (call : Asked) (h : Halt) (a d : Tale E I) → Refuses u h → d ≡ record a { calls = a.calls ++ call ∷ []; lines = d.lines }
    → HaltTells 0 call h a d
refused-tells u call (halt.Failed k) a d refuses e = absurd refuses
refused-tells u call (halt.Config v) a d refuses e = (refl, e)
refused-tells u call halt.NoMemory a d refuses e = inr e

-- a configuration was read
read-call : {E I : Type 0} (call : Asked) (linted : Linted) (a b : Tale E I) → ReadTells call (Ok linted) a b → b ≡ record a { calls = a.calls ++ call ∷ [] }
read-call call linted a b r = subst (λ (part : List Asked). b ≡ record a { calls = a.calls ++ part }) r.is_reading r.only

module _ {W S K A C : Type 0} (g : World.Ghosts W S K A C) (config : List ℕ) where
  abbrev call : Asked
  call = config_reading config

  -- the reading of the configuration is the run's first call: where there is none,
  pub reads-halted : (h : ConfigHalt) (a b : W) → ReadsLinted g config (Err h) a b → MakesCall {T = Unit {0}} g 0 call (g.tale a).stdin (Err (halt_of h)) a b
  reads-halted h a b r = record {
    told = r.told;
    counted = (r.counted, omega (arith, r.others.0), r.others.1);
    counts = halt-counts h (g.file_faults a) (g.file_faults b) (g.open_faults a) (g.open_faults b) r.counts;
    tells = λ t. halt-tells call (g.tale a) (g.tale b) h (r.tells t);
    lines = λ t s. r.lines t s ∙ ap (λ (ls : List (List ℕ)). (g.tale a).lines ++ ls) (halt-lines call h);
  }

  -- where there is one that is run,
  pub reads-on : (linted : Linted) (x : Unit {0}) (a b : W) → ReadsLinted g config (Ok linted) a b → MakesCall g 0 call (g.tale a).stdin (Ok x) a b
  reads-on linted x a b r = record {
    told = r.told;
    counted = (r.counted, omega (arith, r.others.0), r.others.1);
    counts = tt;
    tells = λ t. read-call call linted (g.tale a) (g.tale b) (r.tells t);
    lines = r.lines;
  }

  -- and where it isn't
  pub reads-unfit : (linted : Linted) (u : Unfit) (h : Halt) (a b d : W) → ReadsLinted g config (Ok linted) a b → IsUnfit linted u → Refuses u h
      → SaysOnly g (refused_lines h) b d → MakesCall {T = Unit {0}} g 0 call (g.tale a).stdin (Err h) a d
  reads-unfit linted u h a b d r is refuses says = record {
    told = (λ t. r.told.0 (says.told.0 t), λ t. r.told.1 (says.told.1 t), λ t. r.told.2 (says.told.2 t));
    counted = (omega (arith, r.counted, says.counts.0), omega (arith, r.others.0, says.counts.1), says.counts.2 ∙ r.others.1);
    counts = refused-counts u h (g.file_faults a) (g.file_faults d) (g.open_faults a) (g.open_faults d) refuses;
    tells = λ t.
        refused-tells u call h (g.tale a) (g.tale d) refuses
        (says.only t ∙ ap (λ (x : Tale _ _). record x { lines = (g.tale d).lines }) (read-call call linted (g.tale a) (g.tale b) (r.tells (says.told.0 t))));
    lines = λ t s.
        says.said s ∙ ap (λ (ls : List (List ℕ)). ls ++ refused_lines h) (ap (λ (x : Tale _ _). x.lines) (read-call call linted (g.tale a) (g.tale b) (r.tells (says.told.0 t))))
        ∙ ap (λ (ls : List (List ℕ)). (g.tale a).lines ++ ls) (refused-lines linted u call h is refuses);
  }

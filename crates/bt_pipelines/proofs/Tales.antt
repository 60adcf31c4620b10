-- What a world tells from a run's openings to its report.
use Rattle.std.proofs.Common.{◌≡◌, ℕ, ◌+◌, ◌≤◌, Bool, IsTrue, List, [], ◌∷◌, ◌++◌, arith, sym, ap, ◌∙◌, subst, inl, inr, Option, Some, Result, Ok, Err}
use Rattle.bt_commands.specs.Lines.{no_memory_line}
use Rattle.bt_pipelines.specs.Launched.{HaltTells, WantedLate}
use Rattle.bt_openings.specs.Openings.{AllMade, RoseWhere, StoppedAt}
use Rattle.bt_openings.specs.declared.stop.Stop.{Stop}
use Rattle.bt_openings.specs.declared.stop.Stop.TheVariants as stop
use Rattle.bt_ports.specs.World.{Tale, once_more}
use Rattle.bt_ports.specs.declared.parts.Asked.{Asked}

module _ {E I : Type 0} where
  -- calls were made, and then a clock was taken
  taken : (a b c : Tale E I) (calls : List Asked) → AllMade calls a b → c ≡ record b { clocks = once_more b.clocks; clock = [] } → c ≡ record a { calls = a.calls ++ calls; stdin = b.stdin; clocks = once_more a.clocks; clock = [] }
  taken a b c calls f h = h ∙ ap (λ (u : Tale E I). record u { clocks = once_more u.clocks; clock = [] }) f

  -- and then all was kept and lines were said
  pub launched : (a b c d : Tale E I) (calls : List Asked) (k : Option E) → AllMade calls a b → c ≡ record b { clocks = once_more b.clocks; clock = [] } → d ≡ record c { keeps = once_more c.keeps; kept = k; lines = d.lines }
      → d ≡ record a { calls = a.calls ++ calls; stdin = d.stdin; clock = []; clocks = once_more a.clocks; keeps = once_more a.keeps; kept = k; lines = d.lines }
  launched a b c d calls k f h w =
      let x = w ∙ ap (λ (u : Tale E I). record u { keeps = once_more u.keeps; kept = k; lines = d.lines }) (taken a b c calls f h) in
      x ∙ ap (λ z. record a { calls = a.calls ++ calls; stdin = z; clock = []; clocks = once_more a.clocks; keeps = once_more a.keeps; kept = k; lines = d.lines }) (sym (ap (λ (u : Tale E I). u.stdin) x))

  pub same_lines : (a b c : Tale E I) (calls : List Asked) → AllMade calls a b → c ≡ record b { clocks = once_more b.clocks; clock = [] } → c.lines ≡ a.lines
  same_lines a b c calls f h = ap (λ (u : Tale E I). u.lines) (taken a b c calls f h)

  pub same_clock : (a b : Tale E I) (calls : List Asked) → AllMade calls a b → b.clock ≡ a.clock
  same_clock a b calls f = ap (λ (u : Tale E I). u.clock) f

  -- and then memory was wanting
  pub wanted_late : (a b c d : Tale E I) (calls : List Asked) (l : Bool) → AllMade calls a b → c ≡ record b { clocks = once_more b.clocks; clock = [] } → d ≡ record c { lines = d.lines } → (IsTrue l → d.lines ≡ c.lines ++ no_memory_line ∷ [])
      → HaltTells stop.NoMemory calls l a d
  wanted_late a b c d calls l f h w said = inr (record {
    only =
        let x = w ∙ ap (λ (u : Tale E I). record u { lines = d.lines }) (taken a b c calls f h) in
        x ∙ ap (λ z. record a { calls = a.calls ++ calls; stdin = z; clock = []; clocks = once_more a.clocks; lines = d.lines }) (sym (ap (λ (u : Tale E I). u.stdin) x));
    said = λ t. said t ∙ ap (λ ls. ls ++ no_memory_line ∷ []) (same_lines a b c calls f h);
  })

  pub halted : (s : Stop) (calls : List Asked) (l : Bool) (a b : Tale E I) → StoppedAt s calls l a b → HaltTells s calls l a b
  halted stop.Failed calls l a b f = f
  halted stop.NoMemory calls l a b f = inl f

pub rose_so : (s : Stop) (T U : Type 0) (a b : ℕ) → RoseWhere {T = T} (Err s) a b → RoseWhere {T = U} (Err s) a b
rose_so stop.Failed T U a b r = r
rose_so stop.NoMemory T U a b r = r

-- A run as a whole, by how it ended.
use Rattle.std.proofs.Common.{◌≡◌, ◌⊎◌, ℕ, List, [], ◌∷◌, ◌++◌, map, IsTrue, inl, inr, refl, sym, ap, ◌∙◌, subst, arith, Option, Some, None, Result, Ok, Err, Bool}
use Rattle.bt_commands.specs.Lines.{no_memory_line}
use Rattle.bt_commands.specs.Outside.{Outside, SaysOnly}
use Rattle.bt_duties.specs.declared.report.Report.{Report}
use Rattle.bt_input_plan.specs.Compiled.{IsInputOf}
use Rattle.bt_input_plan.specs.declared.plan.InputPlan.{InputPlan}
use Rattle.bt_intake.specs.View.{LineView}
use Rattle.bt_openings.specs.Openings as openings
use Rattle.bt_openings.specs.declared.stop.Stop.{Stop}
use Rattle.bt_openings.specs.declared.stop.Stop.TheVariants as stops
use Rattle.bt_pipelines.specs.Launched.{HaltTells, Launches}
use Rattle.bt_plan.specs.Compiled.{IsFaultOf, IsPlanOf}
use Rattle.bt_plan.specs.declared.fault.CompileFault.{CompileFault}
use Rattle.bt_plan.specs.declared.fault.CompileFault.TheVariants as fault
use Rattle.bt_ports.specs.Contents.{Contents}
use Rattle.bt_ports.specs.World.{Tale}
use Rattle.bt_ports.specs.declared.parts.Ends.{Ends}
use Rattle.bt_ports.specs.declared.parts.Named.{Named}
use Rattle.bt_routing.specs.declared.plan.Plan.{Plan}
use Rattle.bt_schema.specs.declared.lints.Lint.{Lint}
use Rattle.bt_value.specs.declared.val.Val.{Val}
use Rattle.bt_configured.specs.Configured.{ByPlan, Configured, ConfiguredTells, RoseWhere, Said, Why, as_intake, as_plan, not_built_line}
use Rattle.bt_configured.specs.Inside.{IsHaltOf, OpensAtLeast, Refuses, RunTells, Runs, halted_by, refused_lines}
use Rattle.bt_configured.specs.Lines.{files_of, lines_of}
use Rattle.bt_configured.specs.declared.halted.Halted.{Halted}
use Rattle.bt_configured.specs.declared.halted.Halted.TheVariants as halted
use Rattle.bt_configured.specs.declared.lines.Lines.{Lines}

-- what was said and nothing else, as the world tells it
said_tells : {E I : Type 0} (ls : List (List ℕ)) (l : Bool) (a b : Tale E I) → b ≡ record a { lines = b.lines } → (IsTrue l → b.lines ≡ a.lines ++ ls) → Said ls l a b
said_tells ls l a b only said = record { only = only; said = said }

module _ {W S K A C : Type 0} (o : Outside W S K A C) where
  abbrev Told : Type 0
  Told = Tale (Ends S K A C) (Contents (Named S))

  -- ---- a run of a plan over lines

  -- it is what its launch is, by the names and the closing bytes of its sinks and by its files
  pub run_launched : (p : Plan) (l : Lines) (answers : Option (List ℕ)) (names ends : List (List ℕ)) (files : Option (List (List ℕ))) (report : Report) (a b : W)
      → names ≡ p.sinks.list → ends ≡ p.ends.list → files ≡ files_of l
      → Launches o.world o.source (as_intake o.source) o.sink o.answerer o.clock as_plan names ends answers files l.cuts p (Ok report) a b → Runs o p l answers (Ok report) a b
  run_launched p l answers names ends files report a b n e f launched =
      let h = subst (λ ns. Launches o.world o.source (as_intake o.source) o.sink o.answerer o.clock as_plan ns p.ends.list answers (files_of l) l.cuts p (Ok report) a b) n
      (subst (λ es. Launches o.world o.source (as_intake o.source) o.sink o.answerer o.clock as_plan names es answers (files_of l) l.cuts p (Ok report) a b) e
      (subst (λ fs. Launches o.world o.source (as_intake o.source) o.sink o.answerer o.clock as_plan names ends answers fs l.cuts p (Ok report) a b) f launched)) in
      record {
        told = h.told;
        read = h.read;
        prints = h.prints;
        counted = h.counted;
        rose = tt;
        opens = tt;
        ended = h.ended;
        tells = h.tells;
      }

  pub run_stopped : (p : Plan) (l : Lines) (answers : Option (List ℕ)) (s : Stop) (a b : W)
      → Launches o.world o.source (as_intake o.source) o.sink o.answerer o.clock as_plan p.sinks.list p.ends.list answers (files_of l) l.cuts p (Err s) a b → Runs o p l answers (Err (halted_by s)) a b
  run_stopped p l answers stops.Failed a b h = record {
    told = h.told;
    read = h.read;
    prints = h.prints;
    counted = h.counted;
    rose = h.rose;
    opens = tt;
    ended = tt;
    tells = h.tells;
  }
  run_stopped p l answers stops.NoMemory a b h = record {
    told = h.told;
    read = h.read;
    prints = h.prints;
    counted = h.counted;
    rose = tt;
    opens = tt;
    ended = tt;
    tells = λ t. inr (h.tells t);
  }

  -- memory was wanting before its openings
  pub run_wanted : (p : Plan) (l : Lines) (answers : Option (List ℕ)) (h : Halted) (a b : W) → h ≡ halted.NoMemory → SaysOnly o.world (no_memory_line ∷ []) a b → Runs o p l answers (Err h) a b
  run_wanted p l answers h a b is says = subst (λ x. Runs o p l answers (Err x) a b) (sym is) (record {
    told = says.told;
    read = says.counts.0;
    prints = says.counts.2;
    counted = let same = says.counts.1 in omega arith;
    rose = tt;
    opens = tt;
    ended = tt;
    tells = λ t. inl (said_tells (no_memory_line ∷ []) _ _ _ (says.only t) says.said);
  })

  -- ---- a run of a configuration

  by_plan : (config : Val) (p : Plan) (i : InputPlan) (l : Lines) (P : Plan → Lines → Type 0) → IsPlanOf config p → IsInputOf config i → lines_of i ≡ Some l → P p l → ByPlan config P
  by_plan config p i l P is input reads holds = record {
    plan = p;
    input = i;
    lines = l;
    is_plan = is;
    is_input = input;
    read_as = reads;
    holds = holds;
  }

  run_tells : (config : Val) (p : Plan) (i : InputPlan) (l : Lines) (answers : Option (List ℕ)) (result : Result Report Halted) (lines : Bool) (a b : Told)
      → IsPlanOf config p → IsInputOf config i → lines_of i ≡ Some l → RunTells o p l answers result lines a b → ConfiguredTells o config answers result lines a b
  run_tells config p i l answers (Ok report) lines a b is input reads t = by_plan config p i l _ is input reads t
  run_tells config p i l answers (Err (halted.Lints ls)) lines a b is input reads t = absurd t
  run_tells config p i l answers (Err halted.NotBuilt) lines a b is input reads t = absurd t
  run_tells config p i l answers (Err halted.Failed) lines a b is input reads t = by_plan config p i l _ is input reads t
  run_tells config p i l answers (Err halted.NoMemory) lines a b is input reads (inl t) = inl t
  run_tells config p i l answers (Err halted.NoMemory) lines a b is input reads (inr t) = inr (by_plan config p i l _ is input reads t)

  why : (config : Val) (result : Result Report Halted) → OpensAtLeast result → Why config result
  why config (Ok report) t = tt
  why config (Err (halted.Lints ls)) t = absurd t
  why config (Err halted.NotBuilt) t = absurd t
  why config (Err halted.Failed) t = tt
  why config (Err halted.NoMemory) t = tt

  -- a run of the plan and the input of a configuration
  pub configured : (config : Val) (p : Plan) (i : InputPlan) (l : Lines) (answers : Option (List ℕ)) (result : Result Report Halted) (a b : W)
      → IsPlanOf config p → IsInputOf config i → lines_of i ≡ Some l → Runs o p l answers result a b → Configured o config answers result a b
  configured config p i l answers result a b is input reads h = record {
    told = h.told;
    read = h.read;
    prints = h.prints;
    counted = h.counted;
    rose = h.rose;
    why = why config result h.opens;
    ended = h.ended;
    tells = λ t. run_tells config p i l answers result _ _ _ is input reads (h.tells t);
  }

  -- one of an input of another kind
  pub configured_not : (config : Val) (i : InputPlan) (answers : Option (List ℕ)) (h : Halted) (a b : W) → IsInputOf config i → lines_of i ≡ None → h ≡ halted.NotBuilt
      → SaysOnly o.world (not_built_line ∷ []) a b → Configured o config answers (Err h) a b
  configured_not config i answers h a b input none is says = subst (λ x. Configured o config answers (Err x) a b) (sym is) (record {
    told = says.told;
    read = says.counts.0;
    prints = says.counts.2;
    counted = let same = says.counts.1 in omega arith;
    rose = tt;
    why = (i, input, none);
    ended = tt;
    tells = λ t. said_tells (not_built_line ∷ []) _ _ _ (says.only t) says.said;
  })

  -- memory was wanting
  wanted : (config : Val) (answers : Option (List ℕ)) (a b : W) → SaysOnly o.world (no_memory_line ∷ []) a b → Configured o config answers (Err halted.NoMemory) a b
  wanted config answers a b says = record {
    told = says.told;
    read = says.counts.0;
    prints = says.counts.2;
    counted = let same = says.counts.1 in omega arith;
    rose = tt;
    why = tt;
    ended = tt;
    tells = λ t. inl (said_tells _ _ _ _ (says.only t) says.said);
  }

  -- one that has no plan
  refused : (config : Val) (answers : Option (List ℕ)) (ls : List Lint) (h : Halted) (a b : W) → IsFaultOf config (fault.Lints ls) → Refuses ls h → SaysOnly o.world (refused_lines h) a b → Configured o config answers (Err h) a b
  refused config answers ls (halted.Lints ms) a b f is says = record {
    told = says.told;
    read = says.counts.0;
    prints = says.counts.2;
    counted = let same = says.counts.1 in omega arith;
    rose = tt;
    why = subst (λ ns. IsFaultOf config (fault.Lints ns)) (sym is) f;
    ended = tt;
    tells = λ t. said_tells _ _ _ _ (says.only t) says.said;
  }
  refused config answers ls halted.NotBuilt a b f is says = absurd is
  refused config answers ls halted.Failed a b f is says = absurd is
  refused config answers ls halted.NoMemory a b f is says = wanted config answers a b says

  pub configured_fault : (config : Val) (answers : Option (List ℕ)) (f : CompileFault) (h : Halted) (a b : W) → IsFaultOf config f → IsHaltOf f h → SaysOnly o.world (refused_lines h) a b → Configured o config answers (Err h) a b
  configured_fault config answers (fault.Lints ls) h a b why is says = refused config answers ls h a b why is says
  configured_fault config answers fault.NoMemory h a b why is says = subst (λ x. SaysOnly o.world (refused_lines x) a b → Configured o config answers (Err x) a b) (sym is) (wanted config answers a b) says

-- From the steps of a `lint` to the whole.
use Rattle.std.proofs.Common.{◌≡◌, ℕ, List, [], ◌∷◌, ◌++◌, Bool, true, false, not, IsTrue, ◌↔◌, Result, Ok, Err, codes, refl, sym, ap, ◌∙◌, subst, append-nil, inr}
use Rattle.std.proofs.lemmas.Bool.{false≢true}
use Rattle.bt_commands.specs.Lines.{no_memory_line}
use Rattle.bt_commands.specs.Outside.{SaysOnly}
use Rattle.bt_config.specs.Violations.{AreViolations}
use Rattle.bt_config_file.specs.Reading.{HasConfig, ReadTells, ReadsLinted, config_reading}
use Rattle.bt_config_file.specs.declared.halt.ConfigHalt.{ConfigHalt}
use Rattle.bt_config_file.specs.declared.halt.ConfigHalt.TheVariants as unread
use Rattle.bt_config_file.specs.declared.linted.Linted.{Linted}
use Rattle.bt_ports.specs.Contents.{Contents}
use Rattle.bt_ports.specs.Faults.{Rose}
use Rattle.bt_ports.specs.World.{Tale}
use Rattle.bt_ports.specs.declared.parts.Asked.{Asked}
use Rattle.bt_ports.specs.declared.parts.Ends.{Ends}
use Rattle.bt_ports.specs.declared.parts.Named.{Named}
use Rattle.bt_ports.specs.declared.parts.PrintFailed.{PrintFailed}
use Rattle.bt_ports.specs.declared.world.World as World
use Rattle.bt_schema.specs.declared.lints.Lint.{Lint}
use Rattle.bt_lint.specs.Inside.{PrintCounts, PrintsBytes, PrintsReport, ReportSays, said_lines}
use Rattle.bt_lint.specs.Promise.{Counts, HasReport, IsPart, LintEnds, LintSays, Prints, Tells, err_lines}
use Rattle.bt_lint.specs.Report.{is_some_lint, joined, prints_of}
use Rattle.bt_lint.specs.declared.halt.Halt.{Halt}
use Rattle.bt_lint.specs.declared.halt.Halt.TheVariants as halt

module _ {E I : Type 0} where
  -- calls were made, and lines were said
  only-said : (a b : Tale E I) (calls : List Asked) (lines : List (List ℕ)) → b ≡ record a { calls = calls; lines = lines } →
      b ≡ record a { calls = b.calls; printed = b.printed; lines = b.lines }
  only-said a b calls lines e =
      let P : Tale E I → Type 0 = λ t. t ≡ record a { calls = t.calls; printed = t.printed; lines = t.lines } in subst P (sym e) refl

  -- calls were made, and then more was printed and said
  only-printed : (a b d : Tale E I) (calls : List Asked) → b ≡ record a { calls = calls } → d ≡ record b { printed = d.printed; lines = d.lines } →
      d ≡ record a { calls = d.calls; printed = d.printed; lines = d.lines }
  only-printed a b d calls e f =
      let P : Tale E I → Type 0 = λ t. t ≡ record a { calls = t.calls; printed = t.printed; lines = t.lines } in
      let whole : d ≡ record a { calls = calls; printed = d.printed; lines = d.lines } = f ∙ ap (λ (t : Tale E I). record t { printed = d.printed; lines = d.lines }) e in
      subst P (sym whole) refl

  -- what the world tells of a reading that is no configuration
  tells-unread : (migrate : Bool) (path : List ℕ) (h : ConfigHalt) (told : Bool) (a b : Tale E I) → ReadTells (config_reading path) (Err h) a b →
      LintSays migrate (Err (halt.Unprinted h)) (a.files path) [] → Tells migrate path (Err (halt.Unprinted h)) told a b
  tells-unread migrate path h told a b r says = record {
    part = r.part;
    calls = ap (λ (t : Tale E I). t.calls) r.only;
    is_part = r.is_reading;
    to_print = [];
    says = says;
    prints = λ _. ap (λ (t : Tale E I). t.printed) r.only ∙ sym (append-nil a.printed);
    only = only-said a b _ _ r.only;
  }

  -- what it tells of a configuration that was reported
  tells-read : (migrate : Bool) (path : List ℕ) (linted : Linted) (result : Result Bool Halt) (told : Bool) (a b d : Tale E I) (lines : List (List ℕ)) →
      ReadTells (config_reading path) (Ok linted) a b → IsPart (config_reading path) result (config_reading path ∷ []) → LintSays migrate result (a.files path) lines →
      d ≡ record b { printed = d.printed; lines = d.lines } → (IsTrue told → Prints result lines b.printed d.printed) → Tells migrate path result told a d
  tells-read migrate path linted result told a b d lines r is says only prints = record {
    part = config_reading path ∷ [];
    calls = ap (λ (t : Tale E I). t.calls) only ∙ ap (λ (t : Tale E I). t.calls) r.only ∙ ap (λ (cs : List Asked). a.calls ++ cs) r.is_reading;
    is_part = is;
    to_print = lines;
    says = says;
    prints = λ t. subst (λ (p : List ℕ). Prints result lines p d.printed) (ap (λ (x : Tale E I). x.printed) r.only) (prints t);
    only = only-printed a b d _ r.only only;
  }

-- what a configuration says of its report
says-of : (migrate : Bool) (linted : Linted) (result : Result Bool Halt) (file : _) (lines : List (List ℕ)) → HasConfig file linted.config.doc →
    AreViolations linted.config.doc linted.lints → ReportSays migrate linted result lines → LintSays migrate result file lines
says-of migrate linted (Ok refused) file lines has are p = record { config = linted.config.doc; lints = linted.lints; has = has; violations = are; refuses = p.0; prints = p.1 }
says-of migrate linted (Err (halt.Unprinted unread.Unread)) file lines has are p = absurd p
says-of migrate linted (Err (halt.Unprinted (unread.Refused r))) file lines has are p = absurd p
says-of migrate linted (Err (halt.Unprinted unread.NoMemory)) file lines has are p = (p, tt)
says-of migrate linted (Err halt.PrintFailed) file lines has are p =
    (_, record { config = linted.config.doc; lints = linted.lints; has = has; violations = are; refuses = refl; prints = p })

-- the reading was made in each case
is-part : (migrate : Bool) (linted : Linted) (result : Result Bool Halt) (call : Asked) (lines : List (List ℕ)) → ReportSays migrate linted result lines → IsPart call result (call ∷ [])
is-part migrate linted (Ok refused) call lines p = refl
is-part migrate linted (Err (halt.Unprinted unread.Unread)) call lines p = absurd p
is-part migrate linted (Err (halt.Unprinted (unread.Refused r))) call lines p = absurd p
is-part migrate linted (Err (halt.Unprinted unread.NoMemory)) call lines p = inr refl
is-part migrate linted (Err halt.PrintFailed) call lines p = refl

-- what is said of the printing is what is said of the command
said-is : (migrate : Bool) (linted : Linted) (result : Result Bool Halt) (call : Asked) (lines : List (List ℕ)) → ReportSays migrate linted result lines → said_lines result ≡ err_lines call result
said-is migrate linted (Ok refused) call lines p = refl
said-is migrate linted (Err (halt.Unprinted unread.Unread)) call lines p = absurd p
said-is migrate linted (Err (halt.Unprinted (unread.Refused r))) call lines p = absurd p
said-is migrate linted (Err (halt.Unprinted unread.NoMemory)) call lines p = refl
said-is migrate linted (Err halt.PrintFailed) call lines p = refl

-- the counts since the reading are the counts since the beginning
counts-since : (migrate : Bool) (linted : Linted) (result : Result Bool Halt) (f f' p p' p'' : ℕ) (lines : List (List ℕ)) → ReportSays migrate linted result lines → p' ≡ p →
    PrintCounts result p' p'' → Counts result f f' p p''
counts-since migrate linted (Ok refused) f f' p p' p'' lines says same c = c ∙ same
counts-since migrate linted (Err (halt.Unprinted unread.Unread)) f f' p p' p'' lines says same c = absurd says
counts-since migrate linted (Err (halt.Unprinted (unread.Refused r))) f f' p p' p'' lines says same c = absurd says
counts-since migrate linted (Err (halt.Unprinted unread.NoMemory)) f f' p p' p'' lines says same c = (tt, c ∙ same)
counts-since migrate linted (Err halt.PrintFailed) f f' p p' p'' lines says same c = subst (λ (n : ℕ). Rose n p'') same c

module _ {W S K A C : Type 0} (g : World.Ghosts W S K A C) (migrate : Bool) (path : List ℕ) where
  -- there was no configuration, and that was said
  pub ends-unread : (h : ConfigHalt) (a b : W) → ReadsLinted g path (Err h) a b → LintEnds g migrate path (Err (halt.Unprinted h)) a b
  ends-unread h a b r = record {
    told = r.told;
    opens = r.others.0;
    counts = (r.counts, r.others.1);
    tells = λ t. tells-unread migrate path h (g.tells_printed b) (g.tale a) (g.tale b) (r.tells t) (refl, r.says t);
    lines = r.lines;
  }

  -- there was one, and it was reported
  pub ends-read : (linted : Linted) (result : Result Bool Halt) (a b d : W) → ReadsLinted g path (Ok linted) a b → PrintsReport g migrate linted result b d →
      LintEnds g migrate path result a d
  ends-read linted result a b d r p = record {
    told = (λ t. r.told.0 (p.told.0 t), λ t. r.told.1 (p.told.1 t), λ t. r.told.2 (p.told.2 t));
    opens = p.others.1 ∙ r.others.0;
    counts = counts-since migrate linted result (g.file_faults a) (g.file_faults d) (g.print_faults a) (g.print_faults b) (g.print_faults d) p.to_print p.says r.others.1 p.counts;
    tells = λ t.
        let t0 = p.told.0 t in
        let has = r.says t0 in
        tells-read migrate path linted result (g.tells_printed d) (g.tale a) (g.tale b) (g.tale d) p.to_print (r.tells t0)
        (is-part migrate linted result (config_reading path) p.to_print p.says)
        (says-of migrate linted result ((g.tale a).files path) p.to_print has.0 has.1 p.says) (p.only t) (p.prints t);
    lines = λ t s.
        p.lines t s ∙ ap (λ (ls : List (List ℕ)). ls ++ said_lines result) (ap (λ (x : Tale _ _). x.lines) (r.tells (p.told.0 t)).only)
        ∙ ap (λ (ls : List (List ℕ)). (g.tale a).lines ++ ls) (said-is migrate linted result (config_reading path) p.to_print p.says);
  }

module _ {W S K A C : Type 0} (g : World.Ghosts W S K A C) (migrate : Bool) (linted : Linted) where
  abbrev Told : Type 0
  Told = Tale (Ends S K A C) (Contents (Named S))

  only-lines : (a d : Told) → d ≡ record a { lines = d.lines } → d ≡ record a { printed = d.printed; lines = d.lines }
  only-lines a d e = let P : Told → Type 0 = λ t. t ≡ record a { printed = t.printed; lines = t.lines } in subst P (sym e) refl

  only-prints : (a d : Told) → d ≡ record a { printed = d.printed } → d ≡ record a { printed = d.printed; lines = d.lines }
  only-prints a d e = let P : Told → Type 0 = λ t. t ≡ record a { printed = t.printed; lines = t.lines } in subst P (sym e) refl

  only-both : (a b d : Told) → b ≡ record a { printed = b.printed } → d ≡ record b { lines = d.lines } → d ≡ record a { printed = d.printed; lines = d.lines }
  only-both a b d e f =
      let P : Told → Type 0 = λ t. t ≡ record a { printed = t.printed; lines = t.lines } in
      let whole : d ≡ record a { printed = b.printed; lines = d.lines } = f ∙ ap (λ (t : Told). record t { lines = d.lines }) e in
      subst P (sym whole) refl

  -- memory was wanting for the lines
  pub report-unprinted : (a d : W) → SaysOnly g (no_memory_line ∷ []) a d → PrintsReport g migrate linted (Err (halt.Unprinted unread.NoMemory)) a d
  report-unprinted a d says = record {
    told = says.told;
    others = (says.counts.0, says.counts.1);
    counts = says.counts.2;
    to_print = [];
    says = refl;
    only = λ t. only-lines (g.tale a) (g.tale d) (says.only t);
    prints = λ t s. ap (λ (x : Told). x.printed) (says.only t) ∙ sym (append-nil (g.tale a).printed);
    lines = λ t s. says.said s;
  }

  -- the lines were printed
  pub report-printed : (refused : Bool) (x : Unit {0}) (lines : List (List ℕ)) (a d : W) → refused ≡ is_some_lint linted.lints → lines ≡ prints_of migrate linted.config.doc linted.lints →
      PrintsBytes g (Ok x) (joined lines) a d → PrintsReport g migrate linted (Ok refused) a d
  report-printed refused x lines a d is are p = record {
    told = p.told;
    others = p.others;
    counts = p.same;
    to_print = lines;
    says = (is, are);
    only = λ t. only-prints (g.tale a) (g.tale d) (p.only t);
    prints = λ t s. p.adds s;
    lines = λ t s. ap (λ (x : Told). x.lines) (p.only t) ∙ sym (append-nil (g.tale a).lines);
  }

  -- a line couldn't be printed, and that was said
  pub report-failed : (x : PrintFailed) (lines : List (List ℕ)) (a b d : W) → lines ≡ prints_of migrate linted.config.doc linted.lints →
      PrintsBytes g (Err x) (joined lines) a b → SaysOnly g (codes "out: write fault" ∷ []) b d → PrintsReport g migrate linted (Err halt.PrintFailed) a d
  report-failed x lines a b d are p says = record {
    told = (λ t. p.told.0 (says.told.0 t), λ t. p.told.1 (says.told.1 t), λ t. p.told.2 (says.told.2 t));
    others = (says.counts.0 ∙ p.others.0, says.counts.1 ∙ p.others.1);
    counts = subst (λ (n : ℕ). Rose (g.print_faults a) n) (sym says.counts.2) p.rose;
    to_print = lines;
    says = are;
    only = λ t. only-both (g.tale a) (g.tale b) (g.tale d) (p.only (says.told.0 t)) (says.only t);
    prints = λ t s. let q = p.adds (says.told.1 s) in (q.0, ap (λ (x : Told). x.printed) (says.only t) ∙ q.2);
    lines = λ t s. says.said s ∙ ap (λ (ls : List (List ℕ)). ls ++ codes "out: write fault" ∷ []) (ap (λ (x : Told). x.lines) (p.only (says.told.0 t)));
  }

-- whether there is a lint, by whether there is none
pub some-lint : (b : Bool) (lints : List Lint) → (IsTrue b ↔ (lints ≡ [])) → not b ≡ is_some_lint lints
some-lint true [] h = refl
some-lint false [] h = absurd (false≢true (h.1 refl))
some-lint true (lint ∷ lints) h = let none = h.0 refl in cc
some-lint false (lint ∷ lints) h = refl

use Rattle.std.proofs.Common.{◌≡◌, ◌∙◌, Result, Ok, Err, IfOk, sym, true}
use Rattle.std.specs.Str.{bytes_eq}
use Rattle.std.proofs.lemmas.Slice.Eq.{bytes_eq-Decides}
use Rattle.bt_units.specs.Fields.{at_pipeline, target_of}
use Rattle.bt_units.proofs.Faults.{come_by}
use Rattle.bt_units.proofs.running.batches_of.Goals as goal

seen : {A E : Type 0} (P Q : A → Type 0) → ((x : A) → P x → Q x) → (r : Result A E) → IfOk r P → IfOk r Q
seen P Q turn (Ok x) h = turn x h
seen P Q turn (Err e) h = tt

pub returns-then-eq-clause-come : goal.returns-then-eq-clause-come
returns-then-eq-clause-come c =
    let named = c.target_of.result.now in
    let equal : bytes_eq named at_pipeline ≡ true = sym c.eq.ensures ∙ c.if-eq.true in
    let same : target_of c.args.test.now ≡ at_pipeline = sym c.target_of.ensures ∙ (bytes_eq-Decides named at_pipeline).0 equal in
    seen _ _ (λ bs come. come_by c.args.config.now.doc c.args.pipeline.now c.args.test.now _ c.requires same come) c.by_pipeline.result c.by_pipeline.ensures.come

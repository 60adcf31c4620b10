-- What the answers tell, as every intake does.
use Rattle.std.proofs.Common.{◌≡◌, IsTrue, length, slice_get, sym, ap, ◌∙◌}
use Rattle.bt_ports.specs.Intake.{NextGives, NextStops}
use Rattle.bt_ports.specs.declared.parts.Next.{Next}
use Rattle.bt_ports.specs.declared.parts.Next.TheVariants as next
use Rattle.bt_ports.specs.declared.outside.Source as Source
use Rattle.bt_cut.specs.Cuts.{cut}
use Rattle.bt_lines.specs.Lines.{stop}
use Rattle.bt_intake.specs.declared.batches.Batches.{Batches}
use Rattle.bt_intake.specs.Batches.{ends, source_items}
use Rattle.bt_intake.specs.Gathering.{Gathers, BatchAnswers, items_of, batches_of}
use Rattle.bt_intake.specs.Sources.{all_tell, told}
use Rattle.bt_intake.proofs.SourceLists.{told-kept}

module _ {S : Type 0} (g : Source.Ghosts S) (b c : Batches S) (gathers : Gathers g b c) where
  same_told : IsTrue (all_tell g c.reader.sources.list) → told g c.reader.sources.list ≡ told g b.reader.sources.list
  same_told = told-kept g b.reader.sources.list c.reader.sources.list gathers.kept

  pub same_batches : IsTrue (all_tell g c.reader.sources.list) → batches_of g c ≡ batches_of g b
  same_batches q =
      ap (λ p. cut (ends p) (items_of g c)) gathers.policy
      ∙ ap (λ d. cut (ends b.policy) (source_items d c.reader.bound (told g c.reader.sources.list))) gathers.delimiter
      ∙ ap (λ n. cut (ends b.policy) (source_items b.reader.delimiter n (told g c.reader.sources.list))) gathers.bound
      ∙ ap (λ ss. cut (ends b.policy) (source_items b.reader.delimiter b.reader.bound ss)) (same_told q)

  pub same_stop : IsTrue (all_tell g c.reader.sources.list) → stop c.reader.delimiter c.reader.bound (told g c.reader.sources.list) ≡ stop b.reader.delimiter b.reader.bound (told g b.reader.sources.list)
  same_stop q =
      ap (λ d. stop d c.reader.bound (told g c.reader.sources.list)) gathers.delimiter
      ∙ ap (λ n. stop b.reader.delimiter n (told g c.reader.sources.list)) gathers.bound
      ∙ ap (stop b.reader.delimiter b.reader.bound) (same_told q)

  pub answers-gives : (answer : Next) → BatchAnswers g answer b c → IsTrue (all_tell g c.reader.sources.list) → NextGives answer (batches_of g b) b.given c.given
  answers-gives (next.Batch items) h q = (h.given, ap (λ bs. slice_get bs b.given) (sym (same_batches q)) ∙ h.next q)
  answers-gives next.End h q = (h.0.given, ap length (sym (same_batches q)) ∙ h.1.2 q ∙ h.0.given)
  answers-gives next.Failed h q = h.0.given
  answers-gives (next.LongLine n) h q = (h.0.given, ap length (sym (same_batches q)) ∙ h.1.1 q ∙ h.0.given)
  answers-gives next.Bound h q = (h.0.given, ap length (sym (same_batches q)) ∙ h.1.2 q ∙ h.0.given)
  answers-gives next.NoMemory h q = h.given

  pub answers-ends : (answer : Next) → BatchAnswers g answer b c → IsTrue (all_tell g c.reader.sources.list) → NextStops answer (stop b.reader.delimiter b.reader.bound (told g b.reader.sources.list)) c.reader.bound
  answers-ends (next.Batch items) h q = tt
  answers-ends next.End h q = sym (same_stop q) ∙ h.1.1 q
  answers-ends next.Failed h q = tt
  answers-ends (next.LongLine n) h q = sym (same_stop q) ∙ h.1.0 q
  answers-ends next.Bound h q = sym (same_stop q) ∙ h.1.1 q
  answers-ends next.NoMemory h q = tt

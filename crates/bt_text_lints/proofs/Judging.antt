-- A text that is read, with its lints.
use Rattle.std.proofs.Common.{◌≡◌, ℕ, List, [], map, Result, Ok, Err, IfOk, inr}
use Rattle.bt_lints.specs.declared.lint.MapLint.{MapLint}
use Rattle.bt_lints.specs.declared.lint.Use.{Use}
use Rattle.bt_mapping_text.specs.Faults.{IsReadAs}
use Rattle.bt_syntax.specs.Lexemes.{Lexemes}
use Rattle.bt_tree.specs.declared.tree.Mapping.{Mapping}
use Rattle.bt_text_lints.specs.Verdicts.{HasLints, IsJudged, printed_lint}
use Rattle.bt_text_lints.specs.declared.verdict.Verdict.{Verdict}

pub read-judged : {E : Type 0} (R : Mapping → Lexemes → Type 0) (how : Use) (text : List ℕ) (m : Mapping) (r : Result Verdict E) → IsReadAs R text m →
    IfOk r (λ v. (ls : List MapLint) × HasLints m how ls × (v ≡ record { faults = []; lints = map (printed_lint text) ls })) → IfOk r (IsJudged R how text)
read-judged R how text m (Ok v) read h = inr (m, h.0, read, h.1, h.2)
read-judged R how text m (Err e) read h = tt

-- A mapping that is made ready, or why it isn't.
use Rattle.std.proofs.Common.{◌≡◌, ℕ, List, sym, subst, Result, Ok, Err, IfOk, IfErr}
use Rattle.bt_literals.specs.Literals.{AllRead, patterns}
use Rattle.bt_ready.specs.declared.ready.Ready.{Ready}
use Rattle.bt_tree.specs.declared.tree.Mapping.{Mapping}
use Rattle.bt_blobl.specs.Inside.{IsNoOpening, IsUnread, IsWithin, MappingSays, RefusalSays, TokensSay}
use Rattle.bt_blobl.specs.Text.{HaltSays, HasNoLints, IsTextOf, RunsAs, TextSays}
use Rattle.bt_blobl.specs.declared.course.Halt.{Halt}
use Rattle.bt_blobl.specs.declared.course.Halt.TheVariants as halt
use Rattle.bt_blobl.specs.declared.course.Pass.{Pass}
use Rattle.bt_blobl.proofs.MappingFaults.{says-mapping, says-tokens, tokens-unread, tokens-within_text}

module _ (text : List ℕ) (m : Mapping) where
  pub runs-ready : (r : Result Ready Halt) → IsTextOf m text → IfOk r (λ x. x.mapping ≡ m) → IfOk r (λ x. HasNoLints m) → IfOk r (λ x. AllRead (patterns m)) → IfOk r (λ x. RunsAs text x.mapping)
  runs-ready (Ok x) reads kept none read = subst (RunsAs text) (sym kept) (record { reads = reads; no_lints = none; patterns_read = read })
  runs-ready (Err h) reads kept none read = tt

  pub says-ready : (r : Result Ready Halt) → IsTextOf m text → IfErr r (MappingSays m) → IfErr r (λ h. TokensSay h text)
  says-ready (Ok x) reads says = tt
  says-ready (Err h) reads says = says-mapping text m h reads says

-- what tokens say of a refusal
module _ (text : List ℕ) where
  pub says-of_tokens : (r : Result Ready Halt) → IfErr r (λ h. TokensSay h text) → IfErr r (λ h. RefusalSays h text)
  says-of_tokens (Ok x) says = tt
  says-of_tokens (Err h) says = says-tokens text h says

  pub unread-of_tokens : (r : Result Ready Halt) → IfErr r (λ h. TokensSay h text) → IfErr r IsUnread
  unread-of_tokens (Ok x) says = tt
  unread-of_tokens (Err h) says = tokens-unread text h says

  pub within-of_tokens : (r : Result Ready Halt) → IfErr r (λ h. TokensSay h text) → IfErr r (λ h. IsWithin h text)
  within-of_tokens (Ok x) says = tt
  within-of_tokens (Err h) says = tokens-within_text text h says

-- the text of a mapping that runs, where its lines were mapped, or where no line could be read
module _ (text : List ℕ) (m : Mapping) (runs : RunsAs text m) where
  unopened : (h : Halt) → IsNoOpening h → HaltSays h text
  unopened (halt.Faulty fault at) none = absurd none
  unopened (halt.Lints lints) none = absurd none
  unopened (halt.Pattern at) none = absurd none
  unopened halt.NoSource none = (m, runs)
  unopened halt.NoMemory none = tt

  pub says-running : (r : Result Pass Halt) → IfErr r IsNoOpening → TextSays r text
  says-running (Ok pass) none = (m, runs)
  says-running (Err h) none = unopened h none

-- A text that is read, with its patterns.
use Rattle.std.proofs.Common.{ℕ, List, Result, Ok, Err, IfOk, inr}
use Rattle.std.specs.Prelude.{IfErr}
use Rattle.bt_mapping_text.specs.Faults.{IsReadAs}
use Rattle.bt_ready.specs.declared.ready.Ready.{Ready}
use Rattle.bt_syntax.specs.Lexemes.{Lexemes}
use Rattle.bt_tree.specs.declared.tree.Mapping.{Mapping}
use Rattle.bt_making.specs.Made.{IsBad, IsBuilt, IsReady, IsRefusal, IsUnready}
use Rattle.bt_making.specs.declared.refusal.Refusal.{Refusal}
use Rattle.bt_making.proofs.Refusing.{refused_so}

pub ready_so : (R : Mapping → Lexemes → Type 0) (text : List ℕ) (m : Mapping) (r : Result Ready Refusal) → IsReadAs R text m → IfOk r (IsBuilt m) → IfOk r (IsReady R text)
ready_so R text m (Ok x) read h = (m, read, h)
ready_so R text m (Err e) read h = tt

pub unready_so : (R : Mapping → Lexemes → Type 0) (text at : List ℕ) (m : Mapping) (r : Result Ready Refusal) → IsReadAs R text m →
    IfErr r (IsRefusal (IsBad text m) at) → IfErr r (IsRefusal (IsUnready R text) at)
unready_so R text at m (Ok x) read h = tt
unready_so R text at m (Err e) read h = refused_so (IsBad text m) (IsUnready R text) at e (λ words bad. inr (m, read, bad)) h

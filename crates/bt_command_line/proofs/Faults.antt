-- From `clap`'s list of kinds to whether the words are of the form.
use Rattle.std.proofs.Common.{◌≡◌, ◌==◌, ◌⊎◌, true, false, List, [], ◌∷◌, length, ne_eqb, arith, refl, inl, inr, Result, Ok, Err, IfErr, IfOk}
use Rattle.clap.specs.Words.{FailsBy, HasKind, IsAmong, Kinds, App, Text, fault_of, is_simple_and_free, kind_of, found_of, rows_of, HasMatchesOf, matches_of, is_simple}
use Rattle.clap.specs.declared.error.kind.ErrorKind.{ErrorKind}
use Rattle.clap.specs.declared.error.kind.ErrorKind.TheVariants as kind
use Rattle.clap.specs.declared.error.Error.{Error}
use Rattle.clap.specs.declared.parser.matches.ArgMatches.{ArgMatches}

some_kind : (k : ErrorKind) (kinds : Kinds) → IsAmong k kinds → (length kinds == 0) ≡ false
some_kind k [] h = absurd h
some_kind k (x ∷ xs) h = ne_eqb (length (x ∷ xs)) 0 (omega arith)

err_kind : (kinds : Kinds) (e : Error) → HasKind kinds e → (kind_of e ≡ kind.OutOfMemory) ⊎ ((length kinds == 0) ≡ false)
err_kind kinds e (inl memory) = inl memory
err_kind kinds e (inr among) = inr (some_kind _ kinds among)

pub failed : {T : Type 0} (kinds : Kinds) (r : Result T Error) → FailsBy kinds r →
    IfErr r (λ e. (kind_of e ≡ kind.OutOfMemory) ⊎ ((length kinds == 0) ≡ false))
failed kinds (Ok x) h = tt
failed kinds (Err e) h = err_kind kinds e h

pub failed_at : (app made : App) → made ≡ app → (words : List Text) (r : Result ArgMatches Error) →
    (is_simple_and_free made ≡ true → FailsBy (fault_of made words) r) → is_simple_and_free app ≡ true →
    IfErr r (λ e. (kind_of e ≡ kind.OutOfMemory) ⊎ ((length (fault_of app words) == 0) ≡ false))
failed_at app made same words r kinds free =
    let here : FailsBy (fault_of made words) r = kinds (rw same free) in
    let there : FailsBy (fault_of app words) r = rw same at here in
    failed (fault_of app words) r there

pub rows_at : (app made : App) → made ≡ app → (words : List Text) (r : Result ArgMatches Error) →
    IfOk r (HasMatchesOf made words) → is_simple app ≡ true → IfOk r (λ m. rows_of (found_of m) ≡ matches_of app words)
rows_at app made same words (Ok m) h free = let there : HasMatchesOf app words m = rw same at h in (there free).0
rows_at app made same words (Err e) h free = tt

no_kinds : {T : Type 0} (kinds : Kinds) (x : T) → FailsBy {T = T} kinds (Ok x) → (length kinds == 0) ≡ true
no_kinds kinds x h = rw h refl

pub form_at : (app made : App) → made ≡ app → (words : List Text) (r : Result ArgMatches Error) →
    (is_simple_and_free made ≡ true → FailsBy (fault_of made words) r) → is_simple_and_free app ≡ true →
    IfOk r (λ m. (length (fault_of app words) == 0) ≡ true)
form_at app made same words (Ok m) kinds free =
    let here : FailsBy (fault_of made words) (Ok m) = kinds (rw same free) in
    let there : FailsBy (fault_of app words) (Ok m) = rw same at here in
    no_kinds (fault_of app words) m there
form_at app made same words (Err e) kinds free = tt

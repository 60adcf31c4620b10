-- A list of processors that a pointer names is one that the walk goes through.
use Rattle.std.proofs.Common.{◌≡◌, ℕ, zero, suc, List, [], ◌∷◌, ◌++◌, ◌+◌, ◌==◌, Bool, true, false, Option, Some, None, map, refl, sym, subst, ap, ◌∙◌, rules}
use Rattle.std.specs.Prelude.{codes, if◌then◌else◌, eqb, slice_get}
use Rattle.std.specs.List.{slice_split}
use Rattle.std.specs.Option.{option_and_then}
use Rattle.std.specs.Str.{bytes_eq}
use Rattle.std.proofs.lemmas.Option.{option_and_then_some}
use Rattle.bt_value.specs.Keys.{find}
use Rattle.bt_value.specs.Paths as paths
use Rattle.bt_value.specs.Paths.{at_path, place_named}
use Rattle.bt_value.specs.declared.val.Val.{Val, fold-roll-Val, out-Val, roll-Val, map-Val, the_lemmas}
use Rattle.bt_value.specs.declared.val.Val.TheOpen.{Val-F}
use Rattle.bt_schema.specs.Pointer.{nth, under}
use Rattle.bt_schema.specs.Policies.{Members}
use Rattle.bt_schema.specs.Table.{Rows, element, form_of, member, names_kind}
use Rattle.bt_schema.specs.declared.forms.Form.{Form}
use Rattle.bt_schema.specs.declared.forms.Form.TheVariants as form
use Rattle.bt_schema.specs.declared.lints.Lint.{Lint}
use Rattle.bt_schema.specs.declared.places.Place.{Place}
use Rattle.bt_schema.specs.declared.places.Place.TheVariants as place
use Rattle.bt_walk.specs.Found.{Located, at_pointer}
use Rattle.bt_walk.specs.Meaning.{Meaning}
use Rattle.bt_walk.specs.Members.{is_list, is_walked, kinds}
use Rattle.bt_walk.specs.Own.{of_list, of_object}
use Rattle.bt_walk.specs.Targets.{both, place_below, reach, step}
use Rattle.bt_walk.specs.Walk.{entered, findings, found_step, from_above, in_elements, in_member, in_members, inside, meaning, meaning_step, met, top}
use Rattle.bt_walk.specs.declared.above.Above.{Above}
use Rattle.bt_config.specs.Violations.{AreViolations}
use Rattle.bt_compile.specs.Compiled.{IsFaultAt, elements_at, elements_of, named_by, outline}
use Rattle.bt_compile.specs.Reading.{Reading, reading, reading_step}
use Rattle.bt_compile.specs.declared.fault.ProcsFault.TheVariants as fault
use Rattle.bt_compile_laws.specs.Patterns.{IsPatternLintAt}
use Rattle.bt_compile_laws.proofs.Known.{pattern_lint}
use Rattle.bt_compile_laws.proofs.Fine.{AllFine, fine, fine_before, fine_behind}
use Rattle.bt_compile_laws.proofs.Fields.{inserted, same_bytes}
use Rattle.bt_compile_laws.proofs.Places.{IsDone, IsGood}
use Rattle.bt_compile_laws.proofs.Walked.{good}

-- nothing wrong is found at and below a value, where it stands at a place
abbrev IsClean : Place × Val → Type 0
IsClean p = (config : Val) × (above : Above) × (at : List ℕ) × AllFine ((meaning p.1).found config p.0 above at)

opened : (v : Val) → roll-Val (out-Val v) ≡ v
opened v = search (rules, the_lemmas)

-- ---- names of version 1 are names of version 2

same_place : (p q : Place) → ◌≡◌ {A = Option Place} (Some p) (Some q) → p ≡ q
same_place p q h = cc

either : (o : Option Place) (p q : Place) → o ≡ Some p → o ≡ Some q → p ≡ q
either o p q h k = same_place p q (sym h ∙ k)

grown : (here : Place) (key : List ℕ) (p q : Place) → member false here key ≡ Some p → member true here key ≡ Some q → p ≡ q
grown here key p q =
    elim here as (λ (x : Place). member false x key ≡ Some p → member true x key ≡ Some q → p ≡ q) [
      | place.Pipeline ↦ λ h k.
          either _ p q (inserted key (codes "window") place.Window ((codes "processors", place.Processors) ∷ (codes "threads", place.Threads) ∷ []) [] p refl h) k
      | place.Input ↦ λ h k.
          let first : Rows = (codes "batched", place.Batched) ∷ (codes "file", place.FileInput) ∷ (codes "label", place.Label) ∷ (codes "processors", place.Refused) ∷ [] in
          let last : Rows = (codes "stdin", place.Stdin) ∷ [] in
          either _ p q
          (inserted key (codes "read_until") place.ReadUntil first ((codes "sequence", place.Sequence) ∷ last) p refl (inserted key (codes "sequence") place.Sequence first last p refl h)) k
      | place.Stdin ↦ λ h k.
          either _ p q (inserted key (codes "codec") place.Codec ((codes "auto_replay_nacks", place.Never) ∷ []) ((codes "scanner", place.Scanner) ∷ []) p refl h) k
      | place.FileInput ↦ λ h k.
          either _ p q
          (inserted key (codes "codec") place.Codec ((codes "auto_replay_nacks", place.Never) ∷ []) ((codes "paths", place.Paths) ∷ (codes "scanner", place.Scanner) ∷ []) p refl h) k
      | place.Scanner ↦ λ h k. either _ p q (inserted key (codes "csv") place.CsvScanner [] ((codes "lines", place.LinesScanner) ∷ []) p refl h) k
      | place.LinesScanner ↦ λ h k. either _ p q (inserted key (codes "custom_delimiter") place.LinesDelimiter [] [] p refl h) k
      | _ ↦ λ h k. either _ p q h k
    ]

member_place : (newer : Bool) (here : Place) (key : List ℕ) (p q : Place) → member newer here key ≡ Some p → member true here key ≡ Some q → p ≡ q
member_place true here key p q h k = either (member true here key) p q h k
member_place false here key p q h k = grown here key p q h k

-- ---- one name

no_value : (w : Place × Val) → ◌≡◌ {A = Option (Place × Val)} None (Some w) → ⊥
no_value w h = cc

none_val : (w : Val) → ◌≡◌ {A = Option Val} None (Some w) → ⊥
none_val w h = cc

same_val : (v w : Val) → ◌≡◌ {A = Option Val} (Some v) (Some w) → v ≡ w
same_val v w h = cc

in_elements_clean : (vs : List Val) (i k : ℕ) (w : Val) (config : Val) (there : Place) (above : Above) (at : List ℕ) → slice_get vs i ≡ Some w →
    AllFine (in_elements config there above at k (map meaning vs)) → IsClean (there, w)
in_elements_clean [] i k w config there above at e h = absurd (none_val w e)
in_elements_clean (v ∷ vs) zero k w config there above at e h =
    let first : List Located = (meaning v).found config there above (nth at k) in
    let rest : List Located = in_elements config there above at (k + 1) (map meaning vs) in
    subst (λ (x : Val). IsClean (there, x)) (same_val v w e) (config, above, nth at k, fine_before first rest h)
in_elements_clean (v ∷ vs) (suc i) k w config there above at e h =
    let first : List Located = (meaning v).found config there above (nth at k) in
    let rest : List Located = in_elements config there above at (k + 1) (map meaning vs) in
    in_elements_clean vs i (k + 1) w config there above at e (fine_behind first rest h)

known : (o : Option Place) (m : List ℕ × Val) (config : Val) (here : Place) (above : Above) (at : List ℕ) → AllFine (in_member config o here above at (meaning m.1)) →
    (p : Place) × (o ≡ Some p) × IsClean (p, m.1)
known (Some p) m config here above at h = (p, refl, (config, entered here p (meaning m.1) above, at, h))
known None m config here above at h = absurd h.0

this_member : (m : List ℕ × Val) (config : Val) (here : Place) (above : Above) (at : List ℕ) (there : Place) → member true here m.0 ≡ Some there →
    AllFine (in_member config (member above.newer here m.0) here above at (meaning m.1)) → IsClean (there, m.1)
this_member m config here above at there e h =
    let k = known (member above.newer here m.0) m config here above at h in
    subst (λ (p : Place). IsClean (p, m.1)) (member_place above.newer here m.0 k.0 there k.1 e) k.2

one_of : (b : Bool) (v w : Val) (o : Option Val) (P : Type 0) → (b ≡ true → v ≡ w → P) → (o ≡ Some w → P) → (if b then Some v else o) ≡ Some w → P
one_of true v w o P f g h = f refl (same_val v w h)
one_of false v w o P f g h = g h

in_members_clean : (ms : Members Val) (config : Val) (here : Place) (above : Above) (at name : List ℕ) (there : Place) (w : Val) → member true here name ≡ Some there →
    find name ms ≡ Some w → AllFine (in_members config here above at (met ms)) → IsClean (there, w)
in_members_clean [] config here above at name there w e f h = absurd (none_val w f)
in_members_clean (m ∷ ms) config here above at name there w e f h =
    let first : List Located = in_member config (member above.newer here m.0) here above (under at m.0) (meaning m.1) in
    let rest : List Located = in_members config here above at (met ms) in
    one_of (bytes_eq name m.0) m.1 w (find name ms) (IsClean (there, w))
    (λ same is. subst (λ (x : Val). IsClean (there, x)) is (this_member m config here above (under at m.0) there
    (subst (λ (k : List ℕ). member true here k ≡ Some there) (same_bytes name m.0 same) e) (fine_before first rest h)))
    (λ k. in_members_clean ms config here above at name there w e k (fine_behind first rest h)) f

same_kinds : (here : Place) (ms : Members Val) → kinds here (met ms) ≡ kinds here ms
same_kinds here [] = refl
same_kinds here (m ∷ ms) = ap (λ n. (if names_kind here m.0 then 1 else 0) + n) (same_kinds here ms)

same_walked : (f : Form) (here : Place) (ms : Members Val) → is_walked f here (met ms) ≡ is_walked f here ms
same_walked f here ms =
    elim f as (λ (x : Form). is_walked x here (met ms) ≡ is_walked x here ms) [
      | form.Component ↦ ap (λ n. n == 1) (same_kinds here ms)
      | form.Choice ↦ ap (λ n. n == 1) (same_kinds here ms)
      | _ ↦ refl
    ]

-- where a test has let a walk in, what lies below is found
let_in : (b : Bool) (xs : List Located) → b ≡ true → AllFine (if b then xs else []) → AllFine xs
let_in true xs e h = h
let_in false xs e h = absurd (cc)

-- a place and a value that are both there
both_there : (b : Bool) (o : Option Place) (v : Option Val) (r : Place × Val) (P : Type 0) → (b ≡ true → o ≡ Some r.0 → v ≡ Some r.1 → P) →
    both (if b then o else None) v ≡ Some r → P
both_there true (Some p) (Some v) r P f h =
    let is : ◌≡◌ {A = Place × Val} (p, v) r = cc in
    f refl (ap (λ (x : Place × Val). Some x.0) is) (ap (λ (x : Place × Val). Some x.1) is)
both_there true (Some p) None r P f h = absurd (no_value r h)
both_there true None v r P f h = absurd (no_value r h)
both_there false o v r P f h = absurd (no_value r h)

at_once : (o : Option Val) → option_and_then (at_path []) o ≡ o
unfolding at_path
at_once (Some v) = refl
at_once None = refl

step_in : (name : List ℕ) (here : Place) (x : Val-F Val) (r : Place × Val) (config : Val) (above : Above) (at : List ℕ) →
    both (place_below name here x) (paths.step name x) ≡ Some r → AllFine (found_step (map-Val Val Meaning meaning x) config here above at) → IsClean r
step_in name here Val-F.Null r config above at e h = absurd (no_value r e)
step_in name here (Val-F.Bool b) r config above at e h = absurd (no_value r e)
step_in name here (Val-F.Int n) r config above at e h = absurd (no_value r e)
step_in name here (Val-F.Str t) r config above at e h = absurd (no_value r e)
step_in name here (Val-F.Bytes b) r config above at e h = absurd (no_value r e)
step_in name here (Val-F.Arr vs) r config above at e h =
    let ms : List Meaning = map meaning vs in
    let b = is_list (form_of here) in
    let xs : List Located = in_elements config (element here) (inside above) at 0 ms in
    let below : AllFine (if b then xs else []) = fine_behind (at_pointer at (of_list (form_of here) _ ++ from_above above)) (if b then xs else []) h in
    both_there b (Some (element here)) (option_and_then (slice_get vs) (place_named name)) r (IsClean r)
    (λ is there found. option_and_then_some (slice_get vs) (place_named name) r.1 found (λ i known at_i.
    subst (λ (p : Place). IsClean (p, r.1)) (same_place (element here) r.0 there)
    (in_elements_clean vs i 0 r.1 config (element here) (inside above) at at_i (let_in b xs is below)))) e
step_in name here (Val-F.Obj ms) r config above at e h =
    let b = is_walked (form_of here) here (met ms) in
    let xs : List Located = in_members config here above at (met ms) in
    let below : AllFine (if b then xs else []) = fine_behind (at_pointer at (of_object (form_of here) here above (met ms) ++ from_above above)) (if b then xs else []) h in
    both_there (is_walked (form_of here) here ms) (member true here name) (find name ms) r (IsClean r)
    (λ is there found. in_members_clean ms config here above at name r.0 r.1 there found (let_in b xs (same_walked (form_of here) here ms ∙ is) below)) e

stepped : (name : List ℕ) (p r : Place × Val) → step name p ≡ Some r → IsClean p → IsClean r
unfolding at_path
stepped name p r e h =
    let x : Val-F Val = out-Val p.1 in
    let is : meaning p.1 ≡ meaning_step (map-Val Val Meaning meaning x) = ap meaning (sym (opened p.1)) ∙ fold-roll-Val Meaning meaning_step x in
    let found : AllFine (found_step (map-Val Val Meaning meaning x) h.0 p.0 h.1 h.2) = subst (λ (m : Meaning). AllFine (m.found h.0 p.0 h.1 h.2)) is h.3 in
    step_in name p.0 x r h.0 h.1 h.2 (ap (both (place_below name p.0 x)) (sym (at_once (paths.step name x))) ∙ e) found

reached : (names : List (List ℕ)) (p q : Place × Val) → reach names p ≡ Some q → IsClean p → IsClean q
reached [] p q e h = let same : p ≡ q = cc in subst IsClean same h
reached (name ∷ names) p q e h =
    option_and_then_some (reach names) (step name p) q e (λ r s k. reached names r q k (stepped name p r s h))

-- ---- the list that is named

list_of : (here : Place) (x : Val-F Val) (vs : List Val) → elements_of here x ≡ Some vs → (here ≡ place.Processors) × (x ≡ Val-F.Arr vs)
list_of here x vs =
    elim here as (λ (p : Place). elements_of p x ≡ Some vs → (p ≡ place.Processors) × (x ≡ Val-F.Arr vs)) [
      | place.Processors ↦ of_value x
      | _ ↦ λ h. absurd (cc)
    ]
  where
    of_value : (y : Val-F Val) → elements_of place.Processors y ≡ Some vs → (place.Processors ≡ place.Processors) × (y ≡ Val-F.Arr vs)
    of_value Val-F.Null h = absurd (cc)
    of_value (Val-F.Bool b) h = absurd (cc)
    of_value (Val-F.Int n) h = absurd (cc)
    of_value (Val-F.Str t) h = absurd (cc)
    of_value (Val-F.Bytes b) h = absurd (cc)
    of_value (Val-F.Arr us) h = let same : us ≡ vs = cc in (refl, ap Val-F.Arr same)
    of_value (Val-F.Obj ms) h = absurd (cc)

done_list : (p : Place × Val) (vs : List Val) → elements_of p.0 (out-Val p.1) ≡ Some vs → IsClean p → IsDone (outline vs)
done_list p vs e h =
    let at = list_of p.0 (out-Val p.1) vs e in
    let done : IsGood p.0 (reading p.1) = good p.1 p.0 h.0 h.1 h.2 h.3 in
    let there : IsGood place.Processors (reading p.1) = subst (λ (q : Place). IsGood q (reading p.1)) at.0 done in
    let is : reading p.1 ≡ reading_step (Val-F.Arr (map reading vs)) =
    ap reading (sym (opened p.1)) ∙ ap (λ (x : Val-F Val). reading (roll-Val x)) at.1 ∙ fold-roll-Val Reading reading_step (Val-F.Arr vs) in
    (subst (IsGood place.Processors) is there).0

done_at : (o : Option (Place × Val)) (vs : List Val) → elements_at o ≡ Some vs → ((p : Place × Val) → o ≡ Some p → IsClean p) → IsDone (outline vs)
done_at (Some p) vs e f = done_list p vs e (f p refl)
done_at None vs e f = absurd (cc)

done_named : (names : List (List ℕ)) (config : Val) (vs : List Val) → named_by names config ≡ Some vs → IsClean (place.Top, config) → IsDone (outline vs)
done_named [] config vs e h = absurd (cc)
done_named ([] ∷ names) config vs e h = done_at (reach names (place.Top, config)) vs e (λ p r. reached names (place.Top, config) p r h)
done_named ((c ∷ cs) ∷ names) config vs e h = absurd (cc)

clean_top : (config : Val) → AreViolations config [] → IsClean (place.Top, config)
unfolding findings
clean_top config h = (config, top config, [], fine (findings config) [] h refl)

pub lints_are_of_patterns : (config : Val) (pointer : List ℕ) (l : Lint) → AreViolations config [] → IsFaultAt config pointer (fault.Lint l) → IsPatternLintAt config pointer l
lints_are_of_patterns config pointer l h f =
    let done : IsDone (outline f.0) = done_named (slice_split (λ b. eqb b 47) pointer) config f.0 f.1 (clean_top config h) in
    (f.0, f.1, pattern_lint ((outline f.0).texts pointer) l (done pointer) f.2)

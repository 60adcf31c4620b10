-- Where a walk finds nothing wrong, and each text that it finds is read, each text that is to be made ready is read.
use Rattle.std.proofs.Common.{◌≡◌, ℕ, ℤ, ◌==◌, List, [], ◌∷◌, ◌++◌, ◌+◌, Bool, true, false, Some, None, length, map, refl, sym, subst, ◌∙◌}
use Rattle.std.specs.Prelude.{codes, if◌then◌else◌, not}
use Rattle.bt_value.specs.Keys.{find}
use Rattle.bt_value.specs.declared.val.Val.{Val, fold-roll-Val, ind-Val, roll-Val, map-Val}
use Rattle.bt_value.specs.declared.val.Val.TheOpen.{Val-F}
use Rattle.bt_schema.specs.Pointer.{nth, under}
use Rattle.bt_schema.specs.Table.{form_of}
use Rattle.bt_schema.specs.declared.forms.Language.{Language}
use Rattle.bt_schema.specs.declared.forms.Language.TheVariants as language
use Rattle.bt_schema.specs.declared.lints.LintKind.{LintKind}
use Rattle.bt_schema.specs.declared.lints.LintKind.TheVariants as lints
use Rattle.bt_schema.specs.declared.places.Place.{Place}
use Rattle.bt_schema.specs.declared.places.Place.TheVariants as place
use Rattle.bt_walk.specs.Found as found
use Rattle.bt_walk.specs.Found.{Fact, Located, at_pointer, when}
use Rattle.bt_walk.specs.Meaning.{Meaning}
use Rattle.bt_walk.specs.Members.{has, kinds}
use Rattle.bt_walk.specs.Own.{of_list, of_object}
use Rattle.bt_walk.specs.Walk.{found_step, from_above, in_elements, in_members, inside, meaning, meaning_step}
use Rattle.bt_walk.specs.declared.above.Above.{Above}
use Rattle.bt_compile.specs.Kinds.{chosen}
use Rattle.bt_compile.specs.Outlines.{Outline, formed, plain, text_as, texts_from}
use Rattle.bt_compile.specs.Reading as spec
use Rattle.bt_compile.specs.Reading.{Reading, nothing, reading, reading_step}
use Rattle.bt_compile_laws.proofs.Known.{AllRead, all_along}
use Rattle.bt_compile_laws.proofs.Fine.{AllFine, fine_before, fine_behind}
use Rattle.bt_compile_laws.proofs.Fields.{IsDoneAt, Shown, both_there, choice, field, readings, walked}
use Rattle.bt_compile_laws.proofs.Places.{IsDone, IsGood, check, optional_check, optional_mapping, processor_in, processors, singles, value}

-- ---- what is neither a text nor a list nor an object

-- a text or an object has to be there
abbrev NotThere : Place → Type 0
NotThere place.Mapping = ⊥
NotThere place.Check = ⊥
NotThere place.Interpolated = ⊥
NotThere place.Group = ⊥
NotThere place.GroupByValue = ⊥
NotThere _ = Unit {0}

bare : (b : Bool) (n : ℕ) (here : Place) → NotThere here → IsGood here (record nothing { is_set = b; number = n })
bare b n here =
    elim here as (λ (p : Place). NotThere p → IsGood p (record nothing { is_set = b; number = n })) [
      | place.Mapping ↦ λ h. absurd h
      | place.OptionalMapping ↦ λ h at. tt
      | place.Check ↦ λ h. absurd h
      | place.OptionalCheck ↦ λ h at. tt
      | place.Interpolated ↦ λ h. absurd h
      | place.Processor ↦ λ h. (λ at. tt, λ at. tt)
      | place.Processors ↦ λ h. (λ at. tt, λ at. tt)
      | place.Switch ↦ λ h at. tt
      | place.SwitchCase ↦ λ h at. tt
      | place.Branch ↦ λ h at. tt
      | place.GroupBy ↦ λ h at. tt
      | place.Group ↦ λ h. absurd h
      | place.GroupByValue ↦ λ h. absurd h
      | _ ↦ λ h. tt
    ]

null : (here : Place) (config : Val) (above : Above) (at : List ℕ) → AllFine (found_step Val-F.Null config here above at) → NotThere here
null here config above at =
    elim here as (λ (p : Place). AllFine (found_step Val-F.Null config p above at) → NotThere p) [
      | place.Mapping ↦ λ h. h.0
      | place.Check ↦ λ h. h.0
      | place.Interpolated ↦ λ h. h.0
      | place.Group ↦ λ h. h.0
      | place.GroupByValue ↦ λ h. h.0
      | _ ↦ λ h. tt
    ]

boolean : (b : Bool) (here : Place) (config : Val) (above : Above) (at : List ℕ) → AllFine (found_step (Val-F.Bool b) config here above at) → NotThere here
boolean b here config above at =
    elim here as (λ (p : Place). AllFine (found_step (Val-F.Bool b) config p above at) → NotThere p) [
      | place.Mapping ↦ λ h. h.0
      | place.Check ↦ λ h. h.0
      | place.Interpolated ↦ λ h. h.0
      | place.Group ↦ λ h. h.0
      | place.GroupByValue ↦ λ h. h.0
      | _ ↦ λ h. tt
    ]

number : (n : ℤ) (here : Place) (config : Val) (above : Above) (at : List ℕ) → AllFine (found_step (Val-F.Int n) config here above at) → NotThere here
number n here config above at =
    elim here as (λ (p : Place). AllFine (found_step (Val-F.Int n) config p above at) → NotThere p) [
      | place.Mapping ↦ λ h. h.0
      | place.Check ↦ λ h. h.0
      | place.Interpolated ↦ λ h. h.0
      | place.Group ↦ λ h. h.0
      | place.GroupByValue ↦ λ h. h.0
      | _ ↦ λ h. tt
    ]

bytes : (b : List ℕ) (here : Place) (config : Val) (above : Above) (at : List ℕ) → AllFine (found_step (Val-F.Bytes b) config here above at) → NotThere here
bytes b here config above at =
    elim here as (λ (p : Place). AllFine (found_step (Val-F.Bytes b) config p above at) → NotThere p) [
      | place.Mapping ↦ λ h. h.0
      | place.Check ↦ λ h. h.0
      | place.Interpolated ↦ λ h. h.0
      | place.Group ↦ λ h. h.0
      | place.GroupByValue ↦ λ h. h.0
      | _ ↦ λ h. tt
    ]

-- ---- a text

optional : (how : Language) (t : List ℕ) (b : Bool) (at : List ℕ) (more : List Fact) (rest : List Located) →
    AllFine (at_pointer at ((if b then [] else found.text how t ∷ []) ++ more) ++ rest) → IsDone (if b then plain None else formed Some (text_as how t))
optional how t true at more rest h = λ here. tt
optional how t false at more rest h = λ here. (h.0, tt)

text : (t : List ℕ) (here : Place) (config : Val) (above : Above) (at : List ℕ) → AllFine (found_step (Val-F.Str t) config here above at) →
    IsGood here (record nothing { text = t })
text t here config above at =
    elim here as (λ (p : Place). AllFine (found_step (Val-F.Str t) config p above at) → IsGood p (record nothing { text = t })) [
      | place.Mapping ↦ λ h. h.0
      | place.OptionalMapping ↦ λ h. optional language.Mapping t (length t == 0) at (from_above above) [] h
      | place.Check ↦ λ h. h.0
      | place.OptionalCheck ↦ λ h. optional language.Check t (length t == 0) at (from_above above) [] h
      | place.Interpolated ↦ λ h. h.0
      | place.Processor ↦ λ h. (λ at. tt, λ at. tt)
      | place.Processors ↦ λ h. (λ at. tt, λ at. tt)
      | place.Switch ↦ λ h at. tt
      | place.SwitchCase ↦ λ h at. tt
      | place.Branch ↦ λ h at. tt
      | place.GroupBy ↦ λ h at. tt
      | place.Group ↦ λ h. absurd h.0
      | place.GroupByValue ↦ λ h. absurd h.0
      | _ ↦ λ h. tt
    ]

-- ---- a list

each : {X : Type 0} (g : Reading → Outline X) (there : Place) (gets : (r : Reading) → IsGood there r → IsDone (g r)) (vs : List Shown)
    (config : Val) (above : Above) (at : List ℕ) (i : ℕ) → AllFine (in_elements config there above at i (map meaning (map (λ (e : Shown). e.0) vs))) →
    (here : List ℕ) (j : ℕ) → AllRead (texts_from here j (map g (map reading (map (λ (e : Shown). e.0) vs))))
each g there gets [] config above at i h here j = tt
each g there gets (v ∷ vs) config above at i h here j =
    let first : List Located = (meaning v.0).found config there above (nth at i) in
    let rest : List Located = in_elements config there above at (i + 1) (map meaning (map (λ (e : Shown). e.0) vs)) in
    all_along ((g (reading v.0)).texts (nth here j)) (texts_from here (j + 1) (map g (map reading (map (λ (e : Shown). e.0) vs))))
    (gets (reading v.0) (v.1 there config above (nth at i) (fine_before first rest h)) (nth here j))
    (each g there gets vs config above at (i + 1) (fine_behind first rest h) here (j + 1))

list : (vs : List Shown) (here : Place) (config : Val) (above : Above) (at : List ℕ) →
    let ms = map meaning (map (λ (e : Shown). e.0) vs) in
    AllFine (found_step (Val-F.Arr ms) config here above at) → IsGood here (reading_step (Val-F.Arr (map reading (map (λ (e : Shown). e.0) vs))))
list vs here config above at =
    let ms : List Meaning = map meaning (map (λ (e : Shown). e.0) vs) in
    let rs : List Reading = map reading (map (λ (e : Shown). e.0) vs) in
    elim here as (λ (p : Place). AllFine (found_step (Val-F.Arr ms) config p above at) → IsGood p (reading_step (Val-F.Arr rs))) [
      | place.Mapping ↦ λ h. absurd h.0
      | place.OptionalMapping ↦ λ h at. tt
      | place.Check ↦ λ h. absurd h.0
      | place.OptionalCheck ↦ λ h at. tt
      | place.Interpolated ↦ λ h. absurd h.0
      | place.Processor ↦ λ h. (λ at. tt, λ at. tt)
      | place.Processors ↦ λ h.
          let below = fine_behind (at_pointer at (of_list (form_of place.Processors) (length ms) ++ from_above above)) (in_elements config place.Processor (inside above) at 0 ms) h in (
            λ to. each (λ r. r.processor) place.Processor (λ r k. k.0) vs config (inside above) at 0 below to 0,
            λ to. each (λ r. r.single) place.Processor (λ r k. k.1) vs config (inside above) at 0 below to 0,
          )
      | place.Switch ↦ λ h.
          let below = fine_behind (at_pointer at (of_list (form_of place.Switch) (length ms) ++ from_above above)) (in_elements config place.SwitchCase (inside above) at 0 ms) h in
          λ to. each (λ r. r.switch_case) place.SwitchCase (λ r k. k) vs config (inside above) at 0 below to 0
      | place.SwitchCase ↦ λ h at. tt
      | place.Branch ↦ λ h at. tt
      | place.GroupBy ↦ λ h.
          let below = fine_behind (at_pointer at (of_list (form_of place.GroupBy) (length ms) ++ from_above above)) (in_elements config place.Group (inside above) at 0 ms) h in
          λ to. each (λ r. r.group) place.Group (λ r k. k) vs config (inside above) at 0 below to 0
      | place.Group ↦ λ h. absurd h.0
      | place.GroupByValue ↦ λ h. absurd h.0
      | _ ↦ λ h. tt
    ]

-- ---- an object

one_kind : (b : Bool) (at : List ℕ) (more : List Fact) (xs : List Located) → AllFine (at_pointer at (when (not b) lints.NotOneKind ++ more) ++ (if b then xs else [])) → AllFine xs
one_kind true at more xs h = fine_behind (at_pointer at more) xs h
one_kind false at more xs h = absurd h.0

required_there : (b : Bool) (k : LintKind) (at : List ℕ) (u v w : List Fact) (rest : List Located) → AllFine (at_pointer at (((when (not b) k ++ u) ++ v) ++ w) ++ rest) → b ≡ true
required_there true k at u v w rest h = refl
required_there false k at u v w rest h = absurd h.0

module _ (ms : List (List ℕ × Shown)) (config : Val) (above : Above) (at : List ℕ) where
  below : (here : Place) (a : List Located) → AllFine (a ++ in_members config here above at (walked ms)) → AllFine (in_members config here above at (walked ms))
  below here a h = fine_behind a (in_members config here above at (walked ms)) h

  component : AllFine (in_members config place.Processor above at (walked ms)) →
      IsDone (spec.processor_in (chosen (readings ms))) × IsDone (spec.single_in (chosen (readings ms)))
  component h = processor_in (chosen (readings ms)) (choice ms config above at h)

  switch_case : AllFine (in_members config place.SwitchCase above at (walked ms)) → IsDone (spec.switch_case_in (readings ms))
  switch_case h to =
      let check = spec.optional_at language.Check (codes "check") (readings ms) in
      let inside = spec.singles_at (codes "processors") (readings ms) in
      all_along (check.texts to) (inside.texts to)
      (optional_check (find (codes "check") (readings ms)) (field ms config place.SwitchCase above at (codes "check") place.OptionalCheck refl h) (under to (codes "check")))
      (singles (find (codes "processors") (readings ms)) (field ms config place.SwitchCase above at (codes "processors") place.Processors refl h) (under to (codes "processors")))

  branch : AllFine (in_members config place.Branch above at (walked ms)) → IsDone (spec.branch_in (readings ms))
  branch h to =
      let inside = spec.singles_at (codes "processors") (readings ms) in
      let request = spec.optional_at language.Mapping (codes "request_map") (readings ms) in
      let back = spec.optional_at language.Mapping (codes "result_map") (readings ms) in
      all_along (inside.texts to ++ request.texts to) (back.texts to)
      (all_along (inside.texts to) (request.texts to)
      (singles (find (codes "processors") (readings ms)) (field ms config place.Branch above at (codes "processors") place.Processors refl h) (under to (codes "processors")))
      (optional_mapping (find (codes "request_map") (readings ms)) (field ms config place.Branch above at (codes "request_map") place.OptionalMapping refl h) (under to (codes "request_map"))))
      (optional_mapping (find (codes "result_map") (readings ms)) (field ms config place.Branch above at (codes "result_map") place.OptionalMapping refl h) (under to (codes "result_map")))

  group : has (walked ms) (codes "check") ≡ true → AllFine (in_members config place.Group above at (walked ms)) → IsDone (spec.group_in (readings ms))
  group there h to = (
    check (find (codes "check") (readings ms)) (both_there ms (codes "check") ∙ there) (field ms config place.Group above at (codes "check") place.Check refl h),
    processors (find (codes "processors") (readings ms)) (field ms config place.Group above at (codes "processors") place.Processors refl h) (under to (codes "processors")),
  )

object : (ms : List (List ℕ × Shown)) (here : Place) (config : Val) (above : Above) (at : List ℕ) →
    AllFine (found_step (Val-F.Obj (walked ms)) config here above at) → IsGood here (reading_step (Val-F.Obj (readings ms)))
object ms here config above at =
    elim here as (λ (p : Place). AllFine (found_step (Val-F.Obj (walked ms)) config p above at) → IsGood p (reading_step (Val-F.Obj (readings ms)))) [
      | place.Mapping ↦ λ h. absurd h.0
      | place.OptionalMapping ↦ λ h at. tt
      | place.Check ↦ λ h. absurd h.0
      | place.OptionalCheck ↦ λ h at. tt
      | place.Interpolated ↦ λ h. absurd h.0
      | place.Processor ↦ λ h.
          component ms config above at (one_kind (kinds place.Processor (walked ms) == 1) at (from_above above) (in_members config place.Processor above at (walked ms)) h)
      | place.Processors ↦ λ h. (λ at. tt, λ at. tt)
      | place.Switch ↦ λ h at. tt
      | place.SwitchCase ↦ λ h.
          switch_case ms config above at
          (below ms config above at place.SwitchCase (at_pointer at (of_object (form_of place.SwitchCase) place.SwitchCase above (walked ms) ++ from_above above)) h)
      | place.Branch ↦ λ h.
          branch ms config above at (below ms config above at place.Branch (at_pointer at (of_object (form_of place.Branch) place.Branch above (walked ms) ++ from_above above)) h)
      | place.GroupBy ↦ λ h at. tt
      | place.Group ↦ λ h.
          group ms config above at
          (required_there (has (walked ms) (codes "check")) (lints.Missing (codes "check")) at [] [] (from_above above) (in_members config place.Group above at (walked ms)) h)
          (below ms config above at place.Group (at_pointer at (of_object (form_of place.Group) place.Group above (walked ms) ++ from_above above)) h)
      | place.GroupByValue ↦ λ h.
          value (find (codes "value") (readings ms))
          (both_there ms (codes "value")
          ∙ required_there (has (walked ms) (codes "value")) (lints.Missing (codes "value")) at [] [] (from_above above) (in_members config place.GroupByValue above at (walked ms)) h)
          (field ms config place.GroupByValue above at (codes "value") place.Interpolated refl
          (below ms config above at place.GroupByValue (at_pointer at (of_object (form_of place.GroupByValue) place.GroupByValue above (walked ms) ++ from_above above)) h))
      | _ ↦ λ h. tt
    ]

-- ---- any value

abbrev under_shown : Val-F Shown → Val-F Val
under_shown y = map-Val Shown Val (λ e. e.0) y

level : (y : Val-F Shown) (here : Place) (config : Val) (above : Above) (at : List ℕ) →
    AllFine (found_step (map-Val Val Meaning meaning (under_shown y)) config here above at) → IsGood here (reading_step (map-Val Val Reading reading (under_shown y)))
level Val-F.Null here config above at h = bare false 1 here (null here config above at h)
level (Val-F.Bool b) here config above at h = bare b 1 here (boolean b here config above at h)
level (Val-F.Int n) here config above at h = bare false (spec.size_of n) here (number n here config above at h)
level (Val-F.Str t) here config above at h = text t here config above at h
level (Val-F.Bytes b) here config above at h = bare false 1 here (bytes b here config above at h)
level (Val-F.Arr vs) here config above at h = list vs here config above at h
level (Val-F.Obj ms) here config above at h = object ms here config above at h

pub good : (v : Val) → IsDoneAt v
good = ind-Val IsDoneAt (λ x y is. subst (λ z. IsDoneAt (roll-Val z)) is (λ here config above at h.
    subst (IsGood here) (sym (fold-roll-Val Reading reading_step (under_shown y)))
    (level y here config above at
    (subst (λ (m : Meaning). AllFine (m.found config here above at)) (fold-roll-Val Meaning meaning_step (under_shown y)) h))))

-- A query gives the same in environments that agree on the maps that it applies.
use Rattle.std.proofs.Common.{◌≡◌, ℕ, suc, length, arith, List, [], ◌∷◌, ◌++◌, codes, Bool, true, false, Option, Some, None, Result, Ok, Err, map, flat_map, if◌then◌else◌, refl, sym, ap, ap₂, ◌∙◌, subst}
use Rattle.std.specs.Prelude.{nat_le, ◌&&◌}
use Rattle.std.specs.List.{AllByRecursion as AllOf, Contains}
use Rattle.bt_value.specs.Keys.{find}
use Rattle.bt_value.specs.Names.{methods, functions}
use Rattle.bt_value.specs.declared.val.Val.{Val}
use Rattle.bt_value.specs.declared.names.MethodId.{MethodId}
use Rattle.bt_value.specs.declared.names.MethodId.TheVariants as m
use Rattle.bt_value.specs.declared.names.FunctionId.{FunctionId}
use Rattle.bt_value.specs.declared.names.Op.{Op}
use Rattle.bt_value.specs.declared.names.Op.TheVariants as op
use Rattle.bt_value.specs.declared.message.Out.{Out}
use Rattle.bt_tree.specs.declared.tree.Query.{Query, fold-roll-Query, ind-Query, roll-Query, map-Query}
use Rattle.bt_tree.specs.declared.tree.Query.TheOpen.{Query-F}
use Rattle.bt_tree.specs.declared.tree.Word.{Word}
use Rattle.bt_tree.specs.declared.tree.Arg.{Arg}
use Rattle.bt_tree.specs.declared.tree.Arg.TheVariants as a
use Rattle.bt_tree.specs.declared.tree.Branch.{Branch}
use Rattle.bt_tree.specs.declared.tree.Case.{Case}
use Rattle.bt_tree.specs.declared.tree.Case.TheVariants as case
use Rattle.bt_tree.specs.declared.tree.Suffix.{Suffix}
use Rattle.bt_tree.specs.declared.tree.Suffix.TheVariants as s
use Rattle.bt_tree.specs.declared.tree.Term.{Term}
use Rattle.bt_tree.specs.Parts.{in_arg, in_member, in_term, in_case, in_branch, in_suffix, in_option}
use Rattle.bt_tree.proofs.MapLayers.{map-Call, map-Item, map-Match, map-If}
use Rattle.bt_calls.specs.Shapes.{Shape, text, query, lambda, shape_in}
use Rattle.bt_calls.specs.Table.{all_take, method_takes}
use Rattle.bt_calls.specs.declared.table.Slot.TheVariants as slot
use Rattle.bt_findings.specs.Found as spec
use Rattle.bt_findings.specs.Found.{Seen, findings, findings_step, function_call, method_call, seen}
use Rattle.bt_findings.specs.declared.finding.Finding.{Finding}
use Rattle.bt_findings.specs.declared.finding.Finding.TheVariants as found
use Rattle.bt_lints.proofs.Members.{contains_head, contains_tail}
use Rattle.bt_meaning.specs.Contexts.{Where, Sense}
use Rattle.bt_meaning.specs.Forms.{form}
use Rattle.bt_meaning.specs.Operators.{coal, logic, operands, prefixed, terms}
use Rattle.bt_meaning.specs.Literals.{as_list}
use Rattle.bt_meaning.specs.Methods.{outcomes, suffixes}
use Rattle.bt_meaning.specs.Value.{function_on, sense, sense_of, value}
use Rattle.bt_map_laws.specs.Environments.{AgreeFor, Environment, HasRightArguments, with_maps}
use Rattle.bt_map_laws.proofs.Steady as steady
use Rattle.bt_map_laws.proofs.Steady.{Steady, SteadyArg, SteadyBranch, SteadyCase, SteadyForm, SteadyMember, SteadyMethod, SteadyOption, SteadySuffix, SteadyTerm}

abbrev step : Query-F Seen → Seen
step q = record { shape = shape_in q; findings = findings_step q }

-- the text of a literal text, and else no text
abbrev text_of : Shape → List ℕ
text_of (text w) = w.text
text_of _ = []

two_or_more : (n : ℕ) → nat_le (suc (suc n)) 1 ≡ false
two_or_more n = grind arith

module _ (f g : Environment) where
  -- nothing found by which the environments may differ
  abbrev pub IsFine : Finding → Type 0
  IsFine (found.WrongArguments at) = ⊥
  IsFine (found.Apply w) = (x : Val) → f w.text x ≡ g w.text x
  IsFine _ = Unit {0}

  fine_before : (xs ys : List Finding) → AllOf IsFine (xs ++ ys) → AllOf IsFine xs
  fine_before [] ys h = tt
  fine_before (x ∷ xs) ys h = (h.0, fine_before xs ys h.1)

  fine_behind : (xs ys : List Finding) → AllOf IsFine (xs ++ ys) → AllOf IsFine ys
  fine_behind [] ys h = h
  fine_behind (x ∷ xs) ys h = fine_behind xs ys h.1

  -- each part is steady, where nothing else is found in any of them
  each_fine : {X Y Z W : Type 0} (p : X → Y) (look : Y → Z) (mean : Y → W) (u : Z → List Finding) (S : W → Type 0) →
      ((x : X) → AllOf IsFine (u (look (p x))) → S (mean (p x))) → (xs : List X) → AllOf IsFine (flat_map u (map look (map p xs))) → AllOf S (map mean (map p xs))
  each_fine p look mean u S to [] h = tt
  each_fine p look mean u S to (x ∷ xs) h = (
    to x (fine_before (u (look (p x))) (flat_map u (map look (map p xs))) h),
    each_fine p look mean u S to xs (fine_behind (u (look (p x))) (flat_map u (map look (map p xs))) h),
  )

  -- the text of a query is what is seen of it, and it is steady where nothing else is found
  abbrev Fits : Seen → Sense → Type 0
  Fits look mean = (text_of look.shape ≡ mean.text) × (AllOf IsFine look.findings → Steady f g mean)

  abbrev Holds : Query → Type 0
  Holds q = Fits (seen q) (sense q)

  abbrev Shown : Type 0
  Shown = (q : Query) × Holds q

  abbrev bare : Shown → Query
  bare e = e.0

  -- ---- parts

  arg_fine : (x : Arg Shown) → AllOf IsFine (spec.arg (in_arg seen (in_arg bare x))) → SteadyArg f g (in_arg sense (in_arg bare x))
  arg_fine (a.Query q) h = q.1.1 h
  arg_fine (a.Lambda n q) h = q.1.1 h

  case_fine : (x : Case Shown) → AllOf IsFine (spec.one_case (in_case seen (in_case bare x))) → SteadyCase f g (in_case sense (in_case bare x))
  case_fine (case.Any q) h = q.1.1 h
  case_fine (case.When p q) h = (p.1.1 (fine_before (findings p.0) (findings q.0) h), q.1.1 (fine_behind (findings p.0) (findings q.0) h))

  branch_fine : (x : Branch Shown) → AllOf IsFine (spec.branch (in_branch seen (in_branch bare x))) → SteadyBranch f g (in_branch sense (in_branch bare x))
  branch_fine x h = (x.test.1.1 (fine_before (findings x.test.0) (findings x.gives.0) h), x.gives.1.1 (fine_behind (findings x.test.0) (findings x.gives.0) h))

  option_fine : (x : Option Shown) → AllOf IsFine (spec.optional (in_option seen (in_option bare x))) → SteadyOption f g (in_option sense (in_option bare x))
  option_fine None h = tt
  option_fine (Some q) h = q.1.1 h

  args_fine : (xs : List (Arg Shown)) → AllOf IsFine (flat_map spec.arg (map (in_arg seen) (map (in_arg bare) xs))) → AllOf (SteadyArg f g) (map (in_arg sense) (map (in_arg bare) xs))
  args_fine xs h = each_fine (in_arg bare) (in_arg seen) (in_arg sense) spec.arg (SteadyArg f g) arg_fine xs h

  queries_fine : (qs : List Shown) → AllOf IsFine (spec.of_each (map seen (map bare qs))) → AllOf (Steady f g) (map sense (map bare qs))
  queries_fine qs h = each_fine bare seen sense (λ q. q.findings) (Steady f g) (λ e. e.1.1) qs h

  -- ---- methods

  -- the name of the map that `apply` is given
  one_name : (at : ℕ) (look : Shape) (t : List ℕ) → text_of look ≡ t → AllOf IsFine (spec.by_method (Some m.Apply) at (look ∷ [])) → (x : Val) → f t x ≡ g t x
  unfolding method_takes
  one_name at (text w) t is h = subst (λ (n : List ℕ). (x : Val) → f n x ≡ g n x) is h.0
  one_name at query t is h = absurd h.0
  one_name at lambda t is h = absurd h.0

  -- more arguments than there may be are wrong
  too_many : (b few d : Bool) (there : List Finding) (at : ℕ) → few ≡ false → AllOf IsFine (if b && (few && d) then there else (found.WrongArguments at ∷ [])) → ⊥
  too_many true true d there at e h = absurd (cc)
  too_many true false d there at e h = h.0
  too_many false few d there at e h = h.0

  apply_fine : (at : ℕ) (xs : List (Arg Shown)) → AllOf IsFine (spec.by_method (Some m.Apply) at (map spec.arg_shape (map (in_arg seen) (map (in_arg bare) xs)))) →
      SteadyForm f g (form m.Apply) (map (in_arg sense) (map (in_arg bare) xs))
  unfolding method_takes form
  apply_fine at [] h = absurd h.0
  apply_fine at (a.Query q ∷ []) h = one_name at (seen q.0).shape (sense q.0).text q.1.0 h
  apply_fine at (a.Lambda n q ∷ []) h = absurd h.0
  apply_fine at (x ∷ y ∷ xs) h =
      let look : Arg Shown → Shape = λ z. spec.arg_shape (in_arg seen (in_arg bare z)) in
      let shapes : List Shape = look x ∷ look y ∷ map spec.arg_shape (map (in_arg seen) (map (in_arg bare) xs)) in
      absurd (too_many (nat_le 1 (length shapes)) (nat_le (length shapes) 1) (all_take slot.Map slot.Query shapes) (spec.named slot.Map at shapes) at
      (two_or_more (length (map spec.arg_shape (map (in_arg seen) (map (in_arg bare) xs))))) h)

  id_fine : (id : MethodId) (at : ℕ) (xs : List (Arg Shown)) → AllOf IsFine (spec.by_method (Some id) at (map spec.arg_shape (map (in_arg seen) (map (in_arg bare) xs)))) →
      SteadyForm f g (form id) (map (in_arg sense) (map (in_arg bare) xs))
  unfolding form
  id_fine m.Apply at xs h = apply_fine at xs h
  id_fine _ at xs h = tt

  method_fine : (id : Option MethodId) (at : ℕ) (xs : List (Arg Shown)) → AllOf IsFine (spec.by_method id at (map spec.arg_shape (map (in_arg seen) (map (in_arg bare) xs)))) →
      SteadyMethod f g id (map (in_arg sense) (map (in_arg bare) xs))
  method_fine None at xs h = tt
  method_fine (Some id) at xs h = id_fine id at xs h

  suffix_fine : (x : Suffix Shown) → AllOf IsFine (spec.suffix (in_suffix seen (in_suffix bare x))) → SteadySuffix f g (in_suffix sense (in_suffix bare x))
  unfolding method_call
  suffix_fine (s.Name n) h = tt
  suffix_fine (s.Quoted n) h = tt
  suffix_fine (s.Int n) h = tt
  suffix_fine (s.Method w xs) h =
      let shapes : List Shape = map spec.arg_shape (map (in_arg seen) (map (in_arg bare) xs)) in
      let inside : List Finding = flat_map spec.arg (map (in_arg seen) (map (in_arg bare) xs)) in
      (method_fine (find w.text methods) w.at xs (fine_before (method_call w shapes) inside h), args_fine xs (fine_behind (method_call w shapes) inside h))
  suffix_fine (s.Within x) h = arg_fine x h

  -- ---- forms

  function_steady : (id : Option FunctionId) (r : Result (List Out) Out) (c : Where) → function_on id r (with_maps f c) ≡ function_on id r (with_maps g c)
  function_steady None r c = refl
  function_steady (Some id) (Ok os) c = refl
  function_steady (Some id) (Err o) c = refl

  call_level : (w : Word) (xs : List (Arg Shown)) →
      Fits (step (Query-F.Call w (map (in_arg seen) (map (in_arg bare) xs)))) (sense_of (Query-F.Call w (map (in_arg sense) (map (in_arg bare) xs))))
  call_level w xs = (
    refl,
    λ h c.
        let args : List (Arg Sense) = map (in_arg sense) (map (in_arg bare) xs) in
        let looks : List (Arg Seen) = map (in_arg seen) (map (in_arg bare) xs) in
        ap (λ (r : Result (List Out) Out). function_on (find w.text functions) r (with_maps f c))
        (steady.outcomes_steady f g args (args_fine xs (fine_behind (function_call w (map spec.arg_shape looks)) (flat_map spec.arg looks) h)) c)
        ∙ function_steady (find w.text functions) (outcomes args (with_maps g c)) c,
  )

  item_level : (q : Shown) (xs : List (Suffix Shown)) →
      Fits (step (Query-F.Item (seen q.0) (map (in_suffix seen) (map (in_suffix bare) xs)))) (sense_of (Query-F.Item (sense q.0) (map (in_suffix sense) (map (in_suffix bare) xs))))
  item_level q xs = (
    refl,
    λ h c.
        let parts : List (Suffix Sense) = map (in_suffix sense) (map (in_suffix bare) xs) in
        let rest : List Finding = flat_map spec.suffix (map (in_suffix seen) (map (in_suffix bare) xs)) in
        ap (λ (o : Out). suffixes parts (with_maps f c) o) (q.1.1 (fine_before (findings q.0) rest h) c)
        ∙ steady.suffixes_steady f g parts
        (each_fine (in_suffix bare) (in_suffix seen) (in_suffix sense) spec.suffix (SteadySuffix f g) suffix_fine xs (fine_behind (findings q.0) rest h))
        c ((sense q.0).at (with_maps g c)),
  )

  terms_level : (q : Shown) (ts : List (Term Shown)) → AllOf IsFine (findings q.0 ++ flat_map (λ x. x.query.findings) (map (in_term seen) (map (in_term bare) ts))) → (c : Where) →
      terms (map (in_term sense) (map (in_term bare) ts)) (with_maps f c) ((sense q.0).at (with_maps f c))
      ≡ terms (map (in_term sense) (map (in_term bare) ts)) (with_maps g c) ((sense q.0).at (with_maps g c))
  terms_level q ts h c =
      let parts : List (Term Sense) = map (in_term sense) (map (in_term bare) ts) in
      let rest : List Finding = flat_map (λ x. x.query.findings) (map (in_term seen) (map (in_term bare) ts)) in
      ap (λ (o : Out). terms parts (with_maps f c) o) (q.1.1 (fine_before (findings q.0) rest h) c)
      ∙ steady.terms_steady f g parts
      (each_fine (in_term bare) (in_term seen) (in_term sense) (λ x. x.query.findings) (SteadyTerm f g) (λ x. x.query.1.1) ts (fine_behind (findings q.0) rest h))
      c ((sense q.0).at (with_maps g c))

  logic_level : (o : Op) (w : Bool) (q : Shown) (qs : List Shown) → AllOf IsFine (findings q.0 ++ spec.of_each (map seen (map bare qs))) → (c : Where) →
      logic o w (map sense (map bare qs)) (with_maps f c) ((sense q.0).at (with_maps f c)) ≡ logic o w (map sense (map bare qs)) (with_maps g c) ((sense q.0).at (with_maps g c))
  logic_level o w q qs h c =
      let parts : List Sense = map sense (map bare qs) in
      let rest : List Finding = spec.of_each (map seen (map bare qs)) in
      ap (λ (p : Out). logic o w parts (with_maps f c) p) (q.1.1 (fine_before (findings q.0) rest h) c)
      ∙ steady.logic_steady f g o w parts (queries_fine qs (fine_behind (findings q.0) rest h)) c ((sense q.0).at (with_maps g c))

  coal_level : (q : Shown) (qs : List Shown) → AllOf IsFine (findings q.0 ++ spec.of_each (map seen (map bare qs))) → (c : Where) →
      coal (map sense (map bare qs)) (with_maps f c) ((sense q.0).at (with_maps f c)) ≡ coal (map sense (map bare qs)) (with_maps g c) ((sense q.0).at (with_maps g c))
  coal_level q qs h c =
      let parts : List Sense = map sense (map bare qs) in
      let rest : List Finding = spec.of_each (map seen (map bare qs)) in
      ap (λ (p : Out). coal parts (with_maps f c) p) (q.1.1 (fine_before (findings q.0) rest h) c)
      ∙ steady.coal_steady f g parts (queries_fine qs (fine_behind (findings q.0) rest h)) c ((sense q.0).at (with_maps g c))

  match_level : (q : Option Shown) (xs : List (Case Shown)) →
      Fits (step (Query-F.Match (in_option seen (in_option bare q)) (map (in_case seen) (map (in_case bare) xs))))
      (sense_of (Query-F.Match (in_option sense (in_option bare q)) (map (in_case sense) (map (in_case bare) xs))))
  match_level q xs = (
    refl,
    λ h c.
        let first : List Finding = spec.optional (in_option seen (in_option bare q)) in
        let rest : List Finding = flat_map spec.one_case (map (in_case seen) (map (in_case bare) xs)) in
        steady.matched_steady f g (in_option sense (in_option bare q)) (map (in_case sense) (map (in_case bare) xs)) (option_fine q (fine_before first rest h))
        (each_fine (in_case bare) (in_case seen) (in_case sense) spec.one_case (SteadyCase f g) case_fine xs (fine_behind first rest h)) c,
  )

  if_level : (bs : List (Branch Shown)) (q : Option Shown) →
      Fits (step (Query-F.If (map (in_branch seen) (map (in_branch bare) bs)) (in_option seen (in_option bare q))))
      (sense_of (Query-F.If (map (in_branch sense) (map (in_branch bare) bs)) (in_option sense (in_option bare q))))
  if_level bs q = (
    refl,
    λ h c.
        let first : List Finding = flat_map spec.branch (map (in_branch seen) (map (in_branch bare) bs)) in
        let rest : List Finding = spec.optional (in_option seen (in_option bare q)) in
        steady.branches_steady f g (map (in_branch sense) (map (in_branch bare) bs)) (in_option sense (in_option bare q))
        (each_fine (in_branch bare) (in_branch seen) (in_branch sense) spec.branch (SteadyBranch f g) branch_fine bs (fine_before first rest h))
        (option_fine q (fine_behind first rest h)) c,
  )

  abbrev under : Query-F Shown → Query-F Query
  under y = map-Query Shown Query bare y

  -- a layer whose parts are given by these lists
  by_parts : (y : Query-F Shown) (z : Query-F Query) (look : Query-F Seen) (mean : Query-F Sense) →
      under y ≡ z → map-Query Query Seen seen z ≡ look → map-Query Query Sense sense z ≡ mean → Fits (step look) (sense_of mean) →
      Fits (step (map-Query Query Seen seen (under y))) (sense_of (map-Query Query Sense sense (under y)))
  by_parts y z look mean a b c h =
      subst (λ (p : Query-F Query). Fits (step (map-Query Query Seen seen p)) (sense_of (map-Query Query Sense sense p))) (sym a)
      (subst (λ (p : Query-F Seen). Fits (step p) (sense_of (map-Query Query Sense sense z))) (sym b)
      (subst (λ (p : Query-F Sense). Fits (step look) (sense_of p)) (sym c) h))

  level : (y : Query-F Shown) → Fits (step (map-Query Query Seen seen (under y))) (sense_of (map-Query Query Sense sense (under y)))
  level Query-F.Null = (refl, λ h c. refl)
  level Query-F.True = (refl, λ h c. refl)
  level Query-F.False = (refl, λ h c. refl)
  level (Query-F.Int z) = (refl, λ h c. refl)
  level (Query-F.Quoted w) = (refl, λ h c. refl)
  level Query-F.This = (refl, λ h c. refl)
  level (Query-F.Root at) = (refl, λ h c. refl)
  level (Query-F.Name w) = (refl, λ h c. refl)
  level (Query-F.Var w) = (refl, λ h c. refl)
  level Query-F.Metadata = (refl, λ h c. refl)
  level (Query-F.Meta n) = (refl, λ h c. refl)
  level (Query-F.Call w xs) =
      by_parts (Query-F.Call w xs) (Query-F.Call w (map (in_arg bare) xs)) _ _
      (map-Call bare w xs) (map-Call seen w (map (in_arg bare) xs)) (map-Call sense w (map (in_arg bare) xs)) (call_level w xs)
  level (Query-F.Paren q) = (refl, λ h c. q.1.1 h c)
  level (Query-F.List qs) = (
    refl,
    λ h c.
        ap (λ (r : Result (List Val) Out). as_list (codes "literal") r) (steady.gathered_steady f g (map sense (map bare qs)) (queries_fine qs h) c),
  )
  level (Query-F.Object xs) = (
    refl,
    λ h c.
        steady.members_steady f g (map (in_member sense) (map (in_member bare) xs))
        (each_fine (in_member bare) (in_member seen) (in_member sense) (λ x. x.query.findings) (SteadyMember f g) (λ x. x.query.1.1) xs h) c [],
  )
  level (Query-F.Item q xs) =
      by_parts (Query-F.Item q xs) (Query-F.Item q.0 (map (in_suffix bare) xs)) _ _
      (map-Item bare q xs) (map-Item seen q.0 (map (in_suffix bare) xs)) (map-Item sense q.0 (map (in_suffix bare) xs)) (item_level q xs)
  level (Query-F.Prefix o q) = (refl, λ h c. ap (λ (p : Out). prefixed o p) (q.1.1 h c))
  level (Query-F.Product q ts) = (refl, terms_level q ts)
  level (Query-F.Sum q ts) = (refl, terms_level q ts)
  level (Query-F.Compare q o r) = (
    refl,
    λ h c.
        ap₂ (λ (x y : Out). operands o x y) (q.1.1 (fine_before (findings q.0) (findings r.0) h) c) (r.1.1 (fine_behind (findings q.0) (findings r.0) h) c),
  )
  level (Query-F.And q qs) = (refl, logic_level op.And false q qs)
  level (Query-F.Or q qs) = (refl, logic_level op.Or true q qs)
  level (Query-F.Coalesce q qs) = (refl, coal_level q qs)
  level (Query-F.Match q xs) =
      by_parts (Query-F.Match q xs) (Query-F.Match (in_option bare q) (map (in_case bare) xs)) _ _
      (map-Match bare q xs) (map-Match seen (in_option bare q) (map (in_case bare) xs)) (map-Match sense (in_option bare q) (map (in_case bare) xs)) (match_level q xs)
  level (Query-F.If bs q) =
      by_parts (Query-F.If bs q) (Query-F.If (map (in_branch bare) bs) (in_option bare q)) _ _
      (map-If bare bs q) (map-If seen (map (in_branch bare) bs) (in_option bare q)) (map-If sense (map (in_branch bare) bs) (in_option bare q)) (if_level bs q)

  rolled : (y : Query-F Shown) → Holds (roll-Query (under y))
  rolled y =
      subst (λ (p : Seen). Fits p (sense (roll-Query (under y)))) (sym (fold-roll-Query Seen step (under y)))
      (subst (λ (p : Sense). Fits (step (map-Query Query Seen seen (under y))) p) (sym (fold-roll-Query Sense sense_of (under y))) (level y))

  holds : (q : Query) → Holds q
  holds = ind-Query Holds (λ x y is. subst (λ z. Holds (roll-Query z)) is (rolled y))

  -- ---- what is found

  fine_one : (fs : List Finding) (x : Finding) → ((at : ℕ) → Contains (x ∷ fs) (found.WrongArguments at) → ⊥) →
      ((w : Word) → Contains (x ∷ fs) (found.Apply w) → (y : Val) → f w.text y ≡ g w.text y) → IsFine x
  fine_one fs (found.WrongArguments at) right same = right at (contains_head (found.WrongArguments at) fs)
  fine_one fs (found.Apply w) right same = same w (contains_head (found.Apply w) fs)
  fine_one fs _ right same = tt

  fine_all : (fs : List Finding) → ((at : ℕ) → Contains fs (found.WrongArguments at) → ⊥) →
      ((w : Word) → Contains fs (found.Apply w) → (y : Val) → f w.text y ≡ g w.text y) → AllOf IsFine fs
  fine_all [] right same = tt
  fine_all (x ∷ fs) right same = (
    fine_one fs x right same,
    fine_all fs (λ at h. right at (contains_tail x (found.WrongArguments at) fs h)) (λ w h. same w (contains_tail x (found.Apply w) fs h)),
  )

pub queries_depend_on_what_they_apply : (q : Query) (f g : Environment) → HasRightArguments q → AgreeFor q f g → (c : Where) → value q (with_maps f c) ≡ value q (with_maps g c)
queries_depend_on_what_they_apply q f g right same c = (holds f g q).1 (fine_all f g (findings q) right same) c

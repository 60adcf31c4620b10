-- What each form gives where the environment changes, and none of its parts gives another outcome.
use Rattle.std.proofs.Common.{◌≡◌, ℕ, suc, ℤ, List, [], ◌∷◌, codes, Bool, true, Option, Some, None, Result, Ok, Err, if◌then◌else◌, refl, ap, ap₂, ◌∙◌}
use Rattle.std.specs.Prelude.{slice_get}
use Rattle.std.specs.List.{AllByRecursion as AllOf}
use Rattle.std.specs.Ordering.{nat_cmp, int_cmp}
use Rattle.std.specs.Cmp.Lexicographic.{slice_cmp}
use Rattle.std.proofs.Math.Path.{fun_ext}
use Rattle.bt_value.specs.Keys.{find}
use Rattle.bt_value.specs.Names.{methods}
use Rattle.bt_value.specs.declared.val.Val.{Val}
use Rattle.bt_value.specs.declared.val.Val.TheVariants as v
use Rattle.bt_value.specs.declared.names.MethodId.{MethodId}
use Rattle.bt_value.specs.declared.names.Op.{Op}
use Rattle.bt_value.specs.declared.message.Out.{Out}
use Rattle.bt_value.specs.declared.message.Out.TheVariants.{Value, Failed, Deleted, Nothing}
use Rattle.bt_tree.specs.declared.tree.Arg.{Arg}
use Rattle.bt_tree.specs.declared.tree.Arg.TheVariants as a
use Rattle.bt_tree.specs.declared.tree.Branch.{Branch}
use Rattle.bt_tree.specs.declared.tree.Case.{Case}
use Rattle.bt_tree.specs.declared.tree.Case.TheVariants as case
use Rattle.bt_tree.specs.declared.tree.Member.{Member}
use Rattle.bt_tree.specs.declared.tree.Suffix.{Suffix}
use Rattle.bt_tree.specs.declared.tree.Suffix.TheVariants as s
use Rattle.bt_tree.specs.declared.tree.Term.{Term}
use Rattle.bt_kinds.specs.Kinds.{kind_of, on}
use Rattle.bt_kinds.specs.Limits.{limited}
use Rattle.bt_kinds.specs.Targets.{array, object, string, number, boolean}
use Rattle.bt_kinds.specs.declared.kinds.Kind.{Kind}
use Rattle.bt_meaning.specs.Contexts.{Where, Sense, Pairs, element, with_this}
use Rattle.bt_meaning.specs.Outcomes.{is_failed, part_of, settles, then_value, truth}
use Rattle.bt_meaning.specs.Operators.{coal, decides, logic, operands, terms}
use Rattle.bt_meaning.specs.Branches.{branches, chosen, first_case, matched, otherwise, test_passes}
use Rattle.bt_meaning.specs.Literals.{as_list, gathered, included, members, one_more, with_member}
use Rattle.bt_meaning.specs.Lambdas as l
use Rattle.bt_meaning.specs.Methods.{argument, by_form, by_method, caught, fold_with, given, literal_text, ored, outcomes, plain, suffix, suffixes, with_query}
use Rattle.bt_meaning.specs.Forms.{each_name, form}
use Rattle.bt_meaning.specs.declared.forms.Each.{Each}
use Rattle.bt_meaning.specs.declared.forms.Each.TheVariants as e
use Rattle.bt_meaning.specs.declared.forms.Form.{Form}
use Rattle.bt_meaning.specs.declared.forms.Form.TheVariants as fo
use Rattle.bt_map_laws.specs.Environments.{Environment, with_maps}

module _ (f g : Environment) where
  -- the outcome is the same in both environments
  abbrev pub Steady : Sense → Type 0
  Steady q = (c : Where) → q.at (with_maps f c) ≡ q.at (with_maps g c)

  abbrev pub SteadyArg : Arg Sense → Type 0
  SteadyArg (a.Query q) = Steady q
  SteadyArg (a.Lambda n q) = Steady q

  abbrev pub SteadyCase : Case Sense → Type 0
  SteadyCase (case.Any q) = Steady q
  SteadyCase (case.When p q) = Steady p × Steady q

  abbrev pub SteadyBranch : Branch Sense → Type 0
  SteadyBranch b = Steady b.test × Steady b.gives

  abbrev pub SteadyTerm : Term Sense → Type 0
  SteadyTerm t = Steady t.query

  abbrev pub SteadyMember : Member Sense → Type 0
  SteadyMember m = Steady m.query

  abbrev pub SteadyOption : Option Sense → Type 0
  SteadyOption None = Unit {0}
  SteadyOption (Some q) = Steady q

  abbrev pub SteadyFound : Option (Arg Sense) → Type 0
  SteadyFound None = Unit {0}
  SteadyFound (Some x) = SteadyArg x

  -- the environments agree on a map, where a method applies it
  abbrev pub SteadyForm : Form → List (Arg Sense) → Type 0
  SteadyForm fo.Apply args = (x : Val) → f (literal_text (slice_get args 0)) x ≡ g (literal_text (slice_get args 0)) x
  SteadyForm _ args = Unit {0}

  abbrev pub SteadyMethod : Option MethodId → List (Arg Sense) → Type 0
  SteadyMethod None args = Unit {0}
  SteadyMethod (Some id) args = SteadyForm (form id) args

  abbrev pub SteadySuffix : Suffix Sense → Type 0
  SteadySuffix (s.Method w args) = SteadyMethod (find w.text methods) args × AllOf SteadyArg args
  SteadySuffix (s.Within x) = SteadyArg x
  SteadySuffix _ = Unit {0}

  -- ---- operators

  pub terms_steady : (ts : List (Term Sense)) → AllOf SteadyTerm ts → (c : Where) (got : Out) → terms ts (with_maps f c) got ≡ terms ts (with_maps g c) got
  terms_steady [] h c got = refl
  terms_steady (t ∷ ts) h c got =
      ap (λ (o : Out). if is_failed got then got else terms ts (with_maps f c) (operands t.op got o)) (h.0 c)
      ∙ ap (λ (o : Out). if is_failed got then got else o) (terms_steady ts h.1 c (operands t.op got (t.query.at (with_maps g c))))

  pub logic_steady : (op : Op) (w : Bool) (qs : List Sense) → AllOf Steady qs → (c : Where) (got : Out) → logic op w qs (with_maps f c) got ≡ logic op w qs (with_maps g c) got
  logic_steady op w [] h c got = refl
  logic_steady op w (q ∷ qs) h c got =
      ap (λ (o : Out). if decides w got then got else logic op w qs (with_maps f c) (operands op got o)) (h.0 c)
      ∙ ap (λ (o : Out). if decides w got then got else o) (logic_steady op w qs h.1 c (operands op got (q.at (with_maps g c))))

  pub coal_steady : (qs : List Sense) → AllOf Steady qs → (c : Where) (got : Out) → coal qs (with_maps f c) got ≡ coal qs (with_maps g c) got
  coal_steady [] h c got = refl
  coal_steady (q ∷ qs) h c got =
      ap (λ (o : Out). if settles got then got else coal qs (with_maps f c) o) (h.0 c)
      ∙ ap (λ (o : Out). if settles got then got else o) (coal_steady qs h.1 c (q.at (with_maps g c)))

  -- ---- literals

  pub gathered_steady : (qs : List Sense) → AllOf Steady qs → (c : Where) → gathered qs (with_maps f c) ≡ gathered qs (with_maps g c)
  gathered_steady [] h c = refl
  gathered_steady (q ∷ qs) h c = ap₂ (λ (o : Out) (r : Result (List Val) Out). one_more (included o) r) (h.0 c) (gathered_steady qs h.1 c)

  pub members_steady : (ms : List (Member Sense)) → AllOf SteadyMember ms → (c : Where) (got : Pairs) → members ms (with_maps f c) got ≡ members ms (with_maps g c) got
  members_steady [] h c got = refl
  members_steady (m ∷ ms) h c got =
      let o : Out = m.query.at (with_maps g c) in
      ap (λ (o : Out). if is_failed o then o else members ms (with_maps f c) (with_member m.key o got)) (h.0 c)
      ∙ ap (λ (r : Out). if is_failed o then o else r) (members_steady ms h.1 c (with_member m.key o got))

  -- ---- branches

  otherwise_steady : (q : Option Sense) → SteadyOption q → (c : Where) → otherwise q (with_maps f c) ≡ otherwise q (with_maps g c)
  otherwise_steady None h c = refl
  otherwise_steady (Some q) h c = h c

  pub branches_steady : (bs : List (Branch Sense)) (q : Option Sense) → AllOf SteadyBranch bs → SteadyOption q → (c : Where) →
      branches bs q (with_maps f c) ≡ branches bs q (with_maps g c)
  branches_steady [] q h k c = otherwise_steady q k c
  branches_steady (b ∷ bs) q h k c =
      ap (λ (o : Out). then_value (codes "if") o (λ x. chosen (truth x) (kind_of x) (b.gives.at (with_maps f c)) (branches bs q (with_maps f c)))) (h.0.0 c)
      ∙ ap₂ (λ (o p : Out). then_value (codes "if") (b.test.at (with_maps g c)) (λ x. chosen (truth x) (kind_of x) o p)) (h.0.1 c) (branches_steady bs q h.1 k c)

  pub cases_steady : (xs : List (Case Sense)) → AllOf SteadyCase xs → (c : Where) → first_case xs (with_maps f c) ≡ first_case xs (with_maps g c)
  cases_steady [] h c = refl
  cases_steady (case.Any q ∷ xs) h c = ap₂ (λ (o p : Out). if true then o else p) (h.0 c) (cases_steady xs h.1 c)
  cases_steady (case.When p q ∷ xs) h c =
      ap (λ (o : Out). if test_passes p.literal c.this o then q.at (with_maps f c) else first_case xs (with_maps f c)) (h.0.0 c)
      ∙ ap₂ (λ (o r : Out). if test_passes p.literal c.this (p.at (with_maps g c)) then o else r) (h.0.1 c) (cases_steady xs h.1 c)

  pub matched_steady : (q : Option Sense) (xs : List (Case Sense)) → SteadyOption q → AllOf SteadyCase xs → (c : Where) → matched q xs (with_maps f c) ≡ matched q xs (with_maps g c)
  matched_steady None xs k h c = cases_steady xs h c
  matched_steady (Some q) xs k h c =
      ap (λ (o : Out). then_value (codes "match") o (λ x. first_case xs (with_this (Value x) (with_maps f c)))) (k c)
      ∙ ap (λ (go : Val → Out). then_value (codes "match") (q.at (with_maps g c)) go) (fun_ext (λ x. cases_steady xs h (with_this (Value x) c)))

  -- ---- arguments

  pub element_steady : (t : Arg Sense) → SteadyArg t → (x : Val) (c : Where) → element t x (with_maps f c) ≡ element t x (with_maps g c)
  element_steady (a.Query q) h x c = h (with_this (Value x) c)
  element_steady (a.Lambda n q) h x c = h (record c { names = (n, x) ∷ c.names })

  argument_steady : (x : Option (Arg Sense)) → SteadyFound x → (c : Where) → argument x (with_maps f c) ≡ argument x (with_maps g c)
  argument_steady None h c = refl
  argument_steady (Some (a.Query q)) h c = h c
  argument_steady (Some (a.Lambda n q)) h c = refl

  pub outcomes_steady : (args : List (Arg Sense)) → AllOf SteadyArg args → (c : Where) → outcomes args (with_maps f c) ≡ outcomes args (with_maps g c)
  outcomes_steady [] h c = refl
  outcomes_steady (x ∷ xs) h c =
      ap₂ (λ (o : Out) (r : Result (List Out) Out). one_more (given o) r) (argument_steady (Some x) h.0 c) (outcomes_steady xs h.1 c)

  first_found : (args : List (Arg Sense)) → AllOf SteadyArg args → SteadyFound (slice_get args 0)
  first_found [] h = tt
  first_found (x ∷ xs) h = h.0

  second_found : (args : List (Arg Sense)) → AllOf SteadyArg args → SteadyFound (slice_get args 1)
  second_found [] h = tt
  second_found (x ∷ []) h = tt
  second_found (x ∷ y ∷ xs) h = h.1.0

  -- ---- methods on each element

  module _ (t : Arg Sense) (h : SteadyArg t) (c : Where) where
    at_each : (x : Val) → element t x (with_maps f c) ≡ element t x (with_maps g c)
    at_each x = element_steady t h x c

    each_steady : (xs : List Val) → l.each t xs (with_maps f c) ≡ l.each t xs (with_maps g c)
    each_steady [] = refl
    each_steady (x ∷ xs) = ap₂ (λ (o : Out) (r : Result (List Val) Out). one_more (l.replaced x o) r) (at_each x) (each_steady xs)

    each_member_steady : (ms : Pairs) → l.each_member t ms (with_maps f c) ≡ l.each_member t ms (with_maps g c)
    each_member_steady [] = refl
    each_member_steady (m ∷ ms) =
        ap₂ (λ (o : Out) (r : Result Pairs Out). one_more (l.keyed m.0 (l.replaced m.1 o)) r) (at_each (l.member_element m)) (each_member_steady ms)

    each_key_steady : (ms : Pairs) → l.each_key t ms (with_maps f c) ≡ l.each_key t ms (with_maps g c)
    each_key_steady [] = refl
    each_key_steady (m ∷ ms) =
        ap₂ (λ (o : Out) (r : Result Pairs Out). one_more (l.renamed m.1 (part_of (codes "map_each_key") string o)) r) (at_each (v.Str m.0)) (each_key_steady ms)

    filtered_steady : (xs : List Val) → l.filtered t xs (with_maps f c) ≡ l.filtered t xs (with_maps g c)
    filtered_steady [] = refl
    filtered_steady (x ∷ xs) = ap₂ (λ (o : Out) (r : Result (List Val) Out). one_more (l.kept x o) r) (at_each x) (filtered_steady xs)

    filtered_members_steady : (ms : Pairs) → l.filtered_members t ms (with_maps f c) ≡ l.filtered_members t ms (with_maps g c)
    filtered_members_steady [] = refl
    filtered_members_steady (m ∷ ms) =
        ap₂ (λ (o : Out) (r : Result Pairs Out). one_more (l.kept m o) r) (at_each (l.member_element m)) (filtered_members_steady ms)

    any_steady : (xs : List Val) → l.any_of t xs (with_maps f c) ≡ l.any_of t xs (with_maps g c)
    any_steady [] = refl
    any_steady (x ∷ xs) = ap₂ (λ (o r : Out). l.any_next (part_of (codes "any") boolean o) r) (at_each x) (any_steady xs)

    all_from_steady : (xs : List Val) → l.all_from t xs (with_maps f c) ≡ l.all_from t xs (with_maps g c)
    all_from_steady [] = refl
    all_from_steady (x ∷ xs) = ap₂ (λ (o r : Out). l.all_next (part_of (codes "all") boolean o) r) (at_each x) (all_from_steady xs)

    all_steady : (xs : List Val) → l.all_of t xs (with_maps f c) ≡ l.all_of t xs (with_maps g c)
    all_steady [] = refl
    all_steady (x ∷ xs) = all_from_steady (x ∷ xs)

    keys_steady : {A : Type 0} (part : Val → Result A Kind) (i : ℕ) (xs : List Val) → l.keys_from part t i xs (with_maps f c) ≡ l.keys_from part t i xs (with_maps g c)
    keys_steady part i [] = refl
    keys_steady {A} part i (x ∷ xs) =
        ap₂ (λ (o : Out) (r : Result (List (A × ℕ)) Out). one_more (l.placed i (part_of (codes "sort_by") part o)) r) (at_each x) (keys_steady part (suc i) xs)

    tallied_steady : (tally x : Val) → l.tallied t (with_maps f c) tally x ≡ l.tallied t (with_maps g c) tally x
    tallied_steady tally x =
        ap (λ (go : Val → Out). then_value (codes "fold") (limited (codes "fold") (l.tally_element tally x)) go)
        (fun_ext (λ p. ap (λ (o : Out). then_value (codes "fold") o Value) (at_each p)))

    folded_steady : (xs : List Val) (o : Out) → l.folded t xs (with_maps f c) o ≡ l.folded t xs (with_maps g c) o
    folded_steady xs (Failed u) = refl
    folded_steady xs Deleted = refl
    folded_steady xs Nothing = refl
    folded_steady [] (Value tally) = refl
    folded_steady (x ∷ xs) (Value tally) =
        ap (λ (o : Out). l.folded t xs (with_maps f c) o) (tallied_steady tally x) ∙ folded_steady xs (l.tallied t (with_maps g c) tally x)

    map_each_steady : (x : Val) → l.map_each t (with_maps f c) x ≡ l.map_each t (with_maps g c) x
    map_each_steady x =
        ap₂ (λ (go : List Val → Out) (on_members : Pairs → Out). l.list_or_object (codes "map_each") (array x) (object x) go on_members)
        (fun_ext (λ xs. ap (λ (r : Result (List Val) Out). as_list (codes "map_each") r) (each_steady xs)))
        (fun_ext (λ ms. ap (λ (r : Result Pairs Out). l.as_object (codes "map_each") (l.put_in [] r)) (each_member_steady ms)))

    map_each_key_steady : (x : Val) → l.map_each_key t (with_maps f c) x ≡ l.map_each_key t (with_maps g c) x
    map_each_key_steady x =
        ap (λ (go : Pairs → Out). on (codes "map_each_key") (object x) go)
        (fun_ext (λ ms. ap (λ (r : Result Pairs Out). l.object_from (l.put_in [] r)) (each_key_steady ms)))

    filter_steady : (x : Val) → l.filter t (with_maps f c) x ≡ l.filter t (with_maps g c) x
    filter_steady x =
        ap₂ (λ (go : List Val → Out) (on_members : Pairs → Out). l.list_or_object (codes "filter") (array x) (object x) go on_members)
        (fun_ext (λ xs. ap l.list_of (filtered_steady xs)))
        (fun_ext (λ ms. ap (λ (r : Result Pairs Out). l.object_from (l.put_in [] r)) (filtered_members_steady ms)))

    sorted_as_steady : (n : Result ℤ Kind) (u : Result (List ℕ) Kind) (xs : List Val) → l.sorted_as n u t xs (with_maps f c) ≡ l.sorted_as n u t xs (with_maps g c)
    sorted_as_steady (Ok n) u xs = ap (λ (r : Result (List (ℤ × ℕ)) Out). l.in_order int_cmp xs r) (keys_steady number 0 xs)
    sorted_as_steady (Err kd) (Ok u) xs = ap (λ (r : Result (List (List ℕ × ℕ)) Out). l.in_order (slice_cmp nat_cmp) xs r) (keys_steady string 0 xs)
    sorted_as_steady (Err kd) (Err k) xs = refl

    sorted_by_steady : (xs : List Val) → l.sorted_by t xs (with_maps f c) ≡ l.sorted_by t xs (with_maps g c)
    sorted_by_steady [] = refl
    sorted_by_steady (x ∷ xs) =
        ap₂ (λ (o : Out) (go : Val → Out). then_value (codes "sort_by") o go) (at_each x)
        (fun_ext (λ key. sorted_as_steady (number key) (string key) (x ∷ xs)))

    each_of_steady : (k : Each) (x : Val) → l.each_of k t (with_maps f c) x ≡ l.each_of k t (with_maps g c) x
    each_of_steady e.MapEach x = map_each_steady x
    each_of_steady e.MapEachKey x = map_each_key_steady x
    each_of_steady e.Filter x = filter_steady x
    each_of_steady e.Any x = ap (λ (go : List Val → Out). on (codes "any") (array x) go) (fun_ext any_steady)
    each_of_steady e.All x = ap (λ (go : List Val → Out). on (codes "all") (array x) go) (fun_ext all_steady)
    each_of_steady e.SortBy x = ap (λ (go : List Val → Out). on (codes "sort_by") (array x) go) (fun_ext sorted_by_steady)

    fold_value_steady : (start : Out) (x : Val) → l.fold_value start x t (with_maps f c) ≡ l.fold_value start x t (with_maps g c)
    fold_value_steady start x =
        ap (λ (go : List Val → Out). on (codes "fold") (array x) go)
        (fun_ext (λ xs. ap (λ (go : Val → Out). then_value (codes "fold") start go) (fun_ext (λ s. folded_steady xs (Value s)))))

    fold_of_steady : (o start : Out) → l.fold_of o start t (with_maps f c) ≡ l.fold_of o start t (with_maps g c)
    fold_of_steady o start =
        ap (λ (go : Val → Out). if is_failed o then o else if is_failed start then start else then_value (codes "fold") o go)
        (fun_ext (λ x. fold_value_steady start x))

  -- ---- methods

  with_query_steady : (name : List ℕ) (o : Out) (k : Each) (x : Option (Arg Sense)) → SteadyFound x → (c : Where) →
      with_query name o x (λ t y. l.each_of k t (with_maps f c) y) ≡ with_query name o x (λ t y. l.each_of k t (with_maps g c) y)
  with_query_steady name o k None h c = refl
  with_query_steady name o k (Some t) h c = ap (λ (go : Val → Out). then_value name o go) (fun_ext (each_of_steady t h c k))

  fold_with_steady : (o start : Out) (x : Option (Arg Sense)) → SteadyFound x → (c : Where) → fold_with o start x (with_maps f c) ≡ fold_with o start x (with_maps g c)
  fold_with_steady o start None h c = refl
  fold_with_steady o start (Some t) h c = fold_of_steady t h c o start

  by_form_steady : (way : Form) (id : MethodId) (args : List (Arg Sense)) → SteadyForm way args → AllOf SteadyArg args → (c : Where) (o : Out) →
      by_form way id args (with_maps f c) o ≡ by_form way id args (with_maps g c) o
  by_form_steady fo.Catch id args k h c o = ap (λ (p : Out). caught o p) (argument_steady (slice_get args 0) (first_found args h) c)
  by_form_steady fo.Or id args k h c o = ap (λ (p : Out). ored o p) (argument_steady (slice_get args 0) (first_found args h) c)
  by_form_steady fo.Apply id args k h c o = ap (λ (go : Val → Out). then_value (codes "apply") o go) (fun_ext k)
  by_form_steady (fo.Each each) id args k h c o = with_query_steady (each_name each) o each (slice_get args 0) (first_found args h) c
  by_form_steady fo.Fold id args k h c o =
      ap (λ (start : Out). fold_with o start (slice_get args 1) (with_maps f c)) (argument_steady (slice_get args 0) (first_found args h) c)
      ∙ fold_with_steady o (argument (slice_get args 0) (with_maps g c)) (slice_get args 1) (second_found args h) c
  by_form_steady fo.Plain id args k h c o = ap (λ (r : Result (List Out) Out). plain id o r) (outcomes_steady args h c)

  by_method_steady : (id : Option MethodId) (args : List (Arg Sense)) → SteadyMethod id args → AllOf SteadyArg args → (c : Where) (o : Out) →
      by_method id args (with_maps f c) o ≡ by_method id args (with_maps g c) o
  by_method_steady None args k h c o = refl
  by_method_steady (Some id) args k h c o = by_form_steady (form id) id args k h c o

  suffix_steady : (x : Suffix Sense) → SteadySuffix x → (c : Where) (o : Out) → suffix x (with_maps f c) o ≡ suffix x (with_maps g c) o
  suffix_steady (s.Name n) h c o = refl
  suffix_steady (s.Quoted n) h c o = refl
  suffix_steady (s.Int z) h c o = refl
  suffix_steady (s.Method w args) h c o = by_method_steady (find w.text methods) args h.0 h.1 c o
  suffix_steady (s.Within t) h c o = ap (λ (go : Val → Out). then_value (codes "()") o go) (fun_ext (λ x. element_steady t h x c))

  pub suffixes_steady : (xs : List (Suffix Sense)) → AllOf SteadySuffix xs → (c : Where) (o : Out) → suffixes xs (with_maps f c) o ≡ suffixes xs (with_maps g c) o
  suffixes_steady [] h c o = refl
  suffixes_steady (x ∷ xs) h c o =
      ap (λ (p : Out). suffixes xs (with_maps f c) p) (suffix_steady x h.0 c o) ∙ suffixes_steady xs h.1 c (suffix x (with_maps g c) o)

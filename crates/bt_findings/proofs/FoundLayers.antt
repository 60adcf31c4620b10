-- What is found in each variant of a query.
use Rattle.std.proofs.Common.{◌≡◌, ℕ, ℤ, List, [], ◌∷◌, ◌++◌, map, flat_map, Option, Some, None, Result, Ok, Err, OnOk, refl, sym, ap, ◌∙◌, append_assoc, append-nil}
use Rattle.bt_value.specs.declared.names.Op.{Op}
use Rattle.bt_value.specs.declared.names.PrefixOp.{PrefixOp}
use Rattle.bt_tree.specs.declared.tree.Word.{Word}
use Rattle.bt_tree.specs.declared.tree.Key.{Key}
use Rattle.bt_tree.specs.declared.tree.Query.{Query, map-Query, out-Query}
use Rattle.bt_tree.specs.declared.tree.Query.TheFolds.{fold-roll-Query}
use Rattle.bt_tree.specs.declared.tree.Query.TheOpen.{Query-F}
use Rattle.bt_tree.specs.declared.tree.Query.TheVariants as e
use Rattle.bt_tree.specs.declared.tree.Suffix.{Suffix}
use Rattle.bt_tree.specs.declared.tree.Suffix.TheVariants as s
use Rattle.bt_tree.specs.declared.tree.Arg.{Arg}
use Rattle.bt_tree.specs.declared.tree.Arg.TheVariants as a
use Rattle.bt_tree.specs.declared.tree.Member.{Member}
use Rattle.bt_tree.specs.declared.tree.Term.{Term}
use Rattle.bt_tree.specs.declared.tree.Case.{Case}
use Rattle.bt_tree.specs.declared.tree.Branch.{Branch}
use Rattle.bt_tree.specs.Parts.{in_arg, in_member, in_term, in_case, in_branch, in_suffix, in_option}
use Rattle.bt_tree.proofs.MapLayers.{map-Call, map-Item, map-Match, map-If}
use Rattle.bt_tree.proofs.LayerErased.{roll_out}
use Rattle.bt_calls.specs.Shapes.{shape, shape_in}
use Rattle.bt_findings.specs.declared.finding.Finding.{Finding}
use Rattle.bt_findings.specs.declared.finding.Finding.TheVariants as found
use Rattle.bt_findings.specs.Found as spec
use Rattle.bt_findings.specs.Found.{Seen, seen, findings, findings_step}
use Rattle.bt_findings.specs.Steps as steps
use Rattle.bt_findings.specs.Steps.{each}

abbrev step : Query-F Seen → Seen
step q = record { shape = shape_in q; findings = findings_step q }

pub on_ok : {A E P Q : Type 0} (r : Result A E) → (P → Q) → OnOk r P → OnOk r Q
on_ok (Ok a) f h = f h
on_ok (Err e) f h = h

pub each_is : {A : Type 0} (f : A → List Finding) (u : List Finding) (xs : List A) → each f u xs ≡ u ++ flat_map f xs
each_is f u [] = sym (append-nil u)
each_is f u (x ∷ xs) = each_is f (u ++ f x) xs ∙ append_assoc u (f x) (flat_map f xs)

-- what is found first and in each part
pub first_each : {A : Type 0} (f : A → List Finding) (u v : List Finding) (xs : List A) → each f (u ++ v) xs ≡ u ++ (v ++ flat_map f xs)
first_each f u v xs = each_is f (u ++ v) xs ∙ append_assoc u v (flat_map f xs)

fused_flat : {A B : Type 0} (f : A → B) (g : B → List Finding) (xs : List A) → flat_map g (map f xs) ≡ flat_map (λ x. g (f x)) xs
fused_flat f g [] = refl
fused_flat f g (x ∷ xs) = ap (λ u. g (f x) ++ u) (fused_flat f g xs)

shape_map : (x : Query-F Query) → shape_in (map-Query Query Seen seen x) ≡ shape_in x
shape_map (Query-F.Quoted w) = refl
shape_map _ = refl

seen_shape : (q : Query) → (seen q).shape ≡ shape_in (out-Query q)
seen_shape q = ap (λ p. (seen p).shape) (sym (roll_out q)) ∙ ap (λ s. s.shape) (fold-roll-Query Seen step (out-Query q)) ∙ shape_map (out-Query q)

shapes_are : (xs : List (Arg Query)) → map spec.arg_shape (map (in_arg seen) xs) ≡ map shape xs
shapes_are [] = refl
shapes_are (a.Query q ∷ xs) = ap (λ s. s ∷ map spec.arg_shape (map (in_arg seen) xs)) (seen_shape q) ∙ ap (λ ss. shape_in (out-Query q) ∷ ss) (shapes_are xs)
shapes_are (a.Lambda name q ∷ xs) = ap (λ ss. shape (a.Lambda name q) ∷ ss) (shapes_are xs)

optional_is : (x : Option Query) → spec.optional (in_option seen x) ≡ steps.optional x
optional_is None = refl
optional_is (Some q) = refl

pub found-Root : (at : ℕ) → findings (e.Root at) ≡ found.Root at ∷ []
found-Root at = ap (λ s. s.findings) (ap seen (sym (e.rolls-Root at)) ∙ fold-roll-Query Seen step (Query-F.Root at))

pub found-Var : (w : Word) → findings (e.Var w) ≡ found.Variable w ∷ []
found-Var w = ap (λ s. s.findings) (ap seen (sym (e.rolls-Var w)) ∙ fold-roll-Query Seen step (Query-F.Var w))

pub found-Paren : (q : Query) → findings (e.Paren q) ≡ findings q
found-Paren q = ap (λ s. s.findings) (ap seen (sym (e.rolls-Paren q)) ∙ fold-roll-Query Seen step (Query-F.Paren q))

pub found-List : (qs : List Query) → findings (e.List qs) ≡ flat_map findings qs
found-List qs = ap (λ s. s.findings) (ap seen (sym (e.rolls-List qs)) ∙ fold-roll-Query Seen step (Query-F.List qs)) ∙ fused_flat seen (λ q. q.findings) qs

pub found-Object : (xs : List (Member Query)) → findings (e.Object xs) ≡ flat_map steps.member xs
found-Object xs = ap (λ s. s.findings) (ap seen (sym (e.rolls-Object xs)) ∙ fold-roll-Query Seen step (Query-F.Object xs)) ∙ fused_flat (in_member seen) (λ x. x.query.findings) xs

pub found-Prefix : (op : PrefixOp) (q : Query) → findings (e.Prefix op q) ≡ findings q
found-Prefix op q = ap (λ s. s.findings) (ap seen (sym (e.rolls-Prefix op q)) ∙ fold-roll-Query Seen step (Query-F.Prefix op q))

pub found-Product : (q : Query) (xs : List (Term Query)) → findings (e.Product q xs) ≡ findings q ++ flat_map steps.term xs
found-Product q xs = ap (λ s. s.findings) (ap seen (sym (e.rolls-Product q xs)) ∙ fold-roll-Query Seen step (Query-F.Product q xs)) ∙ ap (λ u. findings q ++ u) (fused_flat (in_term seen) (λ x. x.query.findings) xs)

pub found-Sum : (q : Query) (xs : List (Term Query)) → findings (e.Sum q xs) ≡ findings q ++ flat_map steps.term xs
found-Sum q xs = ap (λ s. s.findings) (ap seen (sym (e.rolls-Sum q xs)) ∙ fold-roll-Query Seen step (Query-F.Sum q xs)) ∙ ap (λ u. findings q ++ u) (fused_flat (in_term seen) (λ x. x.query.findings) xs)

pub found-Compare : (q : Query) (op : Op) (r : Query) → findings (e.Compare q op r) ≡ findings q ++ findings r
found-Compare q op r = ap (λ s. s.findings) (ap seen (sym (e.rolls-Compare q op r)) ∙ fold-roll-Query Seen step (Query-F.Compare q op r))

pub found-And : (q : Query) (qs : List Query) → findings (e.And q qs) ≡ findings q ++ flat_map findings qs
found-And q qs = ap (λ s. s.findings) (ap seen (sym (e.rolls-And q qs)) ∙ fold-roll-Query Seen step (Query-F.And q qs)) ∙ ap (λ u. findings q ++ u) (fused_flat seen (λ p. p.findings) qs)

pub found-Or : (q : Query) (qs : List Query) → findings (e.Or q qs) ≡ findings q ++ flat_map findings qs
found-Or q qs = ap (λ s. s.findings) (ap seen (sym (e.rolls-Or q qs)) ∙ fold-roll-Query Seen step (Query-F.Or q qs)) ∙ ap (λ u. findings q ++ u) (fused_flat seen (λ p. p.findings) qs)

pub found-Coalesce : (q : Query) (qs : List Query) → findings (e.Coalesce q qs) ≡ findings q ++ flat_map findings qs
found-Coalesce q qs = ap (λ s. s.findings) (ap seen (sym (e.rolls-Coalesce q qs)) ∙ fold-roll-Query Seen step (Query-F.Coalesce q qs)) ∙ ap (λ u. findings q ++ u) (fused_flat seen (λ p. p.findings) qs)

pub found-Null : findings e.Null ≡ []
found-Null = ap (λ s. s.findings) (ap seen (sym e.rolls-Null) ∙ fold-roll-Query Seen step Query-F.Null)

pub found-True : findings e.True ≡ []
found-True = ap (λ s. s.findings) (ap seen (sym e.rolls-True) ∙ fold-roll-Query Seen step Query-F.True)

pub found-False : findings e.False ≡ []
found-False = ap (λ s. s.findings) (ap seen (sym e.rolls-False) ∙ fold-roll-Query Seen step Query-F.False)

pub found-This : findings e.This ≡ []
found-This = ap (λ s. s.findings) (ap seen (sym e.rolls-This) ∙ fold-roll-Query Seen step Query-F.This)

pub found-Metadata : findings e.Metadata ≡ []
found-Metadata = ap (λ s. s.findings) (ap seen (sym e.rolls-Metadata) ∙ fold-roll-Query Seen step Query-F.Metadata)

pub found-Int : (x : ℤ) → findings (e.Int x) ≡ []
found-Int x = ap (λ s. s.findings) (ap seen (sym (e.rolls-Int x)) ∙ fold-roll-Query Seen step (Query-F.Int x))

pub found-Quoted : (x : Word) → findings (e.Quoted x) ≡ []
found-Quoted x = ap (λ s. s.findings) (ap seen (sym (e.rolls-Quoted x)) ∙ fold-roll-Query Seen step (Query-F.Quoted x))

pub found-Name : (x : Word) → findings (e.Name x) ≡ []
found-Name x = ap (λ s. s.findings) (ap seen (sym (e.rolls-Name x)) ∙ fold-roll-Query Seen step (Query-F.Name x))

pub found-Meta : (x : Key) → findings (e.Meta x) ≡ []
found-Meta x = ap (λ s. s.findings) (ap seen (sym (e.rolls-Meta x)) ∙ fold-roll-Query Seen step (Query-F.Meta x))

pub found-Call : (w : Word) (xs : List (Arg Query)) → findings (e.Call w xs) ≡ spec.function_call w (map shape xs) ++ flat_map steps.arg xs
found-Call w xs =
    ap (λ s. s.findings) (ap seen (sym (e.rolls-Call w xs)) ∙ fold-roll-Query Seen step (Query-F.Call w xs) ∙ ap step (map-Call seen w xs))
    ∙ ap (λ ys. spec.function_call w ys ++ flat_map spec.arg (map (in_arg seen) xs)) (shapes_are xs)
    ∙ ap (λ u. spec.function_call w (map shape xs) ++ u) (fused_flat (in_arg seen) spec.arg xs)

pub suffix-Method : (w : Word) (xs : List (Arg Query)) → steps.suffix (s.Method w xs) ≡ spec.method_call w (map shape xs) ++ flat_map steps.arg xs
suffix-Method w xs =
    ap (λ ys. spec.method_call w ys ++ flat_map spec.arg (map (in_arg seen) xs)) (shapes_are xs)
    ∙ ap (λ u. spec.method_call w (map shape xs) ++ u) (fused_flat (in_arg seen) spec.arg xs)

pub found-Item : (q : Query) (xs : List (Suffix Query)) → findings (e.Item q xs) ≡ findings q ++ flat_map steps.suffix xs
found-Item q xs =
    ap (λ s. s.findings) (ap seen (sym (e.rolls-Item q xs)) ∙ fold-roll-Query Seen step (Query-F.Item q xs) ∙ ap step (map-Item seen q xs))
    ∙ ap (λ u. findings q ++ u) (fused_flat (in_suffix seen) spec.suffix xs)

pub found-Match : (x : Option Query) (xs : List (Case Query)) → findings (e.Match x xs) ≡ steps.optional x ++ flat_map steps.one_case xs
found-Match x xs =
    ap (λ s. s.findings) (ap seen (sym (e.rolls-Match x xs)) ∙ fold-roll-Query Seen step (Query-F.Match x xs) ∙ ap step (map-Match seen x xs))
    ∙ ap (λ u. spec.optional (in_option seen x) ++ u) (fused_flat (in_case seen) spec.one_case xs)
    ∙ ap (λ u. u ++ flat_map steps.one_case xs) (optional_is x)

pub found-If : (xs : List (Branch Query)) (x : Option Query) → findings (e.If xs x) ≡ flat_map steps.branch xs ++ steps.optional x
found-If xs x =
    ap (λ s. s.findings) (ap seen (sym (e.rolls-If xs x)) ∙ fold-roll-Query Seen step (Query-F.If xs x) ∙ ap step (map-If seen xs x))
    ∙ ap (λ u. u ++ spec.optional (in_option seen x)) (fused_flat (in_branch seen) spec.branch xs)
    ∙ ap (λ u. flat_map steps.branch xs ++ u) (optional_is x)

-- What lints and patterns look at in a query, in order of the text.
use Rattle.std.specs.Prelude.{ℕ, List, [], ◌∷◌, ◌++◌, map, flat_map, Option, Some, None, if◌then◌else◌}
use Rattle.bt_value.specs.Keys.{find}
use Rattle.bt_value.specs.Names.{methods, functions}
use Rattle.bt_value.specs.declared.names.MethodId.{MethodId}
use Rattle.bt_value.specs.declared.names.FunctionId.{FunctionId}
use Rattle.bt_tree.specs.declared.tree.Query.{Query, fold-Query}
use Rattle.bt_tree.specs.declared.tree.Query.TheOpen.{Query-F}
use Rattle.bt_tree.specs.declared.tree.Word.{Word}
use Rattle.bt_tree.specs.declared.tree.Suffix.{Suffix}
use Rattle.bt_tree.specs.declared.tree.Suffix.TheVariants as s
use Rattle.bt_tree.specs.declared.tree.Arg.{Arg}
use Rattle.bt_tree.specs.declared.tree.Arg.TheVariants as a
use Rattle.bt_tree.specs.declared.tree.Case.{Case}
use Rattle.bt_tree.specs.declared.tree.Case.TheVariants as case
use Rattle.bt_tree.specs.declared.tree.Branch.{Branch}
use Rattle.bt_calls.specs.declared.table.Slot.{Slot}
use Rattle.bt_calls.specs.declared.table.Slot.TheVariants as slot
use Rattle.bt_calls.specs.declared.table.Signature.{Signature}
use Rattle.bt_calls.specs.Shapes.{Shape, text, lambda, shape_in}
use Rattle.bt_calls.specs.Table.{method_takes, function_takes, fits}
use Rattle.bt_findings.specs.declared.finding.Finding.{Finding}
use Rattle.bt_findings.specs.declared.finding.Finding.TheVariants as found

-- ---- a call

-- what the first argument names, by what may stand there: a map, at the call's name, or a pattern, at its literal
abbrev pub named_by : Slot → ℕ → Word → Option Finding
named_by slot.Map at w = Some (found.Apply (record { at = at; text = w.text }))
named_by slot.Pattern at w = Some (found.Pattern w)
named_by _ at w = None

abbrev pub alone : Option Finding → List Finding
alone None = []
alone (Some x) = x ∷ []

abbrev pub named : Slot → ℕ → List Shape → List Finding
named s at (text w ∷ xs) = alone (named_by s at w)
named s at _ = []

abbrev pub by_signature : Signature → ℕ → List Shape → List Finding
by_signature s at xs = if fits s xs then named s.first at xs else (found.WrongArguments at ∷ [])

abbrev pub by_function : Option FunctionId → ℕ → List Shape → List Finding
by_function None at xs = found.UnknownFunction at ∷ []
by_function (Some id) at xs = by_signature (function_takes id) at xs

abbrev pub by_method : Option MethodId → ℕ → List Shape → List Finding
by_method None at xs = found.UnknownMethod at ∷ []
by_method (Some id) at xs = by_signature (method_takes id) at xs

unfoldable pub function_call : Word → List Shape → List Finding
function_call w xs = by_function (find w.text functions) w.at xs

unfoldable pub method_call : Word → List Shape → List Finding
method_call w xs = by_method (find w.text methods) w.at xs

-- ---- queries, by what is found in their parts

-- what an argument looks like from outside, and what is found in it
pub record Seen : Type 0 where
  pub shape : Shape
  pub findings : List Finding

abbrev pub arg_shape : Arg Seen → Shape
arg_shape (a.Query q) = q.shape
arg_shape (a.Lambda name q) = lambda

abbrev pub arg : Arg Seen → List Finding
arg (a.Query q) = q.findings
arg (a.Lambda name q) = q.findings

abbrev pub suffix : Suffix Seen → List Finding
suffix (s.Method w xs) = method_call w (map arg_shape xs) ++ flat_map arg xs
suffix (s.Within x) = arg x
suffix _ = []

abbrev pub one_case : Case Seen → List Finding
one_case (case.Any q) = q.findings
one_case (case.When p q) = p.findings ++ q.findings

abbrev pub branch : Branch Seen → List Finding
branch x = x.test.findings ++ x.gives.findings

abbrev pub optional : Option Seen → List Finding
optional None = []
optional (Some q) = q.findings

abbrev pub of_each : List Seen → List Finding
of_each qs = flat_map (λ q. q.findings) qs

abbrev pub findings_step : Query-F Seen → List Finding
findings_step (Query-F.Root at) = found.Root at ∷ []
findings_step (Query-F.Var w) = found.Variable w ∷ []
findings_step (Query-F.Call w xs) = function_call w (map arg_shape xs) ++ flat_map arg xs
findings_step (Query-F.Paren q) = q.findings
findings_step (Query-F.List qs) = of_each qs
findings_step (Query-F.Object xs) = flat_map (λ x. x.query.findings) xs
findings_step (Query-F.Item q xs) = q.findings ++ flat_map suffix xs
findings_step (Query-F.Prefix op q) = q.findings
findings_step (Query-F.Product q xs) = q.findings ++ flat_map (λ x. x.query.findings) xs
findings_step (Query-F.Sum q xs) = q.findings ++ flat_map (λ x. x.query.findings) xs
findings_step (Query-F.Compare p op q) = p.findings ++ q.findings
findings_step (Query-F.And q qs) = q.findings ++ of_each qs
findings_step (Query-F.Or q qs) = q.findings ++ of_each qs
findings_step (Query-F.Coalesce q qs) = q.findings ++ of_each qs
findings_step (Query-F.Match q xs) = optional q ++ flat_map one_case xs
findings_step (Query-F.If xs q) = flat_map branch xs ++ optional q
findings_step Query-F.Null = []
findings_step Query-F.True = []
findings_step Query-F.False = []
findings_step (Query-F.Int n) = []
findings_step (Query-F.Quoted w) = []
findings_step Query-F.This = []
findings_step (Query-F.Name w) = []
findings_step Query-F.Metadata = []
findings_step (Query-F.Meta x) = []

abbrev pub seen : Query → Seen
seen = fold-Query Seen (λ q. record { shape = shape_in q; findings = findings_step q })

abbrev pub findings : Query → List Finding
findings q = (seen q).findings

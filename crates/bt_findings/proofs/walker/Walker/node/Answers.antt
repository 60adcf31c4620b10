use Rattle.std.proofs.Common.{◌++◌, map, ap, sym, ◌∙◌, append_assoc}
use Rattle.bt_calls.specs.Shapes.{shape}
use Rattle.bt_findings.specs.Found as spec
use Rattle.bt_findings.specs.Found.{findings}
use Rattle.bt_findings.specs.Steps as steps
use Rattle.bt_findings.specs.Steps.{each}
use Rattle.bt_findings.proofs.FoundLayers.{on_ok, each_is, first_each, found-List, found-Object, found-Product, found-Sum, found-Compare, found-And, found-Or, found-Coalesce, found-Call, found-Item, found-Match, found-If}
use Rattle.bt_findings.proofs.walker.Walker.node.Goals as goal

pub returns-in-Call : goal.returns-in-Call
returns-in-Call g c =
    let u = c.args.out.now.list in
    on_ok c.call.result
    (λ h. h ∙ ap (λ xs. each steps.arg (u ++ spec.function_call c.in-Call.name (map shape xs)) xs) c.as_slice.ensures ∙ first_each steps.arg u (spec.function_call c.in-Call.name (map shape c.in-Call.args)) c.in-Call.args
    ∙ ap (λ v. u ++ v) (sym (ap findings c.in-Call.is ∙ found-Call c.in-Call.name c.in-Call.args))) c.call.ensures

pub returns-in-List : goal.returns-in-List
returns-in-List g c =
    let u = c.args.out.now.list in
    on_ok c.queries.result
    (λ h. h ∙ ap (each findings u) c.as_slice-in-List.ensures ∙ each_is findings u c.in-List.qs
    ∙ ap (λ v. u ++ v) (sym (ap findings c.in-List.is ∙ found-List c.in-List.qs))) c.queries.ensures

pub returns-in-Object : goal.returns-in-Object
returns-in-Object g c =
    let u = c.args.out.now.list in
    on_ok c.members.result
    (λ h. h ∙ ap (each steps.member u) c.as_slice-in-Object.ensures ∙ each_is steps.member u c.in-Object.members
    ∙ ap (λ v. u ++ v) (sym (ap findings c.in-Object.is ∙ found-Object c.in-Object.members))) c.members.ensures

pub returns-in-Item : goal.returns-in-Item
returns-in-Item g c =
    let u = c.args.out.now.list in
    on_ok c.item.result
    (λ h. h ∙ ap (λ q. each steps.suffix (u ++ findings q) c.as_slice-in-Item.result.now) c.get-in-Item.ensures ∙ ap (each steps.suffix (u ++ findings c.in-Item.head)) c.as_slice-in-Item.ensures ∙ first_each steps.suffix u (findings c.in-Item.head) c.in-Item.suffixes
    ∙ ap (λ v. u ++ v) (sym (ap findings c.in-Item.is ∙ found-Item c.in-Item.head c.in-Item.suffixes))) c.item.ensures

pub returns-in-Product : goal.returns-in-Product
returns-in-Product g c =
    let u = c.args.out.now.list in
    on_ok c.numeric.result
    (λ h. h ∙ ap (λ q. each steps.term (u ++ findings q) c.as_slice-in-Product.result.now) c.get-in-Product.ensures ∙ ap (each steps.term (u ++ findings c.in-Product.first)) c.as_slice-in-Product.ensures ∙ first_each steps.term u (findings c.in-Product.first) c.in-Product.terms
    ∙ ap (λ v. u ++ v) (sym (ap findings c.in-Product.is ∙ found-Product c.in-Product.first c.in-Product.terms))) c.numeric.ensures

pub returns-in-Sum : goal.returns-in-Sum
returns-in-Sum g c =
    let u = c.args.out.now.list in
    on_ok c.numeric-in-Sum.result
    (λ h. h ∙ ap (λ q. each steps.term (u ++ findings q) c.as_slice-in-Sum.result.now) c.get-in-Sum.ensures ∙ ap (each steps.term (u ++ findings c.in-Sum.first)) c.as_slice-in-Sum.ensures ∙ first_each steps.term u (findings c.in-Sum.first) c.in-Sum.terms
    ∙ ap (λ v. u ++ v) (sym (ap findings c.in-Sum.is ∙ found-Sum c.in-Sum.first c.in-Sum.terms))) c.numeric-in-Sum.ensures

pub returns-in-And : goal.returns-in-And
returns-in-And g c =
    let u = c.args.out.now.list in
    on_ok c.chain.result
    (λ h. h ∙ ap (λ q. each findings (u ++ findings q) c.as_slice-in-And.result.now) c.get-in-And.ensures ∙ ap (each findings (u ++ findings c.in-And.first)) c.as_slice-in-And.ensures ∙ first_each findings u (findings c.in-And.first) c.in-And.qs
    ∙ ap (λ v. u ++ v) (sym (ap findings c.in-And.is ∙ found-And c.in-And.first c.in-And.qs))) c.chain.ensures

pub returns-in-Or : goal.returns-in-Or
returns-in-Or g c =
    let u = c.args.out.now.list in
    on_ok c.chain-in-Or.result
    (λ h. h ∙ ap (λ q. each findings (u ++ findings q) c.as_slice-in-Or.result.now) c.get-in-Or.ensures ∙ ap (each findings (u ++ findings c.in-Or.first)) c.as_slice-in-Or.ensures ∙ first_each findings u (findings c.in-Or.first) c.in-Or.qs
    ∙ ap (λ v. u ++ v) (sym (ap findings c.in-Or.is ∙ found-Or c.in-Or.first c.in-Or.qs))) c.chain-in-Or.ensures

pub returns-in-Coalesce : goal.returns-in-Coalesce
returns-in-Coalesce g c =
    let u = c.args.out.now.list in
    on_ok c.chain-in-Coalesce.result
    (λ h. h ∙ ap (λ q. each findings (u ++ findings q) c.as_slice-in-Coalesce.result.now) c.get-in-Coalesce.ensures ∙ ap (each findings (u ++ findings c.in-Coalesce.first)) c.as_slice-in-Coalesce.ensures ∙ first_each findings u (findings c.in-Coalesce.first) c.in-Coalesce.qs
    ∙ ap (λ v. u ++ v) (sym (ap findings c.in-Coalesce.is ∙ found-Coalesce c.in-Coalesce.first c.in-Coalesce.qs))) c.chain-in-Coalesce.ensures

pub returns-in-Match : goal.returns-in-Match
returns-in-Match g c =
    let u = c.args.out.now.list in
    on_ok c.match_query.result
    (λ h. h ∙ ap (each steps.one_case (u ++ steps.optional c.in-Match.subject)) c.as_slice-in-Match.ensures ∙ first_each steps.one_case u (steps.optional c.in-Match.subject) c.in-Match.cases
    ∙ ap (λ v. u ++ v) (sym (ap findings c.in-Match.is ∙ found-Match c.in-Match.subject c.in-Match.cases))) c.match_query.ensures

pub returns-in-If : goal.returns-in-If
returns-in-If g c =
    let u = c.args.out.now.list in
    let last = steps.optional c.in-If.last in
    on_ok c.if_query.result
    (λ h. h ∙ ap (λ xs. each steps.branch u xs ++ last) c.as_slice-in-If.ensures ∙ ap (λ v. v ++ last) (each_is steps.branch u c.in-If.branches)
    ∙ append_assoc u _ last ∙ ap (λ v. u ++ v) (sym (ap findings c.in-If.is ∙ found-If c.in-If.branches c.in-If.last))) c.if_query.ensures

pub returns-in-Compare : goal.returns-in-Compare
returns-in-Compare g c =
    let u = c.args.out.now.list in
    on_ok c.both.result
    (λ h. h ∙ ap (λ q. (u ++ findings q) ++ findings c.get-in-Compare-2.result.now) c.get-in-Compare.ensures ∙ ap (λ q. (u ++ findings c.in-Compare.left) ++ findings q) c.get-in-Compare-2.ensures
    ∙ append_assoc u (findings c.in-Compare.left) (findings c.in-Compare.right)
    ∙ ap (λ v. u ++ v) (sym (ap findings c.in-Compare.is ∙ found-Compare c.in-Compare.left _ c.in-Compare.right))) c.both.ensures

use Rattle.std.proofs.Common.{List, ℕ, Some, Bor, map, nat_cmp, sym, ap, ◌∙◌, subst, rules}
use Rattle.std.proofs.lemmas.Fn.{always_returns_same}
use Rattle.std.specs.Cmp.Lexicographic.{slice_cmp}
use Rattle.std.specs.Result.{result_ok}
use Rattle.bt_value.proofs.Putting.{Found}
use Rattle.bt_value.proofs.Rows.{row_is, searched_rows}
use Rattle.bt_value.proofs.Searching.{at-slot}
use Rattle.bt_value.proofs.names.row_of.Goals as goal

pub returns-in-Ok : goal.returns-in-Ok
returns-in-Ok g c =
    let seen : Bor (List ℕ) × g.row.I.Denot → List ℕ × g.row.I.Denot = λ r. (r.0.now, r.1) in
    let table = c.args.table.now in
    let name = c.args.name.now in
    let by_name = c.binary_search_by.ensures.position (λ r. slice_cmp nat_cmp r.0.now name) (always_returns_same _ _ _ (λ a r f k. search rules)) in
    let found = searched_rows seen name table c.requires c.binary_search_by.result c.binary_search_by.ensures.bound by_name in
    let there = subst (λ r. Found name (map seen table) (result_ok r)) (sym found ∙ c.in-Ok.is) (at-slot name (map seen table) c.requires) in
    let row = c.index-table-at.result in
    ap (λ r. Some r.1) (sym (row_is seen table c.in-Ok.at row c.in-Ok.ensures.bound)) ∙ sym (there.1 (seen row))

pub returns-in-Err : goal.returns-in-Err
returns-in-Err g c =
    let seen : Bor (List ℕ) × g.row.I.Denot → List ℕ × g.row.I.Denot = λ r. (r.0.now, r.1) in
    let table = c.args.table.now in
    let name = c.args.name.now in
    let by_name = c.binary_search_by.ensures.position (λ r. slice_cmp nat_cmp r.0.now name) (always_returns_same _ _ _ (λ a r f k. search rules)) in
    let found = searched_rows seen name table c.requires c.binary_search_by.result c.binary_search_by.ensures.bound by_name in
    let missing = subst (λ r. Found name (map seen table) (result_ok r)) (sym found ∙ c.in-Err.is) (at-slot name (map seen table) c.requires) in
    sym missing.0

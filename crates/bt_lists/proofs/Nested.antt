-- The elements of a list nest less deep than the list.
use Rattle.std.proofs.Common.{◌≡◌, ◌≤◌, suc, false, List, ltb, rules, arith}
use Rattle.std.proofs.lemmas.Bool.{ltb-false}
use Rattle.bt_value.specs.Depth.{depth, items_depth}
use Rattle.bt_value.specs.declared.val.Val.{Val, Arr, the_lemmas}

pub list_depth : (xs : List Val) → ltb 127 (depth (Arr xs)) ≡ false → items_depth xs ≤ 127
list_depth xs e =
    let deep : depth (Arr xs) ≡ suc (items_depth xs) = search (rules, the_lemmas) in
    omega (arith, deep, ltb-false 127 (depth (Arr xs)) e)

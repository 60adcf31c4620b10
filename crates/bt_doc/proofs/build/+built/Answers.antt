use Rattle.std.proofs.Common.{◌≡◌, ◌+◌, ◌*◌, ◌<◌, ◌++◌, Some, w64, sym, ap, ◌∙◌, refl, arith, rules}
use mir.Val.{to_z, of_z}
use Rattle.json.specs.Tree.{depth, items_depth, members_depth}
use Rattle.serde_json.specs.Data.{Members, no_members}
use Rattle.serde_json.specs.Read.{of_json, of_items, of_members}
use Rattle.bt_value.specs.Marked.{mark, marked_items, marked_members}
use Rattle.bt_value.specs.declared.val.Val.{Int, Str, Bytes}
use Rattle.bt_doc.specs.Built.{json_here, items_in, members_in}
use Rattle.bt_doc.proofs.Built.{here_is, begins_here, text_built, number_built, bool_built, array_built, object_built, null_built, has_items, has_members, no_array, no_object, without_items, without_members, item_built, member_built, items_over, members_over, if_ok}
use Rattle.bt_doc.proofs.build.+built.Goals as goal

pub built-returns-in-Some : goal.built-returns-in-Some
built-returns-in-Some t c = λ d e.
    let j = json_here c.args.element.now in
    let here = begins_here c.args.element.now c.requires in
    ap Str c.in_ok-make.ensures ∙ text_built j c.in-Some.text.now d (c.in-Some.ensures j here) e

pub built-returns-in-Some-whole_number : goal.built-returns-in-Some-whole_number
built-returns-in-Some-whole_number t c = λ d e.
    let j = json_here c.args.element.now in
    let here = begins_here c.args.element.now c.requires in
    let n = c.in-Some-whole_number.n in
    let same : to_z w64 (of_z w64 n) ≡ n = search rules in
    ap Int same ∙ ap mark c.in-Some-whole_number.ensures ∙ number_built j c.in-Some-as_number.text.now d (c.in-Some-as_number.ensures j here) e

pub built-returns-in-None : goal.built-returns-in-None
built-returns-in-None t c = λ d e.
    let j = json_here c.args.element.now in
    let here = begins_here c.args.element.now c.requires in
    ap Bytes c.new.ensures ∙ ap mark c.in-None.ensures ∙ number_built j c.in-Some-as_number.text.now d (c.in-Some-as_number.ensures j here) e

pub built-returns-in-Some-as_bool : goal.built-returns-in-Some-as_bool
built-returns-in-Some-as_bool t c = λ d e.
    let j = json_here c.args.element.now in
    let here = begins_here c.args.element.now c.requires in
    bool_built j c.in-Some-as_bool.b d (c.in-Some-as_bool.ensures j here) e

pub built-returns-then-is_some : goal.built-returns-then-is_some
built-returns-then-is_some t c = λ d e.
    let j = json_here c.args.element.now in
    let here = begins_here c.args.element.now c.requires in
    let js = has_items c.items.result j (c.items.ensures j here) (sym c.is_some.ensures ∙ c.if-is_some.true) in
    array_built j js.0 c.in_ok-built_items.field-0 d js.1 c.in_ok-built_items.ensures e

pub built-returns-then-is_some-2 : goal.built-returns-then-is_some-2
built-returns-then-is_some-2 t c = λ d e.
    let j = json_here c.args.element.now in
    let here = begins_here c.args.element.now c.requires in
    let ms = has_members c.members.result j (c.members.ensures j here) (sym c.is_some-2.ensures ∙ c.if-is_some-2.true) in
    object_built j ms.0 c.in_ok-built_members.field-0 d ms.1 c.in_ok-built_members.ensures e

pub built-returns : goal.built-returns
built-returns t c = λ d e.
    let j = json_here c.args.element.now in
    let here = begins_here c.args.element.now c.requires in
    let array = no_array c.items.result j (c.items.ensures j here) (sym c.is_some.ensures ∙ c.if-is_some.false) in
    let object = no_object c.members.result j (c.members.ensures j here) (sym c.is_some-2.ensures ∙ c.if-is_some-2.false) in
    null_built j d (c.in_default.ensures j here) (c.in_default-as_number.ensures j here) (c.in_default-as_bool.ensures j here) array object e

pub built_items-returns-in_default : goal.built_items-returns-in_default
built_items-returns-in_default t c = λ ds e.
    let j = json_here c.args.element.now in
    let here = begins_here c.args.element.now c.requires in
    c.new-found.ensures ∙ without_items j ds (c.in_default.ensures j here) e

pub built_items-items-init : goal.built_items-items-init
built_items-items-init t c =
    let all = c.in-Some.ensures (json_here c.args.element.now) (begins_here c.args.element.now c.requires) in (
      all.0,
      all.2,
      omega (arith, ap (λ j. items_depth (items_in j)) all.1),
      λ total e. (total, sym (ap (λ j. of_items (items_in j)) all.1) ∙ e, ap (λ vs. vs ++ marked_items total) (sym c.new-found.ensures)),
    )

pub built_items-built-requires : goal.built_items-built-requires
built_items-built-requires t c =
    let whole = c.in-Some.ensures (json_here c.args.element.now) (begins_here c.args.element.now c.requires) in
    let l = c.items.invariant in
    let next = c.in-Some-next.ensures.value l.0 l.1 in
    let item = here_is c.in-Some-next.item next.0 next.3 in
    let low : 2 * depth (json_here c.in-Some-next.item) + 1 < 2 * depth (json_here c.args.element.now) =
    omega (arith, l.2, ap depth item, ap items_depth next.2, ap depth whole.1, ap (λ j. items_depth (items_in j)) whole.1) in
    (grind (arith, rules, low), (next.0, next.3))

pub built_items-items-preserved : goal.built_items-items-preserved
built_items-items-preserved t c =
    let l = c.items.invariant in
    let next = c.in-Some-next.ensures.value l.0 l.1 in
    let item = here_is c.in-Some-next.item next.0 next.3 in (
      next.1,
      next.4,
      omega (arith, l.2, ap items_depth next.2),
      λ total e.
          let so_far = l.3 total e in
          item_built c.items.found c.push.new.self (marked_items total) next.0 next.1 c.in_ok-built.field-0 so_far.0 (sym (ap of_items next.2) ∙ so_far.1) so_far.2
          (λ d f. c.in_ok-built.ensures d (ap of_json item ∙ f)) c.in_ok-push.ensures.ok,
    )

pub built_items-returns : goal.built_items-returns
built_items-returns t c = λ ds e.
    let l = c.items.invariant in
    let none = c.in_default-next.ensures.value l.0 l.1 in
    let so_far = l.3 ds e in
    items_over l.0 so_far.0 c.items.found (marked_items ds) none so_far.1 so_far.2

pub built_members-returns-in_default : goal.built_members-returns-in_default
built_members-returns-in_default t c =
    let j = json_here c.args.element.now in
    let here = begins_here c.args.element.now c.requires in
    if_ok c.finish.result c.new-found.result (λ vs. (ds : Members) → of_members (members_in j) no_members ≡ Some ds → vs ≡ marked_members ds) c.finish.ensures
    (λ ds e. c.new-found.ensures ∙ without_members j ds (c.in_default.ensures j here) e)

pub built_members-members-init : goal.built_members-members-init
built_members-members-init t c =
    let all = c.in-Some.ensures (json_here c.args.element.now) (begins_here c.args.element.now c.requires) in (
      all.0,
      all.2,
      omega (arith, ap (λ j. members_depth (members_in j)) all.1),
      λ total e. (no_members, sym (ap (λ j. of_members (members_in j) no_members) all.1) ∙ e, c.new-found.ensures),
    )

pub built_members-built-requires : goal.built_members-built-requires
built_members-built-requires t c =
    let whole = c.in-Some.ensures (json_here c.args.element.now) (begins_here c.args.element.now c.requires) in
    let l = c.members.invariant in
    let next = c.in-Some-next.ensures.value l.0 l.1 in
    let member = here_is c.in-Some-next.member next.0 next.3 in
    let low : 2 * depth (json_here c.in-Some-next.member) + 1 < 2 * depth (json_here c.args.element.now) =
    omega (arith, l.2, ap depth member, ap members_depth next.2, ap depth whole.1, ap (λ j. members_depth (members_in j)) whole.1) in
    (grind (arith, rules, low), (next.0, next.3))

pub built_members-members-preserved : goal.built_members-members-preserved
built_members-members-preserved t c =
    let l = c.members.invariant in
    let next = c.in-Some-next.ensures.value l.0 l.1 in
    let member = here_is c.in-Some-next.member next.0 next.3 in (
      next.1,
      next.4,
      omega (arith, l.2, ap members_depth next.2),
      λ total e.
          let so_far = l.3 total e in
          member_built c.members.found c.put.new.self c.in-Some-next.name.now c.in_ok-key.key next.0 next.1 c.in_ok-built.field-0 so_far.0 total (sym (ap (λ ms. of_members ms so_far.0) next.2) ∙ so_far.1) so_far.2
          (λ d f. c.in_ok-built.ensures d (ap of_json member ∙ f)) c.in_ok-key.ensures c.in_ok-put.ensures.ok,
    )

pub built_members-returns : goal.built_members-returns
built_members-returns t c =
    let j = json_here c.args.element.now in
    let l = c.members.invariant in
    let none = c.in_default-next.ensures.value l.0 l.1 in
    if_ok c.finish-2.result c.members.found (λ vs. (ds : Members) → of_members (members_in j) no_members ≡ Some ds → vs ≡ marked_members ds) c.finish-2.ensures
    (λ ds e. let so_far = l.3 ds e in so_far.2 ∙ ap marked_members (members_over l.0 so_far.0 ds none so_far.1))

use Rattle.std.proofs.Common.{◌≡◌, ◌≤◌, ◌<◌, ◌+◌, ◌++◌, ◌∙◌, sym, ap, subst, arith, take, drop, length, true, refl}
use Rattle.std.proofs.lemmas.Grind.{common_steps}
use Rattle.std.specs.List.{prefix_len}
use Rattle.std.specs.Prelude.{encode_utf8}
use Rattle.std.specs.Str.{IsCharBoundary}
use Rattle.bt_lexer.specs.Strings.{Part, is_plain, is_quoted, parts_value}
use Rattle.bt_lexer.proofs.TextLemmas.{plain_leads, plain_stops, escape_leads, escape_long, after_mark, joined, run_text, done}
use Rattle.bt_lexer.proofs.ValueLemmas.{text_ended}
use Rattle.bt_lexer.proofs.values.quoted_value.Goals as goal

pub parts-init : goal.parts-init
parts-init c =
    let s = c.as_bytes-bytes.result.now in
    let start = after_mark s c.as_bytes-bytes.ensures.utf8 (subst (λ y. is_quoted y ≡ true) (sym c.as_bytes-bytes.ensures.value) c.requires) in
    record { within = start.within; cut = start.cut; closed = start.closed; same = rw c.new-value.ensures refl }

pub overflow_add-end : goal.overflow_add-end
overflow_add-end c =
    let s = c.as_bytes-bytes.result.now in
    let len : c.plain_len.result ≡ prefix_len is_plain (drop c.parts.at s) = rw c.from_place.ensures at c.plain_len.ensures in
    let fits : c.parts.at + c.plain_len.result ≤ length s = (plain_leads s c.parts.at c.plain_len.result c.parts.invariant.within c.parts.invariant.closed len).within in
    grind (arith, common_steps)

pub range-requires-clause-end_boundary : goal.range-requires-clause-end_boundary
range-requires-clause-end_boundary c =
    let s = c.as_bytes-bytes.result.now in
    let len : c.plain_len.result ≡ prefix_len is_plain (drop c.parts.at s) = rw c.from_place.ensures at c.plain_len.ensures in
    subst (λ y. IsCharBoundary y (c.parts.at + c.plain_len.result)) c.as_bytes-bytes.ensures.value (plain_leads s c.parts.at c.plain_len.result c.parts.invariant.within c.parts.invariant.closed len).cut

pub returns-in_default : goal.returns-in_default
returns-in_default c =
    let s = c.as_bytes-bytes.result.now in
    let len : c.plain_len.result ≡ prefix_len is_plain (drop c.parts.at s) = rw c.from_place.ensures at c.plain_len.ensures in
    let mid = c.parts.at + c.plain_len.result in
    let run = plain_leads s c.parts.at c.plain_len.result c.parts.invariant.within c.parts.invariant.closed len in
    let piece = c.in_ok-push_str.ensures.ok ∙ ap (λ y. c.parts.value ++ y) (run_text s c.args.piece.now c.range.result.now c.parts.at c.plain_len.result c.as_bytes-bytes.ensures.value c.range.ensures.value) in
    let so_far = joined c.parts.value (take c.plain_len.result (drop c.parts.at s)) (parts_value (drop c.parts.at s) 0) (parts_value (drop mid s) 0) (parts_value (drop 1 s) 0) c.push_str.new.self c.parts.invariant.same run.same piece in
    let none = rw c.from_place-in-parts.ensures at c.in_default.ensures in
    let end = text_ended (drop mid s) run.closed (plain_stops s c.parts.at c.plain_len.result len) none in
    subst (λ y. c.push_str.new.self ≡ parts_value (drop 1 y) 0) c.as_bytes-bytes.ensures.value (done c.push_str.new.self (parts_value (drop mid s) 0) (parts_value (drop 1 s) 0) so_far end)

pub overflow_add-at : goal.overflow_add-at
overflow_add-at c =
    let s = c.as_bytes-bytes.result.now in
    let len : c.plain_len.result ≡ prefix_len is_plain (drop c.parts.at s) = rw c.from_place.ensures at c.plain_len.ensures in
    let mid = c.parts.at + c.plain_len.result in
    let run = plain_leads s c.parts.at c.plain_len.result c.parts.invariant.within c.parts.invariant.closed len in
    let found = rw c.from_place-in-parts.ensures at c.in-Some.ensures in
    let part : Part = record { len = c.in-Some.len; value = encode_utf8 c.in-Some.c } in
    let next = escape_leads s mid part c.as_bytes-bytes.ensures.utf8 run.within run.closed found.0 found.1 in
    let fits : c.parts.at + c.plain_len.result + c.in-Some.len ≤ length s = next.within in
    grind (arith, common_steps)

pub parts-smaller : goal.parts-smaller
parts-smaller c =
    let s = c.as_bytes-bytes.result.now in
    let len : c.plain_len.result ≡ prefix_len is_plain (drop c.parts.at s) = rw c.from_place.ensures at c.plain_len.ensures in
    let mid = c.parts.at + c.plain_len.result in
    let run = plain_leads s c.parts.at c.plain_len.result c.parts.invariant.within c.parts.invariant.closed len in
    let found = rw c.from_place-in-parts.ensures at c.in-Some.ensures in
    let part : Part = record { len = c.in-Some.len; value = encode_utf8 c.in-Some.c } in
    let next = escape_leads s mid part c.as_bytes-bytes.ensures.utf8 run.within run.closed found.0 found.1 in
    let fits : c.parts.at + c.plain_len.result + c.in-Some.len ≤ length s = next.within in
    let some : 0 < c.in-Some.len = escape_long (drop mid s) part found.0 found.1 in
    omega arith

pub parts-preserved : goal.parts-preserved
parts-preserved c =
    let s = c.as_bytes-bytes.result.now in
    let len : c.plain_len.result ≡ prefix_len is_plain (drop c.parts.at s) = rw c.from_place.ensures at c.plain_len.ensures in
    let mid = c.parts.at + c.plain_len.result in
    let run = plain_leads s c.parts.at c.plain_len.result c.parts.invariant.within c.parts.invariant.closed len in
    let piece = c.in_ok-push_str.ensures.ok ∙ ap (λ y. c.parts.value ++ y) (run_text s c.args.piece.now c.range.result.now c.parts.at c.plain_len.result c.as_bytes-bytes.ensures.value c.range.ensures.value) in
    let so_far = joined c.parts.value (take c.plain_len.result (drop c.parts.at s)) (parts_value (drop c.parts.at s) 0) (parts_value (drop mid s) 0) (parts_value (drop 1 s) 0) c.push_str.new.self c.parts.invariant.same run.same piece in
    let found = rw c.from_place-in-parts.ensures at c.in-Some.ensures in
    let part : Part = record { len = c.in-Some.len; value = encode_utf8 c.in-Some.c } in
    let next = escape_leads s mid part c.as_bytes-bytes.ensures.utf8 run.within run.closed found.0 found.1 in
    let new = c.in_ok-push_str-2.ensures.ok ∙ ap (λ y. c.push_str.new.self ++ y) c.encode_utf8.ensures.value in
    record {
      within = next.within;
      cut = next.cut;
      closed = next.closed;
      same = joined c.push_str.new.self part.value (parts_value (drop mid s) 0) (parts_value (drop (mid + c.in-Some.len) s) 0) (parts_value (drop 1 s) 0) c.push_str-in-parts.new.self so_far next.same new;
    }

use Rattle.std.proofs.Common.{◌≡◌, ◌∙◌, sym, refl, ap, take, drop, Some}
use Rattle.bt_time.specs.Format.{pieces, civil_in}
use Rattle.bt_time.specs.Instants.{stamp, fraction, offset, offset_at, instant_of}
use Rattle.bt_time.proofs.InstantLemmas.{instant_is, kept_offset}
use Rattle.bt_time.proofs.instant.instant.Goals as goal

pub returns : goal.returns
returns c =
    let t = c.args.text.now in
    let behind : c.behind-rest.result.now ≡ drop 19 t = c.behind-rest.ensures in
    let at : c.offset_at-at.result ≡ offset_at (drop 19 t) = c.offset_at-at.ensures ∙ rw behind refl in
    let civil : civil_in (pieces stamp) (take 19 t) ≡ Some c.in_ok-civil.civil
    = sym (c.in_ok-civil.ensures.exact ∙ ap (civil_in (pieces stamp)) c.front.ensures) in
    let before : take c.offset_at-at.result c.behind-rest.result.now ≡ take (offset_at (drop 19 t)) (drop 19 t) = rw (at, behind) refl in
    let after : drop c.offset_at-at.result c.behind-rest.result.now ≡ drop (offset_at (drop 19 t)) (drop 19 t) = rw (at, behind) refl in
    let parts : fraction (take (offset_at (drop 19 t)) (drop 19 t)) ≡ Some c.in_ok-fraction.fraction
    = sym (c.in_ok-fraction.ensures.value ∙ ap fraction (c.front-2.ensures ∙ before)) in
    let zone : offset (drop (offset_at (drop 19 t)) (drop 19 t)) ≡ Some c.in_ok-offset.offset
    = sym (c.in_ok-offset.ensures.value ∙ ap offset (c.behind.ensures ∙ after)) in
    c.instant_of.ensures
    ∙ ap (λ z. Some (instant_of c.in_ok-civil.civil c.in_ok-fraction.fraction z)) (kept_offset c.in_ok-offset.offset c.in_ok-offset.ensures.small)
    ∙ sym (instant_is t c.in_ok-civil.civil c.in_ok-fraction.fraction c.in_ok-offset.offset civil parts zone)

use Rattle.std.proofs.Common.{◌≡◌, ◌-◌, ℕ, List, length, take, drop, eqb, sym, ap, ◌∙◌, arith, inl, inr}
use Rattle.std.specs.List.{starts_with}
use Rattle.std.proofs.lemmas.Bool.{cases_lt}
use Rattle.std.proofs.lemmas.List.{length-drop, take_all}
use Rattle.bt_lines.specs.Pieces.{begins}
use Rattle.bt_intake.proofs.Places.{starts-begins}
use Rattle.bt_intake.proofs.line.may_end.Goals as goal

-- the front that the loop tests, as a slice of the bytes
tested : (bytes d : List ℕ) (place : ℕ) → begins (drop place bytes) d ≡ starts_with eqb d (take (length bytes - place) (drop place bytes))
tested bytes d place =
    sym (starts-begins d (drop place bytes)) ∙ ap (starts_with eqb d) (sym (take_all (length bytes - place) (drop place bytes) (omega (arith, length-drop place bytes))))

pub places-init : goal.places-init
places-init c = record {
  many = c.if-bytes-le-LONGEST.false;
  tried = λ k h l. absurd (omega (arith, h, l, c.saturating_sub-place.ensures));
}

pub returns-then-starts_with : goal.returns-then-starts_with
returns-then-starts_with c = record {
  place = c.places.place;
  early = c.places-test.true;
  inside = omega (arith, c.places-test.true, c.places.invariant.many);
  front = tested c.args.bytes.now c.args.delimiter.now c.places.place ∙ sym c.starts_with.ensures.value ∙ c.if-starts_with.true;
}

pub places-preserved : goal.places-preserved
places-preserved c = record {
  many = c.places.invariant.many;
  tried = λ k h l. elim (cases_lt k c.places.place) [
    | inl less ↦ c.places.invariant.tried k less l
    | inr more ↦
        let same : k ≡ c.places.place = omega (arith, h, more) in
        ap (λ j. begins (drop j c.args.bytes.now) c.args.delimiter.now) same ∙ tested c.args.bytes.now c.args.delimiter.now c.places.place
        ∙ sym c.starts_with.ensures.value ∙ c.if-starts_with.false
  ];
}

use Rattle.std.proofs.Common.{◌≡◌, ◌++◌, chars}
use Rattle.std.specs.Prelude.{IsUtf8}
use Rattle.std.specs.Char.{encode_utf8}
use Rattle.std.specs.List.{flat_map}
use Rattle.std.specs.Str.Iter.{chars_rest}
use Rattle.bt_texts.proofs.texts.bytes_woven.Given as goal

abbrev pub invariant-loop-c : goal.invariant-loop-c
invariant-loop-c l = record {
  utf8 : IsUtf8 (chars_rest l.c-iterator);
  so_far : flat_map (λ c. l.t ++ encode_utf8 c) (chars l.s) ≡ l.out ++ flat_map (λ c. l.t ++ encode_utf8 c) (chars (chars_rest l.c-iterator));
}

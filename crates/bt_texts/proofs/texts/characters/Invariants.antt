use Rattle.std.proofs.Common.{◌≡◌, ◌++◌, map, chars}
use Rattle.std.specs.Prelude.{IsUtf8}
use Rattle.std.specs.Char.{encode_utf8}
use Rattle.std.specs.Str.Iter.{chars_rest}
use Rattle.bt_texts.specs.Texts as spec
use Rattle.bt_texts.proofs.texts.characters.Given as goal

abbrev pub invariant-loop-c : goal.invariant-loop-c
invariant-loop-c l = record {
  utf8 : IsUtf8 (chars_rest l.c-iterator);
  so_far : map (λ c. spec.made l.as_string (encode_utf8 c)) (chars l.s) ≡ l.got ++ map (λ c. spec.made l.as_string (encode_utf8 c)) (chars (chars_rest l.c-iterator));
}

use Rattle.std.proofs.Common.{◌∙◌, sym}
use Rattle.std.specs.Char.{encode_utf8}
use Rattle.std.proofs.lemmas.Str.{IsUtf8-past_char}
use Rattle.bt_texts.specs.Texts as spec
use Rattle.bt_texts.proofs.Characters.{one_more, ended}
use Rattle.bt_texts.proofs.texts.characters.Goals as goal

pub loop-c-preserved : goal.loop-c-preserved
loop-c-preserved c =
    let e = c.in-Some.ensures.steps in
    let i = c.loop-c.invariant in
    record {
      utf8 = IsUtf8-past_char _ _ c.in-Some.c i.utf8 e.0;
      so_far = rw (c.in_ok-push.ensures.ok, c.in_ok-character.ensures) (i.so_far ∙ one_more (λ x. spec.made c.args.as_string (encode_utf8 x)) c.loop-c.got _ _ c.in-Some.c i.utf8 e.0);
    }

pub returns : goal.returns
returns c =
    let e = c.in-None.ensures.steps in
    sym (c.loop-c.invariant.so_far ∙ ended (λ x. spec.made c.args.as_string (encode_utf8 x)) c.loop-c.got _ e.0.0)

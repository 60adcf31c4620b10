use Rattle.std.proofs.Common.{◌∙◌, sym}
use Rattle.std.proofs.lemmas.Str.{IsUtf8-past_char}
use Rattle.bt_texts.proofs.Characters.{one_more_before, ended_before}
use Rattle.bt_texts.proofs.texts.bytes_woven.Goals as goal

pub loop-c-preserved : goal.loop-c-preserved
loop-c-preserved c =
    let e = c.in-Some.ensures.steps in
    let i = c.loop-c.invariant in
    record {
      utf8 = IsUtf8-past_char _ _ c.in-Some.c i.utf8 e.0;
      so_far = rw (c.in_ok-push_char.ensures, c.in_ok-push_all.ensures.ok) (i.so_far ∙ one_more_before c.args.t.now c.loop-c.out _ _ c.in-Some.c i.utf8 e.0);
    }

pub returns : goal.returns
returns c =
    let e = c.in-None.ensures.steps in
    sym (c.loop-c.invariant.so_far ∙ ended_before c.args.t.now c.loop-c.out _ e.0.0)

use Rattle.std.proofs.Common.{◌≡◌, refl}
use Rattle.std.proofs.lemmas.Str.{IsCharBoundary-start}
use Rattle.memchr.specs.Find.{matches}
use Rattle.bt_texts.proofs.Cuts.{string_cuts}
use Rattle.bt_texts.proofs.texts.string_between.Goals as goal

pub loop-at-init : goal.loop-at-init
loop-at-init c =
    let found : c.into_iter-at-iterator.result ≡ matches c.args.s.now c.args.t.now 0 =
    rw (c.into_iter-at-iterator.ensures.into_iter_gives, c.find_iter-at-items.ensures.value, c.as_bytes.ensures.value, c.as_bytes-2.ensures.value) refl in
    record {
      so_far = rw (c.new-got.ensures, found) refl;
      here = IsCharBoundary-start c.args.s.now c.utf8.s;
      later = rw found (string_cuts c.args.s.now c.args.t.now c.utf8.s c.utf8.t c.requires);
    }

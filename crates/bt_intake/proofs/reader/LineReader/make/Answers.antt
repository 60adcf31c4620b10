use Rattle.std.proofs.Common.{◌≡◌, [], length, drop, refl, sym, ap, subst, arith, inl}
use Rattle.bt_lines.specs.Follows.{Follows}
use Rattle.bt_lines.proofs.Lines.{follows-start}
use Rattle.bt_intake.specs.Reader.{rest}
use Rattle.bt_intake.specs.Sources.{told}
use Rattle.bt_intake.proofs.Rests.{rest-start, taken_count-start}
use Rattle.bt_intake.proofs.reader.LineReader.make.Goals as goal

pub returns-clause-holds : goal.returns-clause-holds
returns-clause-holds g c =
    let d = c.args.delimiter in
    let ns = c.args.sources.list in
    let empty : drop 0 c.new.result.items ≡ [] = c.new.ensures.items in
    record {
      some = c.requires.some;
      inside = omega arith;
      window_taken = omega (arith, ap length empty);
      clear = λ k h. absurd (omega (arith, h));
      clear_fits = inl refl;
      at_end = omega arith;
      done = λ h. empty;
      within_bound = omega arith;
      bound_fits = c.requires.bound_fits;
      used = omega (arith, ap length empty);
      counted = λ q. taken_count-start g.S.Readable.shown ns (c.requires.untaken q);
      in_list = λ q. omega arith;
      follows = λ q. subst (λ u. Follows d (told g.S.Readable.shown ns) 0 0 u (rest g.S.Readable.shown u ns)) (sym empty)
          (subst (Follows d (told g.S.Readable.shown ns) 0 0 []) (sym (rest-start g.S.Readable.shown ns (c.requires.untaken q))) (follows-start d c.requires.some (told g.S.Readable.shown ns)));
    }

use Rattle.std.proofs.Common.{◌≡◌, ◌+◌, ◌-◌, take, drop, ap, subst, ◌∙◌, List, ℕ, Option, None}
use Rattle.std.specs.Prelude.{IfSome}
use Rattle.bt_lines.specs.Lines.{item}
use Rattle.bt_intake.specs.Reader.{uncut}
use Rattle.bt_intake.proofs.Rests.{get-inside}
use Rattle.bt_intake.proofs.Windows.{part_is}
use Rattle.bt_intake.proofs.reader.LineReader.make_item.Goals as goal

one_item : (d e bytes line part : List ℕ) (path p : Option (List ℕ)) → bytes ≡ (item e None part).bytes → e ≡ d → part ≡ line → path ≡ p → record { bytes = bytes; path = path } ≡ item d p line
one_item d e bytes line part path p b q r f = cc

pub returns : goal.returns
returns g c =
    let s = c.args.self.now in
    let (at_hand, found) = get-inside s.sources.list s.at c.requires.here in
    let part : take (s.from + c.args.n - s.from) (drop s.from c.deref.result.now) ≡ take c.args.n (uncut s) =
    ap (λ w. take (s.from + c.args.n - s.from) (drop s.from w)) c.deref.ensures.value ∙ part_is s.window.items s.from c.args.n in
    record {
      at_hand = at_hand;
      found = found;
      made = one_item s.delimiter c.as_slice.result.now _ (take c.args.n (uncut s)) _ _ at_hand.path c.in_ok-bytes.ensures c.as_slice.ensures part
          (subst (λ o. IfSome o (λ n. c.in_ok-path.path ≡ n.path)) found c.in_ok-path.ensures);
    }

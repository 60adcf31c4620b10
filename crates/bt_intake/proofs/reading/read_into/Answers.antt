use Rattle.std.proofs.Common.{◌≡◌, ◌-◌, ◌++◌, length, drop, sym, ap, ◌∙◌, arith}
use Rattle.std.proofs.Math.Seq.{drop-append_seam}
use Rattle.bt_intake.proofs.reading.read_into.Goals as goal

-- the tail begins behind the first `from` bytes, which stay
pub returns-clause-reads : goal.returns-clause-reads
returns-clause-reads g c =
    let front = c.split_at_mut-tail.result.0.now in
    let size : length front ≡ c.args.from = c.split_at_mut-tail.ensures.front_len in
    let tail : drop c.args.from (front ++ c.read_at.new.buffer) ≡ c.read_at.new.buffer = ap (λ n. drop n (front ++ c.read_at.new.buffer)) (sym size) ∙ drop-append_seam front c.read_at.new.buffer in
    let room : length c.args.buffer.now - c.args.from ≡ length c.split_at_mut-tail.result.1.now = omega (arith, c.split_at_mut-tail.ensures.back_len) in
    rw tail (rw room c.read_at.ensures)

use Rattle.std.proofs.Common.{◌≡◌, ◌-◌, length, drop, ap, ◌∙◌, arith}
use Rattle.std.proofs.lemmas.List.{take_at}
use Rattle.bt_intake.proofs.reading.read_behind.Goals as goal

pub returns-clause-reads : goal.returns-clause-reads
returns-clause-reads g c =
    let n : length c.read_into.new.buffer ≡ c.args.buffer.now.len = c.read_into.auto.buffer ∙ c.as_mut_slice.ensures.len in
    let room : length c.args.buffer.now.items - c.args.from ≡ length c.as_mut_slice.result.now - c.args.from = omega (arith, ap length c.as_mut_slice.ensures.value) in
    rw (take_at c.read_into.new.buffer (drop (length c.read_into.new.buffer) c.args.buffer.now.items) c.args.buffer.now.len n) (rw room c.read_into.ensures.reads)

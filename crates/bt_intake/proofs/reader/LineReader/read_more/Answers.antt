use Rattle.std.proofs.Common.{◌≡◌, ◌+◌, ◌≤◌, length, take, drop, refl, sym, ap, ◌∙◌, subst, arith}
use Rattle.bt_ports.specs.declared.parts.Read.TheVariants as read
use Rattle.bt_intake.specs.Sources.{OneRose, fault_count}
use Rattle.bt_intake.proofs.ReadBytes.{front_kept, read_part, read-kept, read_tells, stands-read, stands-quiet, takes-next, read-ended}
use Rattle.bt_intake.proofs.SourceLists.{sources_kept-same, rose-slice_set, rose-count, faults-slice_set}
use Rattle.bt_intake.proofs.reader.LineReader.read_more.Goals as goal

pub returns-in_err-make_room-clause-kept : goal.returns-in_err-make_room-clause-kept
returns-in_err-make_room-clause-kept g c = sources_kept-same g.S.Readable.shown c.args.self.now.sources.list

pub returns-in-Count-clause-holds : goal.returns-in-Count-clause-holds
returns-in-Count-clause-holds g c =
    let s = c.args.self.now in
    let t = record s { sources = c.read_behind.new.sources; window = c.truncate.new.self } in
    let h = c.in-Count.ensures.reads in
    let n = c.in-Count.n in
    let buffer = c.read_behind.new.buffer.items in
    let end : c.len-end.result ≡ length s.window.items = omega (arith, c.len-end.ensures, s.window.ok.0) in
    let room = c.in_ok-make_room.ensures.ok in
    let fits = h.reads.fits in
    let part = read_part s.window.items c.make_room.new.window.items buffer c.len-end.result n end room.0 c.in-Count.ensures.kept c.in-Count.ensures.len fits.1 in
    let within : s.taken + n ≤ s.bound = omega (arith, fits.1, room.1, end, c.min-size.ensures, c.requires.room) in
    stands-read g.S.Readable.shown s c.requires.holds c.requires.here (read.Count n) t _ _ h (take n (drop c.len-end.result buffer)) n
    (c.truncate.ensures.items ∙ part.0) part.1 within
    (λ q. let k = h.reads.takes (read_tells g.S.Readable.shown s c.requires.holds c.requires.here (read.Count n) t _ _ h q) in
    (k.0, takes-next g.S.Readable.shown s c.requires.holds c.requires.here (read.Count n) t _ _ h n q k.0 k.2))

pub returns-in-Count-clause-kept : goal.returns-in-Count-clause-kept
returns-in-Count-clause-kept g c =
    let s = c.args.self.now in
    read-kept g.S.Readable.shown s c.requires.holds c.requires.here (read.Count c.in-Count.n) (record s { sources = c.read_behind.new.sources }) _ _ c.in-Count.ensures.reads

pub returns-in-Count-clause-faults : goal.returns-in-Count-clause-faults
returns-in-Count-clause-faults g c =
    let s = c.args.self.now in
    let h = c.in-Count.ensures.reads in
    subst (λ ms. fault_count g.S.Readable.shown ms ≡ fault_count g.S.Readable.shown s.sources.list) (sym h.is) (faults-slice_set g.S.Readable.shown s.sources.list s.at h.old h.new h.was h.reads.failed)

pub returns-in-End-clause-holds : goal.returns-in-End-clause-holds
returns-in-End-clause-holds g c =
    let s = c.args.self.now in
    let t = record s { sources = c.read_behind.new.sources; window = c.truncate-in-End.new.self } in
    let h = c.in-End.ensures.reads in
    let end : c.len-end.result ≡ length s.window.items = omega (arith, c.len-end.ensures, s.window.ok.0) in
    let kept = front_kept s.window.items c.make_room.new.window.items c.read_behind.new.buffer.items c.len-end.result end c.in_ok-make_room.ensures.ok.0 c.in-End.ensures.kept in
    stands-quiet g.S.Readable.shown s c.requires.holds c.requires.here read.End t _ _ h (c.truncate-in-End.ensures.items ∙ kept)
    (λ q. (h.reads.takes (read_tells g.S.Readable.shown s c.requires.holds c.requires.here read.End t _ _ h q)).0)

pub returns-in-End-clause-kept : goal.returns-in-End-clause-kept
returns-in-End-clause-kept g c =
    let s = c.args.self.now in
    read-kept g.S.Readable.shown s c.requires.holds c.requires.here read.End (record s { sources = c.read_behind.new.sources }) _ _ c.in-End.ensures.reads

pub returns-in-End-clause-reads : goal.returns-in-End-clause-reads
returns-in-End-clause-reads g c =
    let s = c.args.self.now in
    let t = record s { sources = c.read_behind.new.sources } in
    let h = c.in-End.ensures.reads in
    let end : c.len-end.result ≡ length s.window.items = omega (arith, c.len-end.ensures, s.window.ok.0) in
    let kept = front_kept s.window.items c.make_room.new.window.items c.read_behind.new.buffer.items c.len-end.result end c.in_ok-make_room.ensures.ok.0 c.in-End.ensures.kept in (
      refl,
      ap (drop s.from) (c.truncate-in-End.ensures.items ∙ kept),
      read-ended g.S.Readable.shown s c.requires.holds c.requires.here read.End t _ _ h (λ q. h.reads.takes (read_tells g.S.Readable.shown s c.requires.holds c.requires.here read.End t _ _ h q)),
    )

pub returns-in-End-clause-faults : goal.returns-in-End-clause-faults
returns-in-End-clause-faults g c =
    let s = c.args.self.now in
    let h = c.in-End.ensures.reads in
    subst (λ ms. fault_count g.S.Readable.shown ms ≡ fault_count g.S.Readable.shown s.sources.list) (sym h.is) (faults-slice_set g.S.Readable.shown s.sources.list s.at h.old h.new h.was h.reads.failed)

pub returns-in-Failed-clause-holds : goal.returns-in-Failed-clause-holds
returns-in-Failed-clause-holds g c =
    let s = c.args.self.now in
    let t = record s { sources = c.read_behind.new.sources; window = c.truncate-in-Failed.new.self } in
    let h = c.in-Failed.ensures.reads in
    let end : c.len-end.result ≡ length s.window.items = omega (arith, c.len-end.ensures, s.window.ok.0) in
    let kept = front_kept s.window.items c.make_room.new.window.items c.read_behind.new.buffer.items c.len-end.result end c.in_ok-make_room.ensures.ok.0 c.in-Failed.ensures.kept in
    stands-quiet g.S.Readable.shown s c.requires.holds c.requires.here read.Failed t _ _ h (c.truncate-in-Failed.ensures.items ∙ kept)
    (λ q. h.reads.takes (read_tells g.S.Readable.shown s c.requires.holds c.requires.here read.Failed t _ _ h q))

pub returns-in-Failed-clause-kept : goal.returns-in-Failed-clause-kept
returns-in-Failed-clause-kept g c =
    let s = c.args.self.now in
    read-kept g.S.Readable.shown s c.requires.holds c.requires.here read.Failed (record s { sources = c.read_behind.new.sources }) _ _ c.in-Failed.ensures.reads

pub returns-in-Failed-clause-reads : goal.returns-in-Failed-clause-reads
returns-in-Failed-clause-reads g c =
    let s = c.args.self.now in
    let h = c.in-Failed.ensures.reads in
    (refl, subst (OneRose g.S.Readable.shown s.sources.list) (sym h.is) (rose-slice_set g.S.Readable.shown s.sources.list s.at h.old h.new h.was h.reads.failed))

pub returns-in-Failed-clause-faults : goal.returns-in-Failed-clause-faults
returns-in-Failed-clause-faults g c =
    let s = c.args.self.now in
    let h = c.in-Failed.ensures.reads in
    rose-count g.S.Readable.shown s.sources.list c.read_behind.new.sources.list
    (read-kept g.S.Readable.shown s c.requires.holds c.requires.here read.Failed (record s { sources = c.read_behind.new.sources }) _ _ h)
    (subst (OneRose g.S.Readable.shown s.sources.list) (sym h.is) (rose-slice_set g.S.Readable.shown s.sources.list s.at h.old h.new h.was h.reads.failed))

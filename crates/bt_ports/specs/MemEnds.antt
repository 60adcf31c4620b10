use Rattle.bt_ports.specs.declared.parts.Ends.{Ends}
use Rattle.bt_ports.specs.declared.memory.source.MemSource.{MemSource}
use Rattle.bt_ports.specs.declared.memory.sink.MemSink.{MemSink}
use Rattle.bt_ports.specs.declared.memory.answerer.MemAnswerer.{MemAnswerer}
use Rattle.bt_ports.specs.declared.memory.clock.MemClock.{MemClock}

-- the ends of a run in memory
abbrev pub MemEnds : Type 0
MemEnds = Ends MemSource MemSink MemAnswerer MemClock

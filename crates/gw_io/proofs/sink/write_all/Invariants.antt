use Rattle.std.proofs.Common.{length, ◌-◌, ◌≡◌, ◌≤◌, take}
use Rattle.gw_io.proofs.sink.write_all.Given as goal

abbrev pub invariant-loop-written : goal.invariant-loop-written
invariant-loop-written g l = record {
  within : l.written ≤ length l.bytes;
  wrote : g.K.Sink.wrote l.initial.sink (take l.written l.bytes) l.sink;
  uncounted : g.K.Sink.failures l.sink ≡ g.K.Sink.failures l.initial.sink;
}

abbrev pub decreases-loop-written : goal.decreases-loop-written
decreases-loop-written g l = length l.bytes - l.written

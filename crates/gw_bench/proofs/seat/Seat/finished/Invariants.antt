use mathlib.Core.List.{IsPrefix}
use Rattle.gw_bench.proofs.seat.Seat.finished.Given as goal

abbrev pub invariant-legs : goal.invariant-legs
invariant-legs g l = IsPrefix l.initial.self.pass l.self.pass

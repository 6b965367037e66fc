use Rattle.std.proofs.Common.{◌≡◌, take}
use Rattle.gw_streams.specs.Draws.{all_set}
use Rattle.gw_streams.proofs.streams.Streams.set_all.Given as goal

abbrev pub invariant-loop-i : goal.invariant-loop-i
invariant-loop-i l = l.self ≡ all_set l.initial.self (take l.i l.values)

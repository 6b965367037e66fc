use Rattle.std.proofs.Common.{◌≡◌, replicate, None}
use Rattle.gw_desk.proofs.play.no_legs.Given as goal

abbrev pub invariant-loop : goal.invariant-loop
invariant-loop l = l.legs.items ≡ replicate l.counter None

use Rattle.std.proofs.Common.{◌≡◌, length}
use Rattle.gw_model.specs.Faults.{has_number_twice}
use Rattle.gw_model.proofs.replications.has_number_twice.Given as goal

abbrev pub invariant-loop-rest : goal.invariant-loop-rest
invariant-loop-rest l = has_number_twice l.rest ≡ has_number_twice l.fn.replications

abbrev pub decreases-loop-rest : goal.decreases-loop-rest
decreases-loop-rest l = length l.rest

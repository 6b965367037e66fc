use Rattle.std.proofs.Common.{refl}
use Rattle.gw_chains.proofs.Beside.{none_kept}
use Rattle.gw_chains.proofs.delays.DelayChains.new.Goals as goal

pub invariant_of-result : goal.invariant_of-result
invariant_of-result c = rw (c.new.ensures, c.new-2.ensures.items) (none_kept _ _ refl refl)

use Rattle.std.specs.List.{IsDistinct}
use Rattle.gw_entities.proofs.own_list.OwnList.new.Goals as goal

pub invariant_of-result : goal.invariant_of-result
unfolding IsDistinct
invariant_of-result g c = rw (c.new.ensures, c.new-2.ensures) (tt, tt, tt)

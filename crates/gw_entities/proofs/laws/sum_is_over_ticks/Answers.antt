use Rattle.gw_entities.proofs.Ticks.{sum_is_over_ticks}
use Rattle.gw_entities.proofs.laws.sum_is_over_ticks.Goals as goal

pub returns : goal.returns
returns c = sum_is_over_ticks

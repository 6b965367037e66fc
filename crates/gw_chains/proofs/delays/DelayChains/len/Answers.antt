use Rattle.std.proofs.Common.{length, ap, ◌∙◌}
use Rattle.gw_chains.proofs.delays.DelayChains.len.Goals as goal

pub returns-in-Some : goal.returns-in-Some
returns-in-Some c = c.len.ensures.len ∙ ap length c.in-Some.ensures

pub returns-in-None : goal.returns-in-None
returns-in-None c = ap length c.in-None.ensures

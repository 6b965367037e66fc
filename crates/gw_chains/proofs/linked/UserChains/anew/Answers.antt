use Rattle.gw_chains.proofs.LinkedLaws.{anew_linked}
use Rattle.gw_chains.proofs.linked.UserChains.anew.Goals as goal

pub invariant_of-result : goal.invariant_of-result
invariant_of-result c =
    rw c.in_ok-keys.ensures
    (anew_linked c.self.inside.keys.keys c.self.inside.chains c.in_ok-all_anew.field-0 c.self.inside.count c.self.invariant c.in_ok-all_anew.ensures).1

pub returns : goal.returns
returns c =
    rw (← c.self.view_is, c.in_ok-keys.ensures)
    (anew_linked c.self.inside.keys.keys c.self.inside.chains c.in_ok-all_anew.field-0 c.self.inside.count c.self.invariant c.in_ok-all_anew.ensures).0

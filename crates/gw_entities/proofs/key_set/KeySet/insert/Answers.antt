use Rattle.gw_entities.proofs.Settling.{stays, come}
use Rattle.gw_entities.proofs.key_set.KeySet.insert.Goals as goal

pub invariant_of-self : goal.invariant_of-self
invariant_of-self c =
    come c.self.inside.settled.keys c.self.inside.recent.keys c.insert.new.self.keys c.args.key c.self.inside.recent.room
    (rw (← c.self.view_is) at c.requires) c.self.invariant.0 c.in-None.ensures.none c.insert.ensures.keys

pub returns-in-Some-clause-keys : goal.returns-in-Some-clause-keys
returns-in-Some-clause-keys c =
    rw (← c.self.view_is)
    (stays c.self.inside.settled.keys c.self.inside.recent.keys c.in-Some.field-0 c.args.key c.in-Some.ensures.there)

pub returns-in-None-clause-distinct : goal.returns-in-None-clause-distinct
returns-in-None-clause-distinct c = (invariant_of-self c).0

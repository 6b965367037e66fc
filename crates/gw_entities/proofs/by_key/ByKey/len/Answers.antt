use Rattle.std.proofs.Common.{◌∙◌}
use Rattle.gw_entities.proofs.Beside.{long_beside, apart_beside}
use Rattle.gw_entities.proofs.by_key.ByKey.len.Goals as goal

pub returns-clause-len : goal.returns-clause-len
returns-clause-len g c =
    let (long, apart) = c.self.invariant in
    rw (← c.self.view_is) (c.len.ensures.len ∙ long_beside c.self.inside.keys.keys c.self.inside.values.items long)

pub returns-clause-distinct : goal.returns-clause-distinct
returns-clause-distinct g c =
    let (long, apart) = c.self.invariant in
    rw (← c.self.view_is) (apart_beside c.self.inside.keys.keys c.self.inside.values.items long apart)

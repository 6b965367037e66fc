use Rattle.std.proofs.Common.{◌≡◌, length, ◌∙◌, rules}
use Rattle.gw_entities.proofs.Beside.{long_beside, apart_beside}
use Rattle.gw_entities.proofs.tables.Tables.len.Goals as goal

pub returns-clause-len : goal.returns-clause-len
returns-clause-len c =
    let (long, apart) = c.self.invariant in
    let len : c.len.result ≡ length c.self.inside.values.items = search rules in
    rw (← c.self.view_is) (len ∙ long_beside c.self.inside.keys.keys c.self.inside.values.items long)

pub returns-clause-distinct : goal.returns-clause-distinct
returns-clause-distinct c =
    let (long, apart) = c.self.invariant in
    rw (← c.self.view_is) (apart_beside c.self.inside.keys.keys c.self.inside.values.items long apart)

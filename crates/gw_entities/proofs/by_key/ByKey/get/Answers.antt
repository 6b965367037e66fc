use Rattle.std.proofs.Common.{sym, ◌∙◌, ◌≡◌, None, rules}
use Rattle.gw_entities.proofs.Beside.{found_beside, none_beside}
use Rattle.gw_entities.proofs.by_key.ByKey.get.Goals as goal

pub returns-in_err-index : goal.returns-in_err-index
returns-in_err-index g c =
    let (long, apart) = c.self.invariant in
    let none : c.from_residual.result ≡ None = search rules in
    rw (← c.self.view_is)
    (none ∙ sym (none_beside c.self.inside.keys.keys c.self.inside.values.items c.args.key.now long c.in_err-index.ensures.none))

pub returns : goal.returns
returns g c =
    let (long, apart) = c.self.invariant in
    rw (← c.self.view_is)
    (sym (found_beside c.self.inside.keys.keys c.self.inside.values.items c.in_ok-index.index c.args.key.now c.at.result.now long apart
    c.in_ok-index.ensures.there c.at.ensures))

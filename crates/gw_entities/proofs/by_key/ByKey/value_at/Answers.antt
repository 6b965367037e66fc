use Rattle.std.proofs.Common.{Some, sym, ap, ◌∙◌}
use Rattle.std.specs.Prelude.{unwrap_or}
use Rattle.gw_entities.proofs.Keyed.{within_beside, chain_at}
use Rattle.gw_entities.proofs.Lookups.{Some_same}
use Rattle.gw_entities.proofs.by_key.ByKey.value_at.Goals as goal

pub at-requires : goal.at-requires
at-requires g c =
    let there = rw (← c.self.view_is, c.in-Some.is) at c.requires.1 in
    within_beside c.self.inside.keys.keys c.self.inside.values.items c.in-Some.index g.key there

pub returns-in-Some : goal.returns-in-Some
returns-in-Some g c =
    let ks = c.self.inside.keys.keys in
    let vs = c.self.inside.values.items in
    let there = rw (← c.self.view_is, c.in-Some.is) at c.requires.1 in
    let same = Some_same (sym (chain_at ks vs c.in-Some.index g.key there.0 there.1) ∙ c.at.ensures) in
    rw (← c.self.view_is) (sym (ap (λ o. unwrap_or o c.args.other) (there.2 ∙ ap (λ v. Some v) same)))

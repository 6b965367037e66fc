use Rattle.std.proofs.Common.{◌≡◌, map, None, sym, ◌∙◌, rules}
use Rattle.gw_entities.specs.Owned.{entry_of}
use Rattle.gw_entities.proofs.ItemLaws.{none_known, entry_there}
use Rattle.gw_entities.proofs.OwnLaws.{stands_value}
use Rattle.gw_entities.proofs.own_list.OwnList.get.Goals as goal

pub returns-in_err-key : goal.returns-in_err-key
returns-in_err-key g c =
    let none : c.from_residual.result ≡ None = search rules in
    rw (← c.self.view_is)
    (none ∙ sym (none_known c.self.inside.keys.keys c.self.inside.items.items c.args.number c.args.key.now c.self.invariant.1 c.in_err-key.ensures.none))

pub returns-in-Ok : goal.returns-in-Ok
returns-in-Ok g c =
    let ks = c.self.inside.keys.keys in
    let is = c.self.inside.items.items in
    let key = c.args.key.now in
    let i = c.in-Ok.index in
    let item = c.at.result.now in
    let stands = rw (← c.self.view_is) at c.in-Ok.ensures.stands in
    rw (← c.self.view_is)
    (sym (stands_value c.args.number key (map (entry_of ks) is) i (entry_of ks item) (stands key c.in_ok-key.ensures.there)
    (entry_there ks is i item c.at.ensures)))

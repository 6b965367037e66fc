use Rattle.gw_entities.proofs.ItemLaws.{keys_added}
use Rattle.gw_entities.proofs.own_list.OwnList.reserve.Goals as goal

pub invariant_of-self-2 : goal.invariant_of-self-2
invariant_of-self-2 g c =
    (keys_added c.self.inside.keys.keys c.add.new.self.keys c.args.key.now c.self.inside.items.items c.reserve.new.self.items c.self.invariant
    c.in_ok-place.ensures.keys c.in_ok-reserve.ensures.items).0

pub returns-clause-entries : goal.returns-clause-entries
returns-clause-entries g c =
    rw (← c.self.view_is)
    (keys_added c.self.inside.keys.keys c.add.new.self.keys c.args.key.now c.self.inside.items.items c.reserve.new.self.items c.self.invariant
    c.in_ok-place.ensures.keys c.in_ok-reserve.ensures.items).1

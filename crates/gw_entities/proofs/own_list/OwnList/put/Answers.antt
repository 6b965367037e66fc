use Rattle.gw_entities.proofs.ItemLaws.{some_key, set_own, insert_own}
use Rattle.gw_entities.proofs.own_list.OwnList.put.Goals as goal

pub invariant_of-self : goal.invariant_of-self
invariant_of-self g c =
    let within = rw (← c.self.view_is) at c.requires.key in
    let (k, at) = some_key c.self.inside.keys.keys c.args.key within in
    let stands = rw (← c.self.view_is) at c.in-Ok.ensures.stands in
    (set_own c.self.inside.keys.keys c.self.inside.items.items c.set.new.self.items c.in-Ok.index c.args.number c.args.key k c.args.value
    c.self.invariant (stands k at) at within c.set.ensures.items).0

pub invariant_of-self-in-Err : goal.invariant_of-self-in-Err
invariant_of-self-in-Err g c =
    let within = rw (← c.self.view_is) at c.requires.key in
    let (k, at) = some_key c.self.inside.keys.keys c.args.key within in
    let ends = rw (← c.self.view_is) at c.in-Err.ensures.ends in
    (insert_own c.self.inside.keys.keys c.self.inside.items.items c.insert.new.self.items c.in-Err.index c.args.number c.args.key k c.args.value
    c.self.invariant (ends k at) at within c.insert.ensures.items).0

pub returns-in-Ok-clause-entries : goal.returns-in-Ok-clause-entries
returns-in-Ok-clause-entries g c =
    let within = rw (← c.self.view_is) at c.requires.key in
    let stands = rw (← c.self.view_is) at c.in-Ok.ensures.stands in
    rw (← c.self.view_is) (λ k at.
    (set_own c.self.inside.keys.keys c.self.inside.items.items c.set.new.self.items c.in-Ok.index c.args.number c.args.key k c.args.value
    c.self.invariant (stands k at) at within c.set.ensures.items).1)

pub returns-in-Err-clause-entries : goal.returns-in-Err-clause-entries
returns-in-Err-clause-entries g c =
    let within = rw (← c.self.view_is) at c.requires.key in
    let ends = rw (← c.self.view_is) at c.in-Err.ensures.ends in
    rw (← c.self.view_is) (λ k at.
    (insert_own c.self.inside.keys.keys c.self.inside.items.items c.insert.new.self.items c.in-Err.index c.args.number c.args.key k c.args.value
    c.self.invariant (ends k at) at within c.insert.ensures.items).1)

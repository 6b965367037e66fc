use Rattle.std.proofs.Common.{rules, ◌≡◌, ◌-◌, None, replicate}
use Rattle.gw_model.specs.ByName.{slot_of}
use Rattle.gw_model.proofs.Slots.{none_there}
use Rattle.gw_model.proofs.by_name.ByName.empty.Goals as goal

pub returns : goal.returns
returns g c name =
    let items : c.in_ok-empty_slots.field-0.items ≡ replicate c.args.count None = search rules in
    rw (items, none_there {X = g.row.T.Denot} c.args.count (slot_of name (c.args.count - 1)) name) (search rules)

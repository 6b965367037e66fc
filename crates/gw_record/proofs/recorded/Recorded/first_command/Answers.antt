use Rattle.gw_meaning.specs.declared.item.Item.TheVariants as items
use Rattle.gw_uses.proofs.FirstLaws.{first_command}
use Rattle.gw_record.proofs.recorded.Recorded.first_command.Goals as goal

pub returns : goal.returns
returns c = λ t seed h.
    let kept = rw (← c.self.view_is) at h in
    let least = rw c.firsts.ensures at c.least_from.ensures in
    rw (← c.self.view_is) (first_command c.args.i c.self.inside.moment t seed _ _ least (λ k. kept.firsts.each (items.Cmd k)))

use Rattle.std.proofs.Common.{rules}
use Rattle.gw_uses.specs.Asks.{is_ask}
use Rattle.gw_uses.proofs.AskLaws.{least_step}
use Rattle.gw_uses.proofs.item_steps.ItemSteps.first_ask.Goals as goal

pub loop-i-preserved : goal.loop-i-preserved
loop-i-preserved c =
    let p = is_ask c.args.name.now c.args.from c.args.to in
    let done = rw (← c.self.view_is) at c.loop-i.invariant in
    let step = least_step p c.self.inside.steps.entries c.loop-i.i _ _ c.in-Some.ensures.entry in
    rw (← c.self.view_is) (search (rules, done, step))

use Rattle.gw_meaning.specs.declared.item.Item.TheVariants as items
use Rattle.gw_meaning.specs.Step.{first_arrival}
use Rattle.gw_asking.proofs.Binding.{decides_asked}
use Rattle.gw_values.proofs.arriving.prime.Goals as goal

pub returns : goal.returns
returns c =
    let run = c.args.context.run in
    decides_asked run.version.now run.seed (items.Block c.args.id) (first_arrival c.args.context.state.now c.args.context.asker.now c.args.id) _ _ _ _ c.in_ok-block.ensures.ok
    (rw (← c.in_ok-block.ensures.answer) c.first_arrival.ensures)

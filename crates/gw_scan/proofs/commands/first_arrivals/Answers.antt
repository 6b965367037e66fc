use Rattle.std.proofs.Common.{[]}
use Rattle.gw_meaning.specs.declared.item.Item.TheVariants as items
use Rattle.gw_meaning.specs.Step.{for_none, arrivals_prog}
use Rattle.gw_asking.proofs.Binding.{decides_asked}
use Rattle.gw_scan.proofs.commands.first_arrivals.Goals as goal

pub returns : goal.returns
returns c =
    let run = c.args.run in
    decides_asked run.version.now run.seed items.Generates (λ ids. arrivals_prog c.args.state.now (for_none c.args.count) ids []) _ _ _ _
    c.in_ok-ids.ensures.ok
    (rw (← c.in_ok-ids.ensures.answer, ← c.for_none.ensures) c.arrivals.ensures)

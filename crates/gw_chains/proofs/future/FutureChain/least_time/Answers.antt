use Rattle.std.proofs.Common.{ap, ◌∙◌}
use Rattle.gw_meaning.specs.Step.{least_time}
use Rattle.gw_chains.specs.Blocks.{all_items, time_of}
use Rattle.gw_chains.proofs.Leasts.{time_made, least_both}
use Rattle.gw_chains.proofs.future.FutureChain.least_time.Goals as goal

pub returns : goal.returns
returns c =
    let s = c.self.inside in
    time_made c.new.result c.min.result c.new.ensures.in_range c.new.ensures.value
    ∙ (ap time_of c.min.ensures
    ∙ (least_both s.least c.least.result (all_items s.full.items) s.last.items c.self.invariant.2 c.least.ensures
    ∙ ap (λ v. least_time v.items) c.self.view_is))

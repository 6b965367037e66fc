use Rattle.std.proofs.Common.{◌∙◌, ap}
use Rattle.gw_uses.specs.Steps.{first_beyond}
use Rattle.gw_uses.proofs.ClockLaws.{first_beyond_taken, below_taken}
use Rattle.gw_uses.proofs.clock_steps.ClockSteps.forget.Goals as goal

pub returns-clause-value : goal.returns-clause-value
returns-clause-value c =
    let point = c.count_below-count.ensures in
    rw (← c.self.view_is) (λ t.
    ap (λ xs. first_beyond t xs) c.truncate.ensures ∙ first_beyond_taken t c.args.from c.self.inside.steps _ point.0 point.1)

pub returns-clause-below : goal.returns-clause-below
returns-clause-below c =
    rw c.truncate.ensures (below_taken c.args.from c.self.inside.steps c.count_below-count.result c.count_below-count.ensures.0)

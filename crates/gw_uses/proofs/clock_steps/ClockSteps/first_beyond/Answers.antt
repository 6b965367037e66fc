use Rattle.std.proofs.Common.{sym, ◌∙◌}
use Rattle.gw_uses.proofs.ClockLaws.{first_beyond_at}
use Rattle.gw_uses.proofs.clock_steps.ClockSteps.first_beyond.Goals as goal

pub returns : goal.returns
returns c =
    let until = c.count_until.ensures in
    rw (← c.self.view_is) (c.step_of.ensures ∙ sym (first_beyond_at c.args.time c.self.inside.steps _ until.0 until.1))

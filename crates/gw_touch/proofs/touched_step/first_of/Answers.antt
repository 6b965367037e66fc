use Rattle.std.proofs.Common.{◌∙◌}
use Rattle.gw_touch.proofs.TouchLaws.{touched_none, touched_one}
use Rattle.gw_touch.proofs.touched_step.first_of.Goals as goal

pub returns-in-None : goal.returns-in-None
returns-in-None c = rw c.in-None.is (λ t seed h. touched_none t seed c.args.run.now.moment)

pub returns-in-Some : goal.returns-in-Some
returns-in-Some c = rw c.in-Some.is (λ t seed h. c.first_probed.ensures t seed h ∙ touched_one c.in-Some.probe t seed c.args.run.now.moment)

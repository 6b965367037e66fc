use Rattle.gw_touch.specs.Touching.{given}
use Rattle.gw_touch.proofs.TouchLaws.{joined}
use Rattle.gw_touch.proofs.touched_step.first_in_all.Goals as goal

pub returns : goal.returns
returns c =
    rw (← c.touch.view_is) (λ t seed h.
    joined (given c.touch.inside.first) (given c.touch.inside.rest)
    t seed c.args.run.now.moment c.first_of_probes.result c.first_of_probes-2.result c.earlier.result c.earlier.ensures
    (c.first_of_probes.ensures t seed h) (c.first_of_probes-2.ensures t seed h))

use Rattle.std.proofs.Common.{List, ◌++◌, ap, ◌∙◌}
use Rattle.gw_touch.specs.declared.touch.Probe.{Probe}
use Rattle.gw_touch.specs.Touching.{given, seed_probes}
use Rattle.gw_touch.specs.Touched.{touched_step}
use Rattle.gw_touch.proofs.TouchLaws.{joined}
use Rattle.gw_touch.proofs.touched_step.touched.Goals as goal

pub returns : goal.returns
returns c =
    let all = rw (← c.touch.view_is) at c.first_in_all.ensures in
    rw (← c.touch.view_is) (λ t seed h.
    joined (seed_probes c.touch.inside.reseeded c.args.replication) (given c.touch.inside.first ++ given c.touch.inside.rest)
    t seed c.args.run.now.moment c.first_of.result c.first_in_all.result c.earlier.result c.earlier.ensures
    (c.first_of.ensures t seed h ∙ ap (λ (ps : List Probe). touched_step ps t seed c.args.run.now) c.seed_probe.ensures) (all t seed h))

use Rattle.std.proofs.Common.{◌∷◌, [], take}
use Rattle.gw_touch.specs.Touching.{given}
use Rattle.gw_touch.proofs.TouchLaws.{touched_none, joined, one_more}
use Rattle.gw_touch.proofs.touched_step.first_of_probes.Goals as goal

pub loop-probe-init : goal.loop-probe-init
loop-probe-init c = λ t seed h. touched_none t seed c.args.run.now.moment

pub loop-probe-preserved : goal.loop-probe-preserved
loop-probe-preserved c =
    let ps = c.args.probes.now in
    let k = c.loop-probe.probe-index in
    let x = c.probe-item.result in
    rw (one_more ps k x c.loop-probe-test.true c.probe-item.is) (λ t seed h.
    joined (given (take k ps)) (given (x ∷ [])) t seed c.args.run.now.moment c.loop-probe.first c.first_of.result c.earlier-first.result c.earlier-first.ensures
    (c.loop-probe.invariant t seed h) (c.first_of.ensures t seed h))

use Rattle.std.proofs.Common.{refl, subst}
use Rattle.gw_touch.specs.Touching.{Touching, touched_in}
use Rattle.gw_touch.specs.Touched.{touched_step, IsBefore}
use Rattle.gw_desk.specs.Fates.{Dies}
use Rattle.gw_desk.proofs.survive.pass.Goals as goal

pub returns-then-not-rebase : goal.returns-then-not-rebase
returns-then-not-rebase c = λ seed with_seed h.
    let t = c.args.version.now in
    let r = c.args.run.now in
    let before = c.if-not-rebase.ensures.before refl t seed h in
    let is = c.in_ok-touch.ensures in
    (c.in-Ok.new, Dies.touched seed c.in-Ok.ensures with_seed (subst (λ (x : Touching). IsBefore r.start (touched_step (touched_in x c.args.rep) t seed r)) is before))

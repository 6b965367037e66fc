use Rattle.std.proofs.Common.{◌≡◌, ◌-◌, subst, arith}
use Rattle.gw_desk.specs.Legs.{Works}
use Rattle.gw_desk.specs.Workers.{WorksAt}
use Rattle.gw_desk.proofs.play.work_at.Goals as goal

pub returns-in_default : goal.returns-in_default
returns-in_default c = rw c.in_default.is WorksAt.idle

pub returns-in-Ok : goal.returns-in-Ok
returns-in-Ok c =
    let own = c.in-Some.own in
    let new = c.work.new.self in
    let more = c.in-Ok.ensures.done.moment in
    let made : new.run.moment - own.run.moment ≡ c.in-Ok.made = omega (arith, more) in
    rw c.in-Some.is (WorksAt.worked c.in-Ok.made own new (subst (λ n. Works c.args.steps n own new) made c.work.ensures.works))

pub returns-in-Err : goal.returns-in-Err
returns-in-Err c = rw (c.in-Some.is, c.end.ensures, c.end-before.ensures) (WorksAt.worked _ c.in-Some.own c.work.new.self c.work.ensures.works)

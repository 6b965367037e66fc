use Rattle.std.proofs.Common.{Bool, true, subst}
use Rattle.gw_desk.specs.Legs.{Leg}
use Rattle.gw_desk.specs.Fates.{IsDead}
use Rattle.gw_desk.specs.Surviving.{Survives}
use Rattle.gw_desk.proofs.leg.Leg.left_after.Goals as goal

pub returns-in-Ok-true : goal.returns-in-Ok-true
returns-in-Ok-true c =
    let told = subst (λ (b : Bool). Survives c.self.inside.version c.args.later.now c.self.inside.replication c.self.inside.run c.survives.new.version c.survives.new.run b)
    c.in-Ok-true.field-0-test c.in-Ok-true.ensures in (
      c.survives.new.version,
      subst (λ (l : Leg). Survives l.version c.args.later.now l.replication l.run c.survives.new.version c.survives.new.run true) c.self.view_is told,
    )

pub returns-in-Ok-false : goal.returns-in-Ok-false
returns-in-Ok-false c =
    let told = subst (λ (b : Bool). Survives c.self.inside.version c.args.later.now c.self.inside.replication c.self.inside.run c.survives.new.version c.survives.new.run b)
    c.in-Ok-false.field-0-test c.in-Ok-false.ensures in
    let dead = told c.self.inside.seed c.self.invariant.with_seed c.self.invariant.records in
    subst (λ (l : Leg). IsDead l.version c.args.later.now l.replication l.run) c.self.view_is dead

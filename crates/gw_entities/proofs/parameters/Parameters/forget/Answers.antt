use Rattle.std.proofs.Common.{ap, sym, subst, ◌∙◌}
use Rattle.gw_entities.specs.Owned.{AreRising}
use Rattle.gw_entities.specs.Keeping.{grouped}
use Rattle.gw_entities.proofs.OwnLaws.{rising_without}
use Rattle.gw_entities.proofs.ParameterLaws.{forgotten_is}
use Rattle.gw_entities.proofs.parameters.Parameters.forget.Goals as goal

pub invariant_of-self-2 : goal.invariant_of-self-2
invariant_of-self-2 c =
    let es = c.self.inside.own.entries in
    subst AreRising (sym c.in_ok-forget.ensures.ok) (rising_without c.args.number es c.self.invariant)

pub returns-clause-ok : goal.returns-clause-ok
returns-clause-ok c =
    rw (← c.self.view_is) (ap grouped c.in_ok-forget.ensures.ok ∙ forgotten_is c.self.inside.own.entries c.args.number c.self.invariant)

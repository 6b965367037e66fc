use Rattle.std.proofs.Common.{◌∙◌}
use Rattle.gw_entities.proofs.ParameterLaws.{parameter_is}
use Rattle.gw_entities.proofs.parameters.Parameters.get.Goals as goal

pub returns : goal.returns
returns c = rw (← c.self.view_is) (c.get.ensures ∙ parameter_is c.self.inside.own.entries c.args.number c.args.key.now c.self.invariant)

use Rattle.gw_laws.proofs.VerbLaws.{each_verb_is_evaluated}
use Rattle.gw_laws.proofs.laws.each_verb_is_evaluated.Goals as goal

pub returns : goal.returns
returns c = each_verb_is_evaluated

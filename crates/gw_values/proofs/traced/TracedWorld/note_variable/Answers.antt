use Rattle.std.proofs.Common.{refl}
use Rattle.gw_values.proofs.traced.TracedWorld.note_variable.Goals as goal

pub returns : goal.returns
returns c = λ reply. let (marked, still) = c.note_variable.ensures reply in ((marked, refl), (still, refl))

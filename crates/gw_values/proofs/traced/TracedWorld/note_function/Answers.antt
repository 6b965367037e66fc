use Rattle.std.proofs.Common.{refl}
use Rattle.gw_values.proofs.traced.TracedWorld.note_function.Goals as goal

pub returns : goal.returns
returns c = λ reply. let (marked, still) = c.note_function.ensures reply in ((marked, refl), (still, refl))

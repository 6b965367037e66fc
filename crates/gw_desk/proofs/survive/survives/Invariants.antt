use Rattle.std.proofs.Common.{take}
use Rattle.gw_desk.specs.Fates.{Lives}
use Rattle.gw_desk.proofs.survive.survives.Given as goal

abbrev pub invariant-loop-edit : goal.invariant-loop-edit
invariant-loop-edit l = Lives l.initial.version (take l.edit-index l.later) l.rep l.initial.run l.version l.run

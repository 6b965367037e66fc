use Rattle.std.proofs.Common.{sym}
use Rattle.gw_state.specs.States.{machine_of}
use Rattle.gw_state.proofs.Quiet.{nobody_wakes}
use Rattle.gw_state.proofs.parts.Parts.wake.Goals as goal

pub returns-in_default : goal.returns-in_default
returns-in_default c = rw (← c.written.view_is, c.in_default.is) (sym (nobody_wakes (machine_of c.args.self.now)))

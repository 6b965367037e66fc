use Rattle.std.proofs.Common.{◌≡◌, drop}
use Rattle.gw_desk.specs.Book.{run_in}
use Rattle.gw_desk.proofs.recording.run_of.Given as goal

abbrev pub invariant-loop-recording : goal.invariant-loop-recording
invariant-loop-recording l = run_in (drop l.recording-index l.runs) l.number ≡ run_in l.runs l.number

use Rattle.gw_frame.proofs.PlacedStates.{run_names, reads_names}
use Rattle.gw_frame.proofs.laws.ids_are_blocks.Goals as goal

pub returns : goal.returns
returns c = record { states = run_names; steps = reads_names }

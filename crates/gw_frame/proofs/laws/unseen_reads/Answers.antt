use Rattle.gw_frame.proofs.ReadLaws.{run_asks_its_reads, unseen_step_reads, unseen_reads}
use Rattle.gw_frame.proofs.laws.unseen_reads.Goals as goal

pub returns : goal.returns
returns c = record { asked = run_asks_its_reads; step = unseen_step_reads; run = unseen_reads }

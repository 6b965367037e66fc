use Rattle.gw_frame.proofs.Renumbering.{has_renaming}
use Rattle.gw_frame.proofs.Renaming.{renamed_answers}
use Rattle.gw_frame.proofs.RenamedRuns.{renamed_step, renamed_run}
use Rattle.gw_frame.proofs.laws.renamed.Goals as goal

pub returns : goal.returns
returns c = record { found = has_renaming; answers = renamed_answers; step = renamed_step; run = renamed_run }

use Rattle.gw_laws.proofs.AnewLaws.{clear_begins_anew, reset_moves_nobody, reset_counts_anew}
use Rattle.gw_laws.proofs.laws.runs_begin_anew.Goals as goal

pub returns : goal.returns
returns c = record { cleared = clear_begins_anew; stays = reset_moves_nobody; counts = reset_counts_anew }

use Rattle.gw_lines.proofs.Whole.{models_are_read, models_are_refused}
use Rattle.gw_lines.proofs.laws.models_are_read.Goals as goal

pub returns : goal.returns
returns c = record { read = models_are_read; refused = models_are_refused }

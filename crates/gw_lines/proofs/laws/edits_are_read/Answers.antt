use Rattle.gw_lines.proofs.Edits.{edits_are_read, edits_are_refused}
use Rattle.gw_lines.proofs.laws.edits_are_read.Goals as goal

pub returns : goal.returns
returns c = record { read = edits_are_read; refused = edits_are_refused }

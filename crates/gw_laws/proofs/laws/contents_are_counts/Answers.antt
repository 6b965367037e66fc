use Rattle.gw_laws.proofs.ContentLaws.{contents_are_counts}
use Rattle.gw_laws.proofs.laws.contents_are_counts.Goals as goal

pub returns : goal.returns
returns c = contents_are_counts

use Rattle.gw_report.proofs.Renaming.{renamed_text}
use Rattle.gw_report.proofs.laws.renamed_text.Goals as goal

pub returns : goal.returns
returns c = renamed_text

use Rattle.gw_desk.proofs.HeadlineLaws.{reports_are_right, reports_are_of_printed}
use Rattle.gw_desk.proofs.laws.reports_are_right.Goals as goal

pub returns : goal.returns
returns c = record { anew = reports_are_right; printed = reports_are_of_printed }

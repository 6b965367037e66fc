use Rattle.gw_report.proofs.Counting.{counts_each_once, lies_as_printed}
use Rattle.gw_report.proofs.laws.classes_hold.Goals as goal

pub returns-clause-once : goal.returns-clause-once
returns-clause-once c = counts_each_once

pub returns-clause-printed : goal.returns-clause-printed
returns-clause-printed c = lies_as_printed

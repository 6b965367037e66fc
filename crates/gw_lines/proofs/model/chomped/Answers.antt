use Rattle.std.proofs.Common.{◌∙◌}
use Rattle.gw_lines.proofs.Models.{chomped_end, whole_end}
use Rattle.gw_lines.proofs.model.chomped.Goals as goal

pub returns-in-Some : goal.returns-in-Some
returns-in-Some c = let h = c.in-Some.ensures.cases in h.1 ∙ chomped_end c.args.line.now h.0

pub returns-in-None : goal.returns-in-None
returns-in-None c = whole_end c.args.line.now c.in-None.ensures.cases

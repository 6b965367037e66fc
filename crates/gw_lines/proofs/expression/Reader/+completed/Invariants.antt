use Rattle.std.proofs.Common.{length}
use Rattle.gw_lines.proofs.expression.Reader.+completed.Given as goal

abbrev pub decreases-completed : goal.decreases-completed
decreases-completed l = length l.self.pending

use Rattle.std.proofs.Common.{◌≡◌, take}
use Rattle.gw_meaning.proofs.statement.Block.copy.Given as goal

abbrev pub invariant-loop-operand : goal.invariant-loop-operand
invariant-loop-operand l = l.operands.items ≡ take l.operand-index l.self.operands

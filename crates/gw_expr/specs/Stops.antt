-- The numbers of the stops. (Our own.)
use Rattle.std.specs.Prelude.{ℕ}
use Rattle.gw_expr.specs.declared.stop.Stop.{Stop}
use Rattle.gw_expr.specs.declared.stop.Stop.TheVariants.{NegativeTime, NotOwner, LeaveTooMany, DepartTooMany, NoParameter, ZeroDivisor, Range, NoNextBlock, TooManyTransactions, VariableDepth, BadCount, TooManyUnits}

-- the number that a report prints after an X
abbrev pub number_of : Stop → ℕ
number_of NegativeTime = 1
number_of NotOwner = 2
number_of LeaveTooMany = 3
number_of DepartTooMany = 4
number_of NoParameter = 5
number_of ZeroDivisor = 6
number_of Range = 7
number_of NoNextBlock = 8
number_of TooManyTransactions = 9
number_of VariableDepth = 10
number_of BadCount = 11
number_of TooManyUnits = 12

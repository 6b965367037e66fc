-- The numbers of the faults of lines, and how they are written. (Our own.)
use Rattle.std.specs.Prelude.{ℕ, List, [], ◌++◌, Option, Some, None, codes, decimal}
use Rattle.gw_lines.specs.declared.fault.LineFault.{LineFault}
use Rattle.gw_lines.specs.declared.fault.LineFault.TheVariants.{TooLong, BadByte, UnknownVerb, BadLabel, BadOperand, MissingOperand, ExtraOperand, BadPairs, Memory}

-- the number that is printed after an L
abbrev pub number_of : LineFault → ℕ
number_of TooLong = 1
number_of BadByte = 2
number_of UnknownVerb = 3
number_of BadLabel = 4
number_of (BadOperand n) = 5
number_of (MissingOperand n) = 6
number_of (ExtraOperand n) = 7
number_of BadPairs = 8
number_of Memory = 9

-- the number of the operand at fault
abbrev pub operand_of : LineFault → Option ℕ
operand_of TooLong = None
operand_of BadByte = None
operand_of UnknownVerb = None
operand_of BadLabel = None
operand_of (BadOperand n) = Some n
operand_of (MissingOperand n) = Some n
operand_of (ExtraOperand n) = Some n
operand_of BadPairs = None
operand_of Memory = None

-- the operand at fault, where there is one
abbrev pub operand_part : Option ℕ → List ℕ
operand_part None = []
operand_part (Some n) = codes " " ++ decimal n

-- the fault as a refusal names it
abbrev pub code_of : LineFault → List ℕ
code_of fault = codes "L" ++ decimal (number_of fault) ++ operand_part (operand_of fault)

-- What the operators of an expression make of two values. (Manual; the range and the signs are our own.)
use Rattle.std.specs.Prelude.{ℤ, Result}
use Rattle.gw_nums.specs.declared.val.ArithmeticFault.{ArithmeticFault}
use Rattle.gw_nums.specs.Range.{sum_of, difference_of, product_of, quotient_of, remainder_of}
use Rattle.gw_expr.specs.declared.token.Operator.{Operator}
use Rattle.gw_expr.specs.declared.token.Operator.TheVariants as operators

abbrev pub applied : Operator → ℤ → ℤ → Result ℤ ArithmeticFault
applied operators.Times a b = product_of a b
applied operators.Quotient a b = quotient_of a b
applied operators.Remainder a b = remainder_of a b
applied operators.Plus a b = sum_of a b
applied operators.Minus a b = difference_of a b

-- The symbols of expressions, and which operators bind tighter. (Manual.)
use Rattle.std.specs.Prelude.{ℕ, ◌==◌, Option, Some, None, if◌then◌else◌}
use Rattle.gw_expr.specs.declared.symbol.Symbol.{Symbol}
use Rattle.gw_expr.specs.declared.symbol.Symbol.TheVariants as symbols
use Rattle.gw_expr.specs.declared.token.Operator.TheVariants as operators

-- the symbol that a byte is, where it is no part of a word
abbrev pub symbol_of : ℕ → Option Symbol
symbol_of b =
    if b == 40 then Some symbols.Opening
    else (if b == 41 then Some symbols.Closing
    else (if b == 43 then Some (symbols.Sum operators.Plus)
    else (if b == 45 then Some (symbols.Sum operators.Minus)
    else (if b == 35 then Some (symbols.Product operators.Times)
    else (if b == 92 then Some (symbols.Product operators.Quotient)
    else (if b == 64 then Some (symbols.Product operators.Remainder)
    else None))))))

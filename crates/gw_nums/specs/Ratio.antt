-- Quotients in thousandths. (Our own: where the divisor is 0.)
use Rattle.std.specs.Prelude.{ℕ, zero, suc, ◌*◌, ◌/◌}

-- a in thousandths of b, cut off towards zero; 0 for b = 0
abbrev pub thousandths_of : ℕ → ℕ → ℕ
thousandths_of a zero = 0
thousandths_of a (suc b) = (a * 1000) / suc b

-- Whole square roots. (Our own: cut off towards zero.)
use Rattle.std.specs.Prelude.{ℕ, zero, suc, ◌*◌, nat_le, if◌then◌else◌}

-- the greatest number, up to a bound, whose square is at most n
unfoldable pub root_up_to : ℕ → ℕ → ℕ
root_up_to n zero = 0
root_up_to n (suc w) = if nat_le (suc w * suc w) n then suc w else root_up_to n w

-- the greatest number whose square is at most n
unfoldable pub whole_root : ℕ → ℕ
whole_root n = root_up_to n n

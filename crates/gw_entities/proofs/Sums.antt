-- That a level's sum stays small: at most the greatest content times the clock.
use Rattle.std.proofs.Common.{ℕ, ◌+◌, ◌-◌, ◌*◌, ◌^◌, ◌≤◌, max, arith}
use Rattle.std.proofs.lemmas.Nat.{mul-le}

pub sum_within :
    (sum content at clock : ℕ) → content ≤ 2 ^ 64 - 1 → sum ≤ (2 ^ 64 - 1) * at →
    sum + content * (clock - at) ≤ (2 ^ 64 - 1) * max at clock
sum_within sum content at clock h s =
    let m = mul-le content (clock - at) (2 ^ 64 - 1) (clock - at) h (omega arith) in
    omega (arith, m, s)

-- Few digits make a number of few digits.
use Rattle.std.proofs.Common.{◌≡◌, ℕ, zero, suc, ◌+◌, ◌-◌, ◌^◌, ◌≤◌, subst, arith, add-zero, add-suc}
use Rattle.std.proofs.Math.Nat.{pow-suc}

-- the power with more zeros is no less
ten_pow_more : (i k : ℕ) → 10 ^ i ≤ 10 ^ (i + k)
ten_pow_more i zero = rw add-zero (omega arith)
ten_pow_more i (suc k) = rw (add-suc i k, pow-suc 10 (i + k)) (omega (arith, ten_pow_more i k))

-- the power of ten with at most 17 zeros
pub ten_pow_small : (i : ℕ) → i ≤ 17 → 10 ^ i ≤ 100000000000000000
ten_pow_small i h =
    let whole : i + (17 - i) ≡ 17 = omega arith in
    let P : ℕ → Type 0 = λ n. 10 ^ i ≤ 10 ^ n in
    let large : 10 ^ i ≤ 10 ^ 17 = subst P whole (ten_pow_more i (17 - i)) in
    large

-- The squares of values, and a division in two parts.
use Rattle.std.proofs.Common.{◌≡◌, ℕ, ℤ, zero, suc, inl, inr, ◌+◌, ◌-◌, ◌*◌, ◌/◌, ◌%◌, ◌<◌, ◌≤◌, ap, ◌∙◌, arith}
use Rattle.std.proofs.lemmas.Nat.{mul-le, div-add-mod'}
use Rattle.std.specs.Prelude.{nat_le}
use Rattle.std.proofs.lemmas.Bool.{cases_Bool}
use Rattle.std.proofs.lemmas.Bool.Decides.{nat_tests}
use Rattle.std.proofs.Math.Nat.{mul-add-div_right, mod-lt, div-le_self}
use Rattle.gw_nums.specs.Range.{magnitude}
use Rattle.gw_report.specs.Tables.{square, quotient}

pub square_within : (z : ℤ) → magnitude z ≤ 1000000000 → square z ≤ 1000000000000000000
square_within z le = mul-le (magnitude z) (magnitude z) 1000000000 1000000000 le le

-- 1,000,000 times a number, divided: what remains of the number is taken apart
pub in_parts : (a b : ℕ) → 0 < b → quotient (1000000 * a) b ≡ a / b * 1000000 + a % b * 1000000 / b
in_parts a zero more = absurd (omega arith)
in_parts a (suc b) more =
    let whole = div-add-mod' a (suc b) in
    let parts : 1000000 * a ≡ a / suc b * 1000000 * suc b + a % suc b * 1000000 = omega (arith, whole) in
    ap (λ (n : ℕ). n / suc b) parts ∙ mul-add-div_right (omega arith) (a / suc b * 1000000) (a % suc b * 1000000)

-- the deviation of values is not far beyond them
pub quotient_within : (n q v o : ℕ) → 0 < o → o ≡ n * (n - 1) → v ≤ n * (n * 1000000000000000000) → q * o ≤ v → q ≤ 2000000000000000000
quotient_within n q v o some is most le =
    elim (cases_Bool (nat_le q 2000000000000000000)) [
      | inr fails ↦
          let more : 2000000000000000000 < q = grind (arith, nat_tests) in
          let times : 2000000000000000001 * o ≤ q * o = mul-le 2000000000000000001 o q o (omega arith) (omega arith) in
          absurd (too_many n o v some is most (omega (arith, times, le)))
      | inl is_within ↦ grind (arith, nat_tests)
    ] where
      too_many : (n o v : ℕ) → 0 < o → o ≡ n * (n - 1) → v ≤ n * (n * 1000000000000000000) → 2000000000000000001 * o ≤ v → ⊥
      too_many zero o v some is most h = omega arith
      too_many (suc zero) o v some is most h = omega arith
      too_many (suc (suc m)) o v some is most h =
          let o_is : o ≡ suc (suc m) * suc m = is ∙ ap (λ (k : ℕ). suc (suc m) * k) (omega arith) in
          omega (arith, o_is, most, h)

-- what remains is below what it was divided by
pub rest_within : (a b m : ℕ) → 0 < b → b ≤ m → a % b * 1000000 / b ≤ m * 1000000
rest_within a b m some le =
    let below = mod-lt a some in
    let self = div-le_self (a % b * 1000000) b in
    omega (arith, below, self)

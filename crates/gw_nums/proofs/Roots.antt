-- The whole root is the one number whose square is at most n and whose successor's is not.
use Rattle.std.proofs.Common.{◌≡◌, ℕ, zero, suc, ◌+◌, ◌*◌, ◌≤◌, ◌<◌, sym, inl, inr, arith}
use Rattle.std.specs.Prelude.{nat_le, nat_lt}
use Rattle.std.proofs.Math.Nat.{mul-le-mul}
use Rattle.std.proofs.lemmas.Bool.{cases_Bool, ltb-true, ltb-false}
use Rattle.std.proofs.lemmas.Bool.Decides.{nat_tests}
use Rattle.gw_nums.specs.Roots.{root_up_to, whole_root}

-- of two squares the lesser is that of the lesser number
less_by_squares : (a b : ℕ) → a * a < b * b → a < b
less_by_squares a b h =
    elim (cases_Bool (nat_lt a b)) [
      | inl is ↦ ltb-true a b is
      | inr fails ↦ let more : b ≤ a = ltb-false a b fails in let squares = mul-le-mul more more in absurd (omega arith)
    ]

root_found : (n w k : ℕ) → w * w ≤ n → n < (w + 1) * (w + 1) → w ≤ k → root_up_to n k ≡ w
unfolding root_up_to
root_found n w zero low high le = omega arith
root_found n w (suc k) low high le =
    elim (cases_Bool (nat_le (suc k * suc k) n)) [
      | inl is ↦
          let square : suc k * suc k ≤ n = grind (arith, nat_tests) in
          let less = less_by_squares (suc k) (w + 1) (omega arith) in
          let same : suc k ≡ w = omega arith in
          rw is same
      | inr fails ↦
          let square : n < suc k * suc k = grind (arith, nat_tests) in
          let less = less_by_squares w (suc k) (omega arith) in
          rw fails (root_found n w k low high (omega arith))
    ]

up_to_itself : (w : ℕ) → w ≤ w * w
up_to_itself zero = omega arith
up_to_itself (suc w) =
    let same : suc w ≤ suc w = omega arith in
    let one : 1 ≤ suc w = omega arith in
    let h : suc w * 1 ≤ suc w * suc w = mul-le-mul same one in
    omega (arith, h)

pub is_whole_root : (n w : ℕ) → w * w ≤ n → n < (w + 1) * (w + 1) → w ≡ whole_root n
unfolding whole_root
is_whole_root n w low high = let le = up_to_itself w in sym (root_found n w n low high (omega arith))

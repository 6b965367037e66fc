use Rattle.std.proofs.Common.{◌≤◌, arith}
use Rattle.gw_request.proofs.Digits.{ten_pow_small}
use Rattle.gw_request.proofs.number.value_of.Goals as goal

pub overflow_mul-value : goal.overflow_mul-value
overflow_mul-value c =
    let few : c.loop-digit.digit-index ≤ 17 = omega (arith, c.requires.few) in
    omega (arith, ten_pow_small c.loop-digit.digit-index few, c.loop-digit.invariant.small)

pub overflow_add-value : goal.overflow_add-value
overflow_add-value c =
    let few : c.loop-digit.digit-index ≤ 17 = omega (arith, c.requires.few) in
    omega (arith, ten_pow_small c.loop-digit.digit-index few, c.loop-digit.invariant.small)

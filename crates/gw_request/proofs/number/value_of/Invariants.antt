use Rattle.std.proofs.Common.{◌≡◌, ◌^◌, ◌<◌, drop}
use Rattle.gw_request.specs.Numbers.{value_of}
use Rattle.gw_request.proofs.number.value_of.Given as goal

abbrev pub invariant-loop-digit : goal.invariant-loop-digit
invariant-loop-digit l = record {
  read : value_of l.value (drop l.digit-index l.digits) ≡ value_of 0 l.digits;
  small : l.value < 10 ^ l.digit-index;
}

use Rattle.std.proofs.Common.{◌≡◌, ◌≤◌, ◌-◌, true, false, nat_lt, length}
use Rattle.std.specs.List.{AllWithin}
use Rattle.gw_uses.specs.declared.clock_steps.ClockStep.{ClockStep}
use Rattle.gw_uses.proofs.clock_steps.count_below.Given as goal

abbrev pub invariant-loop-low : goal.invariant-loop-low
invariant-loop-low l = record {
  order : l.low ≤ l.high;
  within : l.high ≤ length l.steps;
  early : AllWithin (λ (s : ClockStep). nat_lt s.step l.step ≡ true) l.steps 0 l.low;
  late : AllWithin (λ (s : ClockStep). nat_lt s.step l.step ≡ false) l.steps l.high (length l.steps);
}

abbrev pub decreases-loop-low : goal.decreases-loop-low
decreases-loop-low l = l.high - l.low

use Rattle.std.proofs.Common.{ℕ, suc, ◌≤◌, ◌<◌, ◌-◌, length, get_or}
use Rattle.gw_retry.specs.declared.retry.Waiting.{Waiting}
use Rattle.gw_retry.proofs.groups.halved.Given as goal

abbrev pub invariant-loop-low : goal.invariant-loop-low
invariant-loop-low l = record {
  order : l.low ≤ l.high;
  within : l.high ≤ length l.waiting.items;
  below : (k : ℕ) (d : Waiting) → k < l.low → (get_or l.waiting.items k d).place < suc l.place;
  from : (k : ℕ) (d : Waiting) → l.high ≤ k → k < length l.waiting.items → suc l.place ≤ (get_or l.waiting.items k d).place;
}

abbrev pub decreases-loop-low : goal.decreases-loop-low
decreases-loop-low l = l.high - l.low

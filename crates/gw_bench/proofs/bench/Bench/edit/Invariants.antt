use Rattle.std.proofs.Common.{◌≡◌, ◌-◌, length}
use mathlib.Core.List.{IsPrefix}
use Rattle.gw_bench.proofs.bench.Bench.edit.Given as goal

abbrev pub invariant-rounds : goal.invariant-rounds
invariant-rounds g l = IsPrefix l.fn.pass l.pass × (l.edit ≡ l.fn.edit)

abbrev pub decreases-rounds : goal.decreases-rounds
decreases-rounds g l = 4096 - length l.pass

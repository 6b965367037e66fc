use Rattle.std.proofs.Common.{◌≡◌, ◌-◌, length}
use mathlib.Core.List.{IsPrefix}
use Rattle.gw_bench.proofs.pass.Pass.read_on.Given as goal

abbrev pub invariant-boxes : goal.invariant-boxes
invariant-boxes g l = IsPrefix l.fn.self l.self × (l.row ≡ g.N.RowName.boxes)

abbrev pub decreases-boxes : goal.decreases-boxes
decreases-boxes g l = length g.N.RowName.boxes - length l.self

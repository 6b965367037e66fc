use Rattle.std.proofs.Common.{◌≡◌, ◌-◌, length}
use Rattle.gw_bench.specs.Growing.{IsGrown}
use Rattle.gw_bench.proofs.held.Held.read_on.Given as goal

abbrev pub invariant-boxes : goal.invariant-boxes
invariant-boxes g l = IsGrown l.initial.self l.self × (l.row ≡ g.N.RowName.boxes)

abbrev pub decreases-boxes : goal.decreases-boxes
decreases-boxes g l = 4096 - length l.self.front

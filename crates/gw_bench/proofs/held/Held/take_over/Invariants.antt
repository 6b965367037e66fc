use Rattle.std.proofs.Common.{◌≡◌, ◌-◌, length}
use Rattle.gw_bench.specs.Growing.{IsGrown}
use Rattle.gw_bench.proofs.held.Held.take_over.Given as goal

abbrev pub invariant-notes : goal.invariant-notes
invariant-notes g l = record {
  grown : IsGrown l.initial.self l.self;
  row : l.row ≡ g.N.RowName.boxes;
}

abbrev pub decreases-notes : goal.decreases-notes
decreases-notes g l = 4096 - length l.self.front

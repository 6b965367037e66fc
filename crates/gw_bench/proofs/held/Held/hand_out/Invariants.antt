use Rattle.std.proofs.Common.{◌≡◌, ◌≤◌, ◌-◌, length}
use mathlib.Core.List.{IsPrefix}
use Rattle.gw_bench.proofs.held.Held.hand_out.Given as goal

abbrev pub invariant-notes : goal.invariant-notes
invariant-notes g l = record {
  same : l.self ≡ l.initial.self;
  seen : IsPrefix l.initial.pass l.pass;
  less : length l.pass ≤ length l.self.front;
  row : l.row ≡ g.N.RowName.boxes;
}

abbrev pub decreases-notes : goal.decreases-notes
decreases-notes g l = 4096 - length l.pass

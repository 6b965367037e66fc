use Rattle.std.proofs.Common.{◌≡◌, ◌+◌, length}
use Rattle.gw_lanes.proofs.Classes.{before, AreSet}
use Rattle.gw_lanes.proofs.counts.class_counts.Given as goal

abbrev pub invariant-loop-i : goal.invariant-loop-i
invariant-loop-i l = record {
  slots : length l.counts ≡ length l.limits + 1;
  before_is : l.before ≡ before l.limits l.values l.i;
  set : AreSet l.limits l.values l.counts l.i;
}

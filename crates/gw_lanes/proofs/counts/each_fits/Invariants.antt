use Rattle.std.proofs.Common.{ℕ, ◌<◌, get_or, pos, w32, FitsSigned}
use Rattle.gw_lanes.proofs.counts.each_fits.Given as goal

abbrev pub invariant-loop-i : goal.invariant-loop-i
invariant-loop-i l = (k : ℕ) → k < l.i → FitsSigned w32 (get_or l.values k (pos 0))

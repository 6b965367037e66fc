use Rattle.std.proofs.Common.{length, drop, ◌-◌, ◌≡◌, ◌+◌, ◌≤◌}
use Rattle.std.specs.List.{prefix_len}
use Rattle.gw_lines.specs.Classes.{is_in}
use Rattle.gw_lines.proofs.class.span.Given as goal

-- the bytes so far are of the class
abbrev pub invariant-loop-n : goal.invariant-loop-n
invariant-loop-n l = (l.n ≤ length l.bytes) × (l.n + prefix_len (is_in l.class) (drop l.n l.bytes) ≡ prefix_len (is_in l.class) l.bytes)

abbrev pub decreases-loop-n : goal.decreases-loop-n
decreases-loop-n l = length l.bytes - l.n

use Rattle.std.proofs.Common.{◌≡◌, map}
use Rattle.std.specs.List.{range_with_len}
use Rattle.gw_meaning.specs.Classes.{limit_of}
use Rattle.gw_report.proofs.classes.limits_of.Given as goal

abbrev pub invariant-loop-i : goal.invariant-loop-i
invariant-loop-i l = l.limits.items ≡ map (limit_of l.classes) (range_with_len 0 l.i)

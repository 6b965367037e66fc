use Rattle.std.proofs.Common.{◌≡◌, length}
use Rattle.gw_bench.proofs.row.Row.new.Given as goal

abbrev pub invariant-loop : goal.invariant-loop
invariant-loop l = length l.boxes.items ≡ l.counter

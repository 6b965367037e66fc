use Rattle.std.proofs.Common.{◌≡◌, ℤ, List, [], map, take}
use Rattle.gw_entities.proofs.tables.as_many_empty.Given as goal

abbrev pub invariant-loop-table : goal.invariant-loop-table
invariant-loop-table l = l.empty.items ≡ map (λ (v : List ℤ). []) (take l._table-index l.values)

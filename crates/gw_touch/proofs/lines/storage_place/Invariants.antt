use Rattle.std.proofs.Common.{◌≡◌, ◌+◌, drop}
use Rattle.gw_touch.specs.Touching.{storage_in}
use Rattle.gw_touch.proofs.lines.storage_place.Given as goal

abbrev pub invariant-loop-line : goal.invariant-loop-line
invariant-loop-line l =
    (l.place ≡ l.line-index) × (storage_in l.name (l.line-index + 1) (drop l.line-index l.lines) ≡ storage_in l.name 1 l.lines)

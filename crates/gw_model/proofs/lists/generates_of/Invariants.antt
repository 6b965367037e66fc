use Rattle.std.proofs.Common.{◌≡◌, drop, ◌++◌}
use Rattle.gw_meaning.specs.Listing.{generates_in}
use Rattle.gw_model.proofs.lists.generates_of.Given as goal

abbrev pub invariant-loop-line : goal.invariant-loop-line
invariant-loop-line l = l.numbers.items ++ generates_in (drop l.line-index l.lines) ≡ generates_in l.lines

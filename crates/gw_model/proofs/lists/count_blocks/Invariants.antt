use Rattle.std.proofs.Common.{◌≡◌, ◌≤◌, ◌+◌, drop, filter, length}
use Rattle.gw_meaning.specs.Listing.{is_block}
use Rattle.gw_model.proofs.lists.count_blocks.Given as goal

abbrev pub invariant-loop-line : goal.invariant-loop-line
invariant-loop-line l = (l.count ≤ l.line-index) × (l.count + length (filter is_block (drop l.line-index l.lines)) ≡ length (filter is_block l.lines))

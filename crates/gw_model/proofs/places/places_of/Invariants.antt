use Rattle.std.proofs.Common.{◌≡◌, ℕ, get_or, length, filter, take, drop, ◌≤◌}
use Rattle.gw_meaning.specs.Listing.{is_block, first_block}
use Rattle.gw_model.specs.Tables.{nowhere, place_in}
use Rattle.gw_model.proofs.places.places_of.Given as goal

abbrev pub invariant-loop-index : goal.invariant-loop-index
invariant-loop-index l = record {
  within : l.index ≤ length l.lines;
  counted : l.before ≡ length (filter is_block (take l.index l.lines));
  after : l.after ≡ first_block (drop l.index l.lines);
  places : (number : ℕ) → get_or l.table.items number nowhere ≡ place_in l.index l.before (drop l.index l.lines) number;
}

abbrev pub decreases-loop-index : goal.decreases-loop-index
decreases-loop-index l = l.index

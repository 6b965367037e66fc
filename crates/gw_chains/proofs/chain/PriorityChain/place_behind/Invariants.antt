use Rattle.std.proofs.Common.{◌≡◌, ◌∷◌, ◌≤◌, ◌-◌, length, drop, insert}
use Rattle.gw_meaning.specs.Changes.{lined_up}
use Rattle.gw_chains.proofs.chain.PriorityChain.place_behind.Given as goal

abbrev pub invariant-loop-low : goal.invariant-loop-low
invariant-loop-low l = record {
  order : l.low ≤ l.high;
  within : l.high ≤ length l.self-inside.transactions.items;
  -- x stands in front of all from high on
  above : lined_up l.x (drop l.high l.self-inside.transactions.items) ≡ l.x ∷ drop l.high l.self-inside.transactions.items;
  -- and after all in front of low
  below : lined_up l.x (drop l.low l.self-inside.transactions.items) ≡ l.x ∷ drop l.low l.self-inside.transactions.items →
      lined_up l.x l.self-inside.transactions.items ≡ insert l.self-inside.transactions.items l.low l.x;
}

abbrev pub decreases-loop-low : goal.decreases-loop-low
decreases-loop-low l = l.high - l.low

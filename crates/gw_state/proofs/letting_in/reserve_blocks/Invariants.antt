use Rattle.std.proofs.Common.{◌≡◌, ℕ, ◌+◌, ◌≤◌, drop, length}
use Rattle.gw_chains.specs.Chains.{with_grant, AreWithin}
use Rattle.gw_state.proofs.letting_in.reserve_blocks.Given as goal

-- what the rest needs beside what there is room for is what all need
abbrev pub invariant-loop-i : goal.invariant-loop-i
invariant-loop-i l = record {
  all : l.count + length (with_grant (drop l.i l.grants) (drop l.i l.chain.items)) ≡ length (with_grant l.grants l.chain.items);
  within : (limit : ℕ) → l.counts.limit ≤ limit → AreWithin (with_grant (drop l.i l.grants) (drop l.i l.chain.items)) limit →
      AreWithin (with_grant l.grants l.chain.items) limit;
  entries : l.counts.entries ≡ l.initial.counts.entries;
  limit : l.initial.counts.limit ≤ l.counts.limit;
}

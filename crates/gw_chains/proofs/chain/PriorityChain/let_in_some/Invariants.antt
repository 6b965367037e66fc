use Rattle.std.proofs.Common.{◌≡◌, ◌+◌, ◌≤◌, drop, length}
use Rattle.gw_meaning.specs.Machine.{Machine}
use Rattle.gw_chains.specs.Chains.{with_grant, HasRoomToLetAllIn, all_let_in}
use Rattle.gw_chains.proofs.LetIn.{Sifting}
use Rattle.gw_chains.proofs.chain.PriorityChain.let_in_some.Given as goal

-- what the rest comes to is what all come to
abbrev pub invariant-loop-i : goal.invariant-loop-i
invariant-loop-i l = record {
  sifting : Sifting l.grants l.initial.self-inside.transactions.items l.i l.kept l.self-inside.transactions.items;
  fewer : l.kept ≤ l.i;
  going : length (with_grant (drop l.i l.grants) (drop l.i l.initial.self-inside.transactions.items)) ≤ l.self-inside.transactions.room;
  room : HasRoomToLetAllIn (with_grant (drop l.i l.grants) (drop l.i l.initial.self-inside.transactions.items)) l.current.room l.counts.limit;
  left : l.initial.current.room + length (with_grant (drop l.i l.grants) (drop l.i l.initial.self-inside.transactions.items)) ≤
      l.current.room + length (with_grant l.grants l.initial.self-inside.transactions.items);
  let_in : (s : Machine) →
      all_let_in (with_grant (drop l.i l.grants) (drop l.i l.initial.self-inside.transactions.items))
      (record s { current = l.current.items; counts = l.counts.entries }) ≡
      all_let_in (with_grant l.grants l.initial.self-inside.transactions.items)
      (record s { current = l.initial.current.items; counts = l.initial.counts.entries });
}

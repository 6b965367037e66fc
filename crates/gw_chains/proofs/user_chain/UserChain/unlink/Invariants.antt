use Rattle.std.proofs.Common.{◌≡◌, ◌+◌, ◌-◌, ◌≤◌, drop, map, take}
use Rattle.gw_meaning.specs.Changes.{all_lined_up, sent}
use Rattle.gw_chains.proofs.user_chain.UserChain.unlink.Given as goal

-- what is left to do leads where all of it does
abbrev pub invariant-loop-one : goal.invariant-loop-one
invariant-loop-one l = record {
  entries : l.self-inside.entries ≡ l.initial.self-inside.entries;
  members : drop (l.count - l._one) l.self-inside.members.items ≡ drop l.count l.initial.self-inside.members.items;
  current :
      all_lined_up (map (sent l.to) (take (l.count - l._one) l.self-inside.members.items)) l.current.items ≡
      all_lined_up (map (sent l.to) (take l.count l.initial.self-inside.members.items)) l.initial.current.items;
  room : l.initial.current.room ≤ l.current.room + l._one;
}

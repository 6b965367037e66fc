use Rattle.std.proofs.Common.{◌≡◌, ◌+◌, ◌-◌, ◌≤◌, []}
use Rattle.gw_meaning.specs.Changes.{all_copied}
use Rattle.gw_state.specs.States.{machine_of}
use Rattle.gw_state.proofs.parts.Parts.copy_all.Given as goal

-- the copies that are left lead where all of them do
abbrev pub invariant-loop-copy : goal.invariant-loop-copy
invariant-loop-copy l = record {
  limit : l.self.counts.limit ≡ l.initial.self.counts.limit;
  room : l.initial.self.current.room ≤ l.self.current.room + l._copy;
  copied : all_copied (l.count - l._copy) l.to l.x [] (machine_of l.self) ≡
      all_copied l.count l.to l.x [] (machine_of l.initial.self);
  rest : l.self ≡ record l.initial.self { next = l.self.next; current = l.self.current; counts = l.self.counts };
}

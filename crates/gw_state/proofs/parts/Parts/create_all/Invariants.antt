use Rattle.std.proofs.Common.{◌≡◌, ◌≤◌, drop, length}
use Rattle.gw_meaning.specs.Changes.{making_of, with_making, all_made}
use Rattle.gw_state.specs.States.{machine_of}
use Rattle.gw_state.proofs.parts.Parts.create_all.Given as goal

abbrev pub invariant-loop-arrival : goal.invariant-loop-arrival
invariant-loop-arrival l = record {
  made : with_making (all_made (drop l.arrival-index l.arrivals) (making_of (machine_of l.self))) (machine_of l.self) ≡
      with_making (all_made l.arrivals (making_of (machine_of l.initial.self))) (machine_of l.initial.self);
  chain : length (drop l.arrival-index l.arrivals) ≤ l.self.future.room;
  limit : l.self.counts.limit ≡ l.initial.self.counts.limit;
}

use Rattle.std.proofs.Common.{◌≡◌, ℕ, ◌<◌, slice_index_or}
use Rattle.gw_meaning.specs.declared.moves.Arrival.{Arrival}
use Rattle.gw_chains.proofs.counts.Counts.reserve_all.Given as goal

abbrev pub invariant-loop-arrival : goal.invariant-loop-arrival
invariant-loop-arrival l = record {
  entries : l.self.entries ≡ l.fn.self.entries;
  ids : (k : ℕ) (d : Arrival) → k < l.arrival-index → (slice_index_or l.arrivals k d).id < l.self.limit;
}

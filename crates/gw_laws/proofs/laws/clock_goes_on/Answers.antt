use Rattle.gw_laws.proofs.ClockLaws.{clock_never_goes_back, clock_stays_within, nothing_is_overdue}
use Rattle.gw_laws.proofs.PickLaws.{clock_moves_only_when_it_must, clock_moves_when_it_must}
use Rattle.gw_laws.proofs.laws.clock_goes_on.Goals as goal

pub returns : goal.returns
returns c = record {
  clock = clock_never_goes_back;
  within = clock_stays_within;
  future = nothing_is_overdue;
  must = clock_moves_only_when_it_must;
  moves = clock_moves_when_it_must;
}

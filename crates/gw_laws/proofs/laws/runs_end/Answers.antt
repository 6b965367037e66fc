use Rattle.gw_laws.proofs.EndLaws.{ends_behind_a_last_state, ends_for_good, ends_done, ends_dry, ends_at_horizon, errors_are_of_attempts}
use Rattle.gw_laws.proofs.laws.runs_end.Goals as goal

pub returns : goal.returns
returns c = record {
  last = ends_behind_a_last_state;
  stays = ends_for_good;
  done = ends_done;
  dry = ends_dry;
  horizon = ends_at_horizon;
  error = errors_are_of_attempts;
}

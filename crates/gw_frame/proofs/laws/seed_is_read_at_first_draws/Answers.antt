use Rattle.gw_frame.proofs.Running.{seed_is_read}
use Rattle.gw_frame.proofs.laws.seed_is_read_at_first_draws.Goals as goal

pub returns : goal.returns
returns c = seed_is_read

use Rattle.gw_frame.proofs.Asking.{unseen_edit, unseen_step}
use Rattle.gw_frame.proofs.laws.unseen_edit.Goals as goal

pub returns : goal.returns
returns c = record { run = unseen_edit; step = unseen_step }

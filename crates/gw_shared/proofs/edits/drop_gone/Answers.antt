use Rattle.std.proofs.Common.{◌-◌, arith}
use Rattle.gw_shared.proofs.Full as full
use Rattle.gw_shared.proofs.edits.drop_gone.Goals as goal

pub returns-then-count-eq0-clause-full : goal.returns-then-count-eq0-clause-full
returns-then-count-eq0-clause-full g c = λ n are. full.fewer n (n - 1) c.args.chunks.now.items are (omega arith)

pub returns-clause-full : goal.returns-clause-full
returns-clause-full g c = λ n are. rw c.pop_front.ensures.rest (full.without_first n c.args.chunks.now.items are)

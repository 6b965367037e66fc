use Rattle.gw_desk.specs.Workers.{TakesAt}
use Rattle.gw_desk.proofs.PlayLaws.{took_so}
use Rattle.gw_desk.proofs.desk.Desk.take_at.Goals as goal

pub returns-in-Ok-clause-took : goal.returns-in-Ok-clause-took
returns-in-Ok-clause-took c =
    rw (c.start_of-start.ensures, c.replace.ensures.after) (took_so c.args.self.now c.args.rep c.in-Ok.taken c.in-Ok.ensures.takes)

pub returns-in-Err-clause-took : goal.returns-in-Err-clause-took
returns-in-Err-clause-took c = rw c.take.ensures.after TakesAt.refused

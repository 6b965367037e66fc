use Rattle.gw_main.specs.Programs.{stopped}
use Rattle.gw_main.proofs.run.help.Goals as goal

pub returns-in-Err : goal.returns-in-Err
returns-in-Err g c = stopped c.in-Err.ensures.err c.in-Err.ensures.counted c.decline.ensures.tells c.decline.ensures.status

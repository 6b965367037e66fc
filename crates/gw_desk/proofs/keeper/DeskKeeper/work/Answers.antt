use Rattle.gw_desk.proofs.WorkingLaws.{is_counted}
use Rattle.gw_desk.proofs.keeper.DeskKeeper.work.Goals as goal

pub returns-clause-ok : goal.returns-clause-ok
returns-clause-ok c = record {
  desk = λ before. c.work_on.ensures.desk;
  worked = c.in_ok-work_on.ensures.worked;
  counted = is_counted c.work_on.new.self c.args.rep c.recorded.result c.recorded.ensures.value c.recorded.ensures.there;
}

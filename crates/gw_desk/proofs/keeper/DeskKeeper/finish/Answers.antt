use Rattle.gw_desk.specs.Playing.{Tells}
use Rattle.gw_desk.proofs.keeper.DeskKeeper.finish.Goals as goal

pub returns : goal.returns
returns c = (
  (λ desk. c.finish.ensures.desk),
  Tells.finished c.args.rep c.args.k c.finish.result c.finish.new.self c.finish.ensures.answer c.finish.ensures.steps
      c.finish.ensures.decided c.finish.ensures.idle,
)

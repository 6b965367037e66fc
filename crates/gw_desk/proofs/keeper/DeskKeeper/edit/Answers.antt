use Rattle.gw_desk.proofs.PlayLaws.{edited, edit_refused}
use Rattle.gw_desk.proofs.keeper.DeskKeeper.edit.Goals as goal

pub returns-clause-accepted : goal.returns-clause-accepted
returns-clause-accepted c = edited c.args.self.now c.edit.new.self c.args.edit c.edit.result c.edit.ensures.desk c.edit.ensures.accepted

pub returns-clause-refused : goal.returns-clause-refused
returns-clause-refused c = edit_refused c.args.self.now c.edit.new.self c.args.edit c.edit.result c.edit.ensures.refused c.edit.ensures.err

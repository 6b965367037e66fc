use Rattle.gw_script.proofs.Showing.{lists_show_statements}
use Rattle.gw_script.proofs.laws.lists_show_statements.Goals as goal

pub returns : goal.returns
returns c = lists_show_statements

use Rattle.gw_laws.proofs.AnewLaws.{tabulate_adds_one_value}
use Rattle.gw_laws.proofs.laws.a_table_takes_one_value.Goals as goal

pub returns : goal.returns
returns c = tabulate_adds_one_value

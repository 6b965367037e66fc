use Rattle.gw_laws.proofs.ItemLaws.{an_item_is_itself}
use Rattle.gw_laws.proofs.laws.items_are_told_apart.Goals as goal

pub returns : goal.returns
returns c = an_item_is_itself

use Rattle.gw_table.proofs.LookupLaws.{nothing_listed}
use Rattle.gw_table.proofs.table.Table.new.Goals as goal

pub invariant_of-result : goal.invariant_of-result
invariant_of-result g c = rw (c.new.ensures.items, c.new-2.ensures.items) nothing_listed

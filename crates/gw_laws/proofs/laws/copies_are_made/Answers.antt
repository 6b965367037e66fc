use Rattle.gw_laws.proofs.CopyLaws.{the_parent_stays_active, each_copy_has_a_number, copies_are_alike, copies_line_up_in_order, copies_are_no_entries, copies_stand_in_the_block}
use Rattle.gw_laws.proofs.CopyQueueArrivals.{copies_came_to_no_queue}
use Rattle.gw_laws.proofs.InheritLaws.{copies_inherit_parameters}
use Rattle.gw_laws.proofs.laws.copies_are_made.Goals as goal

pub returns : goal.returns
returns c = record {
  parent = the_parent_stays_active;
  numbers = each_copy_has_a_number;
  alike = copies_are_alike;
  parameters = copies_inherit_parameters;
  queues = copies_came_to_no_queue;
  order = copies_line_up_in_order;
  entries = copies_are_no_entries;
  content = copies_stand_in_the_block;
}

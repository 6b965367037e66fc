use Rattle.gw_laws.proofs.WakingLaws.{nobody_wakes_where_none_is_active, nobody_wakes_where_the_active_has_to_wait, nobody_wakes_unless_a_block_is_entered, who_wakes_read_what_changed}
use Rattle.gw_laws.proofs.laws.nobody_wakes_for_nothing.Goals as goal

pub returns : goal.returns
returns c = record {
  idle = nobody_wakes_where_none_is_active;
  refused = nobody_wakes_where_the_active_has_to_wait;
  entry = nobody_wakes_unless_a_block_is_entered;
  changed = who_wakes_read_what_changed;
}

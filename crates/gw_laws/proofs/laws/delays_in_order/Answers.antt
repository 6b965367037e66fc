use Rattle.gw_laws.proofs.DelayLaws.{delays_are_in_order, delays_are_first_in_first_out, who_waits_is_bound}
use Rattle.gw_laws.proofs.StayLaws.{who_waits_keeps_his_place, who_leaves_is_let_in}
use Rattle.gw_laws.proofs.OwnerLaws.{first_takes_over, nobody_waits_at_a_free_facility}
use Rattle.gw_laws.proofs.laws.delays_in_order.Goals as goal

pub returns : goal.returns
returns c = record {
  order = delays_are_in_order;
  turn = delays_are_first_in_first_out;
  places = who_waits_keeps_his_place;
  bound = who_waits_is_bound;
  leaves = who_leaves_is_let_in;
  first = first_takes_over;
  free = nobody_waits_at_a_free_facility;
}

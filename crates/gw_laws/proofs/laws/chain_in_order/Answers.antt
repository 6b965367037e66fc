use Rattle.gw_laws.proofs.ChainLaws.{chain_is_in_order, chain_is_first_in_first_out}
use Rattle.gw_laws.proofs.TurnLaws.{first_becomes_active, all_of_a_time_come}
use Rattle.gw_laws.proofs.PickLaws.{the_first_is_picked}
use Rattle.gw_laws.proofs.FutureLaws.{future_keeps_its_order, nobody_leaves_before_his_time}
use Rattle.gw_laws.proofs.laws.chain_in_order.Goals as goal

pub returns : goal.returns
returns c = record {
  order = chain_is_in_order;
  turn = chain_is_first_in_first_out;
  first = first_becomes_active;
  picked = the_first_is_picked;
  come = all_of_a_time_come;
  future = future_keeps_its_order;
  time = nobody_leaves_before_his_time;
}

use Rattle.gw_laws.proofs.UserChainLaws.{user_chains_change_by_link_and_unlink, fewer_by_unlink_alone, who_leaves_is_unlinked, user_chains_are_first_in_first_out}
use Rattle.gw_laws.proofs.laws.user_chains_in_order.Goals as goal

pub returns : goal.returns
returns c = record {
  served = user_chains_change_by_link_and_unlink;
  fewer = fewer_by_unlink_alone;
  leaves = who_leaves_is_unlinked;
  turn = user_chains_are_first_in_first_out;
}

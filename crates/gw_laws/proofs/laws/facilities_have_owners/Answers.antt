use Rattle.gw_laws.proofs.GivingLaws.{only_the_owner_gives_back, the_first_is_given_it, only_the_active_takes}
use Rattle.gw_laws.proofs.laws.facilities_have_owners.Goals as goal

pub returns : goal.returns
returns c = record { gives = only_the_owner_gives_back; given = the_first_is_given_it; takes = only_the_active_takes }

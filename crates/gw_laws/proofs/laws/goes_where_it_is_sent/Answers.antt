use Rattle.gw_laws.proofs.DestinationLaws.{goes_to_its_destination, others_stay_in_their_blocks}
use Rattle.gw_laws.proofs.laws.goes_where_it_is_sent.Goals as goal

pub returns : goal.returns
returns c = record { goes = goes_to_its_destination; stays = others_stay_in_their_blocks }

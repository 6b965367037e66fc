use Rattle.gw_entities.proofs.ItemLaws.{kept_key}
use Rattle.gw_entities.proofs.key_set.KeySet.add.Goals as goal

pub returns-in-Some-clause-keys : goal.returns-in-Some-clause-keys
returns-in-Some-clause-keys c = kept_key c.args.self.now.keys c.in-Some.index c.args.key.now c.in-Some.ensures.there

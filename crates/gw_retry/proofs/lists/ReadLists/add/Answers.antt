use Rattle.std.proofs.Common.{subst}
use Rattle.gw_retry.specs.Readings.{Keeps, all_items}
use Rattle.gw_retry.proofs.Kept.{stored_is, keeps_inserted}
use Rattle.gw_retry.proofs.lists.ReadLists.add.Goals as goal

pub returns-clause-there : goal.returns-clause-there
returns-clause-there c =
    let stored = c.in_ok-index.ensures.stored in
    stored_is c.insert_full.new.self.keys c.in_ok-index.index stored.0 c.args.read.items stored.1 stored.2

pub returns-clause-lists : goal.returns-clause-lists
returns-clause-lists c =
    subst (λ r. Keeps r.lists (all_items c.insert_full.new.self.keys)) c.self.view_is
    (keeps_inserted c.self.inside.lists.keys c.insert_full.new.self.keys c.args.read c.in_ok-index.ensures.keys)

use Rattle.gw_model.proofs.Answering.{least_seed, greatest_seed}
use Rattle.std.proofs.Common.{◌≡◌, rules}
use Rattle.gw_meaning.specs.Listing.{seed_in}
use Rattle.gw_model.proofs.version.Version.seed.Goals as goal

pub returns-clause-least : goal.returns-clause-least
returns-clause-least c =
    let found : c.seed_of.result ≡ seed_in c.self.inside.replications.items c.args.number = search rules in
    least_seed c.self.inside.replications.items c.args.number c.seed_of.result found c.self.invariant.well.seeded

pub returns-clause-greatest : goal.returns-clause-greatest
returns-clause-greatest c =
    let found : c.seed_of.result ≡ seed_in c.self.inside.replications.items c.args.number = search rules in
    greatest_seed c.self.inside.replications.items c.args.number c.seed_of.result found c.self.invariant.well.seeded

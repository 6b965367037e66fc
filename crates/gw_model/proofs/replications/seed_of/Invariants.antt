use Rattle.std.proofs.Common.{◌≡◌, drop}
use Rattle.gw_meaning.specs.Listing.{seed_in}
use Rattle.gw_model.proofs.replications.seed_of.Given as goal

abbrev pub invariant-loop-replication : goal.invariant-loop-replication
invariant-loop-replication l = seed_in (drop l.replication-index l.replications) l.number ≡ seed_in l.replications l.number

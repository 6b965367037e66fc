use Rattle.std.proofs.Common.{◌≡◌, map, take}
use Rattle.gw_meaning.specs.Changes.{user_chain_anew}
use Rattle.gw_chains.proofs.linked.all_anew.Given as goal

abbrev pub invariant-loop-index : goal.invariant-loop-index
invariant-loop-index l = l.all ≡ map user_chain_anew (take l.index l.chains)

-- Parts of a state, copied. (Our own.)
use Rattle.std.specs.Prelude.{◌≡◌}
use Rattle.gw_meaning.specs.Machine.{Machine}
use Rattle.gw_chains.specs.Chains.{delays_of}
use Rattle.gw_state.specs.Parts.{entities_of}
use Rattle.gw_state.specs.declared.copy.Chains.{Chains}
use Rattle.gw_state.specs.declared.copy.Kept.{Kept}

-- the chains are those of the state
pub record ChainsOf (s : Machine) (chains : Chains) : Type 0 where
  pub current : chains.current.items ≡ s.current
  pub future : chains.future.items ≡ s.future
  pub delays : delays_of chains.delays ≡ s.delays
  pub retry : chains.retry.waiters ≡ s.retry
  pub linked : chains.linked ≡ s.linked

-- the counts, the entities and the parameters are those of the state
pub record KeptOf (s : Machine) (kept : Kept) : Type 0 where
  pub counts : kept.counts.entries ≡ s.counts
  pub entities : entities_of kept.entities ≡ s.entities
  pub parameters : kept.parameters ≡ s.parameters

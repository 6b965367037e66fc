-- How `DelayChains` keeps the delay chains: each beside its key. No public clause cites this module. (Our own.)
use Rattle.std.specs.Prelude.{◌≡◌, ◌≤◌, ℕ, List, [], ◌∷◌, length, map}
use Rattle.std.specs.List.{IsDistinct}
use Rattle.gw_names.specs.declared.key.Key.{Key}
use Rattle.gw_names.specs.Keys.{key_eq}
use Rattle.gw_meaning.specs.declared.transaction.Transaction.{Transaction}
use Rattle.gw_meaning.specs.Machine.{waiting}
use Rattle.gw_chains.specs.Chains.{Chain, delays_of}

-- who is on each of these chains
abbrev pub queues_of : List (Chain Transaction) → List (List Transaction)
queues_of chains = map (λ (c : Chain Transaction). c.items) chains

-- a chain on which nobody waits
abbrev pub nobody : Chain Transaction
nobody = record { items = []; room = 0 }

-- each key with its chain: after the last chain, with one on which nobody waits
abbrev pub chains_of : List Key → List (Chain Transaction) → List (Key × Chain Transaction)
chains_of [] chains = []
chains_of (k ∷ ks) [] = (k, nobody) ∷ chains_of ks []
chains_of (k ∷ ks) (c ∷ cs) = (k, c) ∷ chains_of ks cs

-- no chain without its key, and how many are on all of them
pub record AreKept (keys : List Key) (chains : List (Chain Transaction)) (count : ℕ) : Type 0 where
  pub apart : IsDistinct key_eq keys
  pub short : length chains ≤ length keys
  pub counted : count ≡ length (waiting (delays_of (chains_of keys chains)))

-- How `UserChains` keeps the user chains: each beside its key. (Our own.)
use Rattle.std.specs.Prelude.{◌≡◌, ℕ, List, length}
use Rattle.std.specs.List.{IsDistinct, zip}
use Rattle.gw_names.specs.declared.key.Key.{Key}
use Rattle.gw_names.specs.Keys.{key_eq}
use Rattle.gw_meaning.specs.Machine.{UserChain, members_of, waiting}

-- a chain for each key, and how many are on all of them
pub record AreLinked (keys : List Key) (chains : List UserChain) (count : ℕ) : Type 0 where
  pub apart : IsDistinct key_eq keys
  pub beside : length chains ≡ length keys
  pub counted : count ≡ length (waiting (members_of (zip keys chains)))

-- What a contract sees of a `KeySet`. (Our own.)
use Rattle.std.specs.Prelude.{ℕ, List, []}
use Rattle.indexmap.specs.IndexSet.{spare}
use Rattle.gw_names.specs.declared.key.Key.{Key}
use Rattle.gw_entities.specs.declared.shared_keys.Form.{Form}
use Rattle.gw_entities.specs.declared.shared_keys.Form.TheVariants.{Nothing, Shared, Own}

-- keys in order
pub record KeyList : Type 0 where
  pub keys : List Key
  -- for how many more there is room
  pub room : ℕ

-- the keys, whether or not copies share them
abbrev pub keys_in : Form → List Key
keys_in (Nothing alloc) = []
keys_in (Shared shared) = shared.value.value.set.keys
keys_in (Own own) = own.value.set.keys

-- those that copies share take no further one
abbrev pub room_in : Form → ℕ
room_in (Nothing alloc) = 0
room_in (Shared shared) = 0
room_in (Own own) = spare own.value.set

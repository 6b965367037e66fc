-- Room for those whom an update lets in. (Our own.)
use Rattle.std.specs.Prelude.{ℕ, ◌≤◌, List, length}
use Rattle.gw_names.specs.declared.key.Key.{Key}
use Rattle.gw_meaning.specs.Tables.{value_of}
use Rattle.gw_meaning.specs.declared.entity_change.Update.{Update}
use Rattle.gw_meaning.specs.declared.entity_change.Update.TheVariants as updates
use Rattle.gw_meaning.specs.declared.entity_change.StorageUpdate.TheVariants as of_storage
use Rattle.gw_meaning.specs.declared.transaction.Transaction.{Transaction}
use Rattle.gw_meaning.specs.Machine.{delay_at}
use Rattle.gw_meaning.specs.Changes.{update_grants}
use Rattle.gw_chains.specs.Chains.{Chain, delays_of, room_of, with_grant, HasRoomToLetAllIn}

-- those of the delay chain of a key whom an update lets in
abbrev pub going : Key → Update → List (Key × Chain Transaction) → List Transaction
going key update chains = with_grant (update_grants update) (delay_at (delays_of chains) key)

-- they can leave the delay chain without memory; the first always can
abbrev pub CanLeave : Key → Update → List (Key × Chain Transaction) → Type 0
CanLeave key (updates.Storage (of_storage.Leave units grants)) chains =
    length (with_grant grants (delay_at (delays_of chains) key)) ≤ room_of (value_of chains key)
CanLeave key update chains = Unit {0}

-- there is room for them: to leave it, on the current chain and among the counts of blocks
abbrev pub HasRoomToAdmit : Key → Update → List (Key × Chain Transaction) → ℕ → ℕ → Type 0
HasRoomToAdmit key update chains room limit =
    HasRoomToLetAllIn (going key update chains) room limit × CanLeave key update chains

-- What a refused attempt read, and what a step writes: entities of a kind, and the counts of blocks. (Manual: retry
-- chains. Our own: the entries and the content of a block are one to those who wait.)
use Rattle.std.specs.Prelude.{Bool, List, [], ◌∷◌, ◌++◌, if◌then◌else◌}
use Rattle.std.specs.List.{list_any}
use Rattle.gw_meaning.specs.declared.entity_change.Update.{Update}
use Rattle.gw_meaning.specs.declared.entity_change.Update.TheVariants as updates
use Rattle.gw_meaning.specs.declared.transaction.Transaction.{Transaction}
use Rattle.gw_meaning.specs.declared.watched.EntityKind.{EntityKind}
use Rattle.gw_meaning.specs.declared.watched.EntityKind.TheVariants as kinds
use Rattle.gw_meaning.specs.declared.watched.Watched.{Watched}
use Rattle.gw_meaning.specs.contracts.watched.WatchedPartialEq.TheImpl as comparison

-- who waits, as it came, and what its attempt read
pub record Waiter : Type 0 where
  pub transaction : Transaction
  pub read : List Watched

-- whether the same is watched, as the code tells
abbrev pub same_watched : Watched → Watched → Bool
same_watched = comparison.ghosts.eq

-- whether it stands in a list
abbrev pub is_watched : List Watched → Watched → Bool
is_watched list w = list_any (same_watched w) list

-- a list with one more, and with some more: after the others, and once
abbrev pub with_watched : List Watched → Watched → List Watched
with_watched list w = if is_watched list w then list else list ++ w ∷ []

abbrev pub with_all_watched : List Watched → List Watched → List Watched
with_all_watched list [] = list
with_all_watched list (w ∷ ws) = with_all_watched (with_watched list w) ws

-- the kind of the entity that an update changes
abbrev pub kind_of : Update → EntityKind
kind_of (updates.Facility update) = kinds.Facility
kind_of (updates.Queue update) = kinds.Queue
kind_of (updates.Storage update) = kinds.Storage
kind_of (updates.Savevalue to) = kinds.Savevalue
kind_of (updates.Switch set) = kinds.Switch
kind_of (updates.Table value) = kinds.Table

-- the transactions of those who wait
abbrev pub transactions_of : List Waiter → List Transaction
transactions_of [] = []
transactions_of (w ∷ ws) = w.transaction ∷ transactions_of ws

-- What a move wants before it is made. (Our own.)
use Rattle.std.specs.Prelude.{◌≡◌, ℕ, ◌<◌, Option, None, Some}
use Rattle.gw_meaning.specs.declared.moves.Arrival.{Arrival}
use Rattle.gw_meaning.specs.declared.moves.Change.{Change}
use Rattle.gw_meaning.specs.declared.moves.Change.TheVariants as changes
use Rattle.gw_meaning.specs.declared.moves.Fate.{Fate}
use Rattle.gw_meaning.specs.declared.moves.Fate.TheVariants as fates
use Rattle.gw_meaning.specs.declared.moves.Move.{Move}
use Rattle.gw_meaning.specs.declared.moves.Move.TheVariants as moves
use Rattle.gw_meaning.specs.Machine.{Machine}
use Rattle.gw_meaning.specs.Changes.{moved, written, woken}
use Rattle.gw_meaning.specs.Step.{least_time}

-- a block that sends its transaction away changes nothing else
abbrev pub IsAlone : Change → Fate → Type 0
IsAlone change fates.Active = Unit {0}
IsAlone change fate = change ≡ changes.Nothing

-- a change that sends other transactions to a block
abbrev pub IsSending : Change → Type 0
IsSending (changes.Split count to) = Unit {0}
IsSending (changes.Unlink key count to) = Unit {0}
IsSending change = ⊥

-- each move that is decided is such: the clock moves on to the least time of the future chain
abbrev pub IsMade : Machine → Move → Type 0
IsMade s (moves.Enter id change fate) = IsAlone change fate
IsMade s (moves.Clock time) = least_time s.future ≡ Some time
IsMade s move = Unit {0}

-- a transaction entered a block, and those woke who waited for something that this wrote
abbrev pub HasEntered : ℕ → Change → Fate → Machine → Machine → Type 0
HasEntered id change fate s new =
    new ≡ woken (written s (moves.Enter id change fate)) (moved s (moves.Enter id change fate))

-- there is room for the transaction that a GENERATE makes, if any
abbrev pub HasRoomToCreate : Option Arrival → ℕ → ℕ → Type 0
HasRoomToCreate None future limit = Unit {0}
HasRoomToCreate (Some arrival) future limit = (0 < future) × (arrival.id < limit)

-- What a run reads: the items of each of its steps, and the first step that uses an item. (Our own.)
use Rattle.std.specs.Prelude.{ℕ, zero, suc, Bool, false, List, [], Option, Some, None, Result, Ok, Err, if◌then◌else◌, nat_lt, nat_le}
use Rattle.std.specs.List.{list_any}
use Rattle.gw_meaning.specs.declared.item.Asked.{Asked}
use Rattle.gw_meaning.specs.declared.item.Item.{Item}
use Rattle.gw_meaning.specs.declared.item.Item.TheVariants as items
use Rattle.gw_expr.specs.declared.halt.End.{End}
use Rattle.gw_meaning.specs.contracts.item.AskedPartialEq.TheImpl as asking
use Rattle.gw_meaning.specs.contracts.item.ItemPartialEq.TheImpl as comparison
use Rattle.gw_meaning.specs.Listing.{Listing}
use Rattle.gw_meaning.specs.Machine.{Machine}
use Rattle.gw_meaning.specs.Step.{step_items, run}

-- the items that the step from a state reads; none where the run ended before
abbrev pub read_from : Listing → ℕ → Result Machine End → List Item
read_from t seed (Ok s) = step_items t seed s
read_from t seed (Err end) = []

-- the items that step n of the run from zero reads
abbrev pub reads : Listing → ℕ → ℕ → List Item
reads t seed n = read_from t seed (run t seed n)

-- whether the same is asked, and whether two items are one, as the code tells
abbrev pub same_asked : Asked → Asked → Bool
same_asked = asking.ghosts.eq

abbrev pub same_item : Item → Item → Bool
same_item = comparison.ghosts.eq

-- whether an item is used where another is read: it is that item; a time is used by each clock step to a later one
abbrev pub is_use : Item → Item → Bool
is_use (items.Within time) (items.Within other) = nat_lt time other
is_use item other = same_item other item

-- whether the i-th command or one after it is read
abbrev pub is_command_use : ℕ → Item → Bool
is_command_use i (items.Cmd j) = nat_le i j
is_command_use i other = false

-- the earlier of two steps, where the second is the later one
abbrev pub or_later : Option ℕ → Option ℕ → Option ℕ
or_later None later = later
or_later (Some n) later = Some n

-- the first step below n that reads an item with a property
abbrev pub first_reading : (Item → Bool) → Listing → ℕ → ℕ → Option ℕ
first_reading p t seed zero = None
first_reading p t seed (suc n) =
    or_later (first_reading p t seed n) (if list_any p (reads t seed n) then Some n else None)

-- the first step below n that uses an item
abbrev pub first_use : Item → Listing → ℕ → ℕ → Option ℕ
first_use item = first_reading (is_use item)

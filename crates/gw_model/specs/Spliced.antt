-- The one way in which a version's statements become others: at a place the statement there is deleted, or
-- stays, and another one is inserted, or none. (Our own.)
use Rattle.std.specs.Prelude.{ℕ, ◌+◌, ◌-◌, Bool, List, [], ◌∷◌, ◌++◌, Option, Some, None, if◌then◌else◌, take, drop, max}
use Rattle.gw_meaning.specs.declared.statement.Statement.{Statement}
use Rattle.gw_meaning.specs.declared.statement.Numbered.{Numbered}
use Rattle.gw_meaning.specs.Listing.{Listing, nth}

-- the greatest id of these statements, 0 where there are none
abbrev pub greatest_number : List Numbered → ℕ
greatest_number [] = 0
greatest_number (line ∷ lines) = max line.number (greatest_number lines)

-- the id of the inserted statement: that of the deleted one, else the one above all that are there
abbrev pub number_in : List Numbered → Option Numbered → ℕ
number_in lines None = greatest_number lines + 1
number_in lines (Some deleted) = deleted.number

-- the inserted statement, with its id
abbrev pub inserted : ℕ → Option Statement → List Numbered
inserted number None = []
inserted number (Some statement) = record { number = number; statement = statement } ∷ []

-- the statements after a splice at a place, from 1
abbrev pub spliced : List Numbered → ℕ → Bool → Option Statement → List Numbered
spliced lines place deletes inserts =
    take (place - 1) lines
    ++ inserted (number_in lines (if deletes then nth lines place else None)) inserts
    ++ drop (if deletes then place else place - 1) lines

-- the version with them
abbrev pub with_splice : Listing → ℕ → Bool → Option Statement → Listing
with_splice t place deletes inserts = record t { lines = spliced t.lines place deletes inserts }

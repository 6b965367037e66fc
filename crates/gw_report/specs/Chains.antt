-- The lines of the chains: a transaction's, and the future chain in order of time. (Manual; that equal times stand in
-- the order of coming is our own.)
use Rattle.std.specs.Prelude.{ℕ, List, [], ◌∷◌, ◌++◌, Option, Some, None, map, decimal, if◌then◌else◌, nat_le, option_to_list, option_and_then, unwrap_or, codes}
use Rattle.gw_meaning.specs.Listing.{Listing, position_at, after_at}
use Rattle.gw_meaning.specs.Machine.{Machine}
use Rattle.gw_meaning.specs.declared.transaction.Transaction.{Transaction}
use Rattle.gw_meaning.specs.declared.transaction.Event.{Event}
use Rattle.gw_report.specs.declared.column.Side.TheVariants.{Right}
use Rattle.gw_report.specs.Layout.{Column, section_of}
use Rattle.gw_report.specs.Cells.{signed}

-- the position of a block, and 0 where there is none
unfoldable pub position_of : Listing → Option ℕ → ℕ
position_of t number = unwrap_or (option_and_then (position_at t) number) 0

-- the block that a transaction goes to next: its destination, or else the block after its own
abbrev pub next_number : Listing → Transaction → Option ℕ → Option ℕ
next_number t x None = after_at t x.current
next_number t x (Some id) = Some id

-- a transaction's line; `time` is its mark time, or the time at which it moves on
unfoldable pub line_of : Listing → ℕ → Transaction → List (List ℕ)
line_of t time x =
    decimal x.number ∷ signed x.priority ∷ decimal time ∷ decimal (position_of t (Some x.current)) ∷
    decimal (position_of t (next_number t x x.destination)) ∷ []

-- one in front of the first that is not sooner
abbrev pub put_by : {X : Type 0} → (X → ℕ) → X → List X → List X
put_by time x [] = x ∷ []
put_by time x (y ∷ ys) = if nat_le (time x) (time y) then x ∷ y ∷ ys else y ∷ put_by time x ys

-- by time, and at equal times in the order of coming
abbrev pub ordered_by : {X : Type 0} → (X → ℕ) → List X → List X
ordered_by time [] = []
ordered_by time (x ∷ xs) = put_by time x (ordered_by time xs)

abbrev pub by_time : List Event → List Event
by_time = ordered_by (λ (e : Event). e.time)

-- the columns of the current chain, and of the future chain
abbrev pub current_columns : List Column
current_columns =
    record { title = codes "CEC XN"; width = 8; side = Right } ∷
    record { title = codes "PRI"; width = 11; side = Right } ∷
    record { title = codes "M1"; width = 10; side = Right }
    ∷ record { title = codes "CURRENT"; width = 7; side = Right } ∷
    record { title = codes "NEXT"; width = 7; side = Right } ∷ []

abbrev pub future_columns : List Column
future_columns =
    record { title = codes "FEC XN"; width = 8; side = Right } ∷
    record { title = codes "PRI"; width = 11; side = Right } ∷
    record { title = codes "BDT"; width = 10; side = Right }
    ∷ record { title = codes "CURRENT"; width = 7; side = Right } ∷
    record { title = codes "NEXT"; width = 7; side = Right } ∷ []

-- the line of a transaction that waits for its turn now, and of one on the future chain
abbrev pub current_line : Listing → Transaction → List (List ℕ)
current_line t x = line_of t x.mark x

abbrev pub future_line : Listing → Event → List (List ℕ)
future_line t e = line_of t e.time e.transaction

-- the active transaction and the current chain
unfoldable pub current_text : Listing → Machine → List ℕ
current_text t s = section_of current_columns (map (current_line t) (option_to_list s.active ++ s.current))

-- the future chain
unfoldable pub future_text : Listing → Machine → List ℕ
future_text t s = section_of future_columns (map (future_line t) (by_time s.future))

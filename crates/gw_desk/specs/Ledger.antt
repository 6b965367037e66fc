-- The ledger of a list of events: what the desk holds, and the leg of each worker, if he has one. (Our own.)
use Rattle.std.specs.Prelude.{ℕ, ◌-◌, Bool, ◌&&◌, List, Option, Some, None, if◌then◌else◌, nat_le, slice_get, slice_set}
use Rattle.std.specs.Prelude.{replicate}
use Rattle.gw_desk.specs.Book.{Book}
use Rattle.gw_desk.specs.Legs.{Leg}

-- the legs of workers 1 to 16, in order
pub record Ledger : Type 0 where
  pub book : Book
  pub legs : List (Option Leg)

-- nobody has a leg
abbrev pub begun : Book → Ledger
begun b = record { book = b; legs = replicate 16 None }

abbrev pub is_worker : ℕ → Bool
is_worker w = nat_le 1 w && nat_le w 16

-- where it lies, if there is such a worker
abbrev pub place_of : ℕ → Option ℕ
place_of w = if is_worker w then Some (w - 1) else None

-- the leg of a worker, if there is such a worker and he has one
abbrev pub the_leg : Option (Option Leg) → Option Leg
the_leg None = None
the_leg (Some leg) = leg

abbrev pub leg_of : Ledger → ℕ → Option Leg
leg_of a w = if is_worker w then the_leg (slice_get a.legs (w - 1)) else None

-- the legs where a worker has this one, or none
abbrev pub with_leg : ℕ → Option Leg → List (Option Leg) → List (Option Leg)
with_leg w leg legs = slice_set legs (w - 1) leg

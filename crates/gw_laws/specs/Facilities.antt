-- The facilities, over every run from zero. (Our own: the bounds.)
use Rattle.std.specs.Prelude.{◌≡◌, ℕ, ◌≤◌, Option, Some, None, Ok, All}
use Rattle.gw_names.specs.declared.key.Key.{Key}
use Rattle.gw_meaning.specs.Records.{Ownership}
use Rattle.gw_meaning.specs.Listing.{Listing}
use Rattle.gw_meaning.specs.Machine.{Machine}
use Rattle.gw_meaning.specs.Step.{run}

-- 1 where there is an owner
abbrev pub owners : Option ℕ → ℕ
owners None = 0
owners (Some number) = 1

-- there are no more captures than steps, so no count ever stood still at its greatest value; the content is 1 while it
-- is owned, and it was owned for no longer than the clock has run; and it did not change later than now
pub record IsUsed (clock steps : ℕ) (f : Ownership) : Type 0 where
  pub captures : f.captures ≤ steps
  pub content : f.level.content ≡ owners f.owner
  pub sum : f.level.sum ≤ f.level.at
  pub at : f.level.at ≤ clock

abbrev pub FacilitiesAreUsed : Type 0
FacilitiesAreUsed =
    (t : Listing) (seed n : ℕ) (s : Machine) → run t seed n ≡ Ok s →
    All (λ (f : Key × Ownership). IsUsed s.clock n f.1) s.entities.facilities

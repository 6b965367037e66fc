-- Who owns a facility over every run from zero. (Manual: SEIZE and RELEASE.)
use Rattle.std.specs.Prelude.{◌≡◌, ℕ, suc, ◌⊎◌, Some, None, Ok}
use Rattle.gw_names.specs.declared.key.Key.{Key}
use Rattle.gw_meaning.specs.Entities.{facility_at}
use Rattle.gw_meaning.specs.Listing.{Listing}
use Rattle.gw_meaning.specs.Machine.{Machine, delay_at}
use Rattle.gw_meaning.specs.Step.{first_number, run}
use Rattle.gw_laws.specs.Living.{IsActive}
use Rattle.gw_laws.specs.Anew.{IsNoClear}

-- nobody but its owner gives a facility back: where it has another owner after a step, or none, the one that it had
-- was the active transaction, unless a CLEAR takes all facilities away; a RESET leaves their owners
abbrev pub OnlyTheOwnerGivesBack : Type 0
OnlyTheOwnerGivesBack =
    (t : Listing) (seed n : ℕ) (s v : Machine) → run t seed n ≡ Ok s → run t seed (suc n) ≡ Ok v → IsNoClear t s →
    (key : Key) (number : ℕ) → (facility_at s.entities key).owner ≡ Some number →
    ((facility_at v.entities key).owner ≡ Some number) ⊎ IsActive s number

-- a facility that is given back goes to the first that waits for it, and is free where nobody does; after a CLEAR all
-- are free
abbrev pub TheFirstIsGivenIt : Type 0
TheFirstIsGivenIt =
    (t : Listing) (seed n : ℕ) (s v : Machine) → run t seed n ≡ Ok s → run t seed (suc n) ≡ Ok v → IsNoClear t s →
    (key : Key) (number : ℕ) → (facility_at s.entities key).owner ≡ Some number →
    ((facility_at v.entities key).owner ≡ Some number) ⊎
    ((facility_at v.entities key).owner ≡ first_number (delay_at s.delays key))

-- nobody but the active transaction takes a facility that was free before the step
abbrev pub OnlyTheActiveTakes : Type 0
OnlyTheActiveTakes =
    (t : Listing) (seed n : ℕ) (s v : Machine) → run t seed n ≡ Ok s → run t seed (suc n) ≡ Ok v →
    (key : Key) (number : ℕ) → (facility_at s.entities key).owner ≡ None →
    (facility_at v.entities key).owner ≡ Some number → IsActive s number

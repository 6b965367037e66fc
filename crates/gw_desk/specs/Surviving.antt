-- What later edits leave of a leg's run: what is left of it where it lives through all of them, and nothing where it
-- dies of one. (Our own.)
use Rattle.std.specs.Prelude.{◌≡◌, ℕ, Bool, true, false, List, Option, Some, None}
use Rattle.gw_meaning.specs.Listing.{Listing, seed_at}
use Rattle.gw_meaning.specs.declared.edit.Edit.{Edit}
use Rattle.gw_record.specs.Tape.{Tape, Records}
use Rattle.gw_desk.specs.Legs.{Leg}
use Rattle.gw_desk.specs.Fates.{Lasts, Lives, Dies, IsDead}

-- through one edit, told of a run that is one
abbrev pub Passes : Listing → Edit → ℕ → Tape → Listing → Tape → Bool → Type 0
Passes t e rep r u s true = Lasts t e u rep r s
Passes t e rep r u s false =
    (seed : ℕ) → seed_at t rep ≡ Some seed → Records t seed r → (w : Listing) × Dies t e w rep r

-- through all of them
abbrev pub Survives : Listing → List Edit → ℕ → Tape → Listing → Tape → Bool → Type 0
Survives t later rep r u s true = Lives t later rep r u s
Survives t later rep r u s false = (seed : ℕ) → seed_at t rep ≡ Some seed → Records t seed r → IsDead t later rep r

-- what later edits leave of a leg's run: none where it dies of one of them
abbrev pub Leaves : Leg → List Edit → Option Tape → Type 0
Leaves l later None = IsDead l.version later l.replication l.run
Leaves l later (Some left) = (w : Listing) × Lives l.version later l.replication l.run w left

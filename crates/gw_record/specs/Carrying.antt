-- When the record of one version's run is that of another's. (Our own.)
use Rattle.std.specs.Prelude.{◌≡◌, ℕ, ◌<◌}
use Rattle.gw_meaning.specs.Listing.{Listing}
use Rattle.gw_meaning.specs.Reads.{reads}
use Rattle.gw_frame.specs.Alike.{AnswersAlike}
use Rattle.gw_record.specs.Tape.{Tape, Records}

-- a version with the same step limit that answers alike all that the steps below the tip read has this very record
abbrev pub Carries : Tape → Type 0
Carries r =
    (t : Listing) (seed : ℕ) (u : Listing) (new_seed : ℕ) → Records t seed r → u.limit ≡ t.limit →
    ((j : ℕ) → j < r.moment → AnswersAlike t seed u new_seed (reads t seed j)) → Records u new_seed r

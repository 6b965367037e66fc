-- The seed is read just where a stream draws first: a stream that is set goes by the seed at its first draw, and from
-- there on by the number that it drew. (Our own.)
use Rattle.std.specs.Prelude.{ℕ, suc, ◌≡◌, Bool, false, not, ◌&&◌, ◌||◌, List, ◌∷◌, Ok}
use Rattle.std.specs.List.{list_any}
use Rattle.gw_streams.specs.declared.stream.Stream.{Stream}
use Rattle.gw_streams.specs.Draws.{is_set}
use Rattle.gw_meaning.specs.declared.item.Item.TheVariants as items
use Rattle.gw_meaning.specs.Listing.{Listing}
use Rattle.gw_meaning.specs.Machine.{Machine}
use Rattle.gw_meaning.specs.Step.{run}
use Rattle.gw_meaning.specs.Reads.{reads, is_use}

-- whether one of these streams was set before, and is no longer
abbrev pub draws_first : List Stream → List Stream → Bool
draws_first (b ∷ before) (a ∷ after) = (is_set b && not (is_set a)) || draws_first before after
draws_first before after = false

-- so it is of every step of every run
abbrev pub SeedIsReadAtFirstDraws : Type 0
SeedIsReadAtFirstDraws =
    (t : Listing) (seed n : ℕ) (s v : Machine) → run t seed n ≡ Ok s → run t seed (suc n) ≡ Ok v →
    list_any (is_use items.Seed) (reads t seed n) ≡ draws_first s.streams v.streams

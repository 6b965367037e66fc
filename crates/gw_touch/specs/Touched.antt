-- The first step of a recorded run that read something touched, and how far the run goes back for it. (Our own.)
use Rattle.std.specs.Prelude.{◌≡◌, ℕ, ◌<◌, List, Option, Some, None}
use Rattle.gw_meaning.specs.Listing.{Listing}
use Rattle.gw_meaning.specs.Reads.{first_reading}
use Rattle.gw_record.specs.Tape.{Tape, IsLastKept}
use Rattle.gw_touch.specs.declared.touch.Probe.{Probe}
use Rattle.gw_touch.specs.Touching.{is_touched}

abbrev pub touched_step : List Probe → Listing → ℕ → Tape → Option ℕ
touched_step probes t seed r = first_reading (is_touched probes) t seed r.moment

-- how many steps are kept: all of them where nothing was touched
abbrev pub IsKeptOf : Listing → ℕ → Tape → Option ℕ → ℕ → Type 0
IsKeptOf t seed r None n = n ≡ r.moment
IsKeptOf t seed r (Some step) n = IsLastKept t seed r step n

-- the first step that read something touched comes before the start
abbrev pub IsBefore : ℕ → Option ℕ → Type 0
IsBefore start None = ⊥
IsBefore start (Some step) = step < start

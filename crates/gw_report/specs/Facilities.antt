-- The lines of facilities: how often each was taken, its averages, who owns it and how many wait for it. (Manual;
-- AVAIL. is 1, and PEND and INTER are 0.)
use Rattle.std.specs.Prelude.{ℕ, ◌-◌, List, [], ◌∷◌, map, length, decimal, codes, unwrap_or}
use Rattle.gw_names.specs.declared.key.Key.{Key}
use Rattle.gw_meaning.specs.Levels.{sum_up_to}
use Rattle.gw_meaning.specs.Records.{Ownership}
use Rattle.gw_meaning.specs.declared.watched.EntityKind.TheVariants as kinds
use Rattle.gw_meaning.specs.declared.watched.Watched.TheVariants as watched
use Rattle.gw_meaning.specs.Changes.{retries}
use Rattle.gw_meaning.specs.Machine.{Machine, delay_at}
use Rattle.gw_report.specs.declared.column.Side.TheVariants.{Left, Right}
use Rattle.gw_report.specs.Layout.{Column, section_of}
use Rattle.gw_report.specs.Entities.{key_text, average}

abbrev pub facility_columns : List Column
facility_columns =
    record { title = codes "FACILITY"; width = 10; side = Left } ∷
    record { title = codes "ENTRIES"; width = 8; side = Right } ∷
    record { title = codes "UTIL."; width = 8; side = Right }
    ∷ record { title = codes "AVE. TIME"; width = 11; side = Right } ∷
    record { title = codes "AVAIL."; width = 6; side = Right } ∷
    record { title = codes "OWNER"; width = 7; side = Right }
    ∷ record { title = codes "PEND"; width = 4; side = Right } ∷
    record { title = codes "INTER"; width = 5; side = Right } ∷
    record { title = codes "RETRY"; width = 5; side = Right } ∷
    record { title = codes "DELAY"; width = 5; side = Right } ∷ []

-- a facility's line, by the time for which it was owned, the relative clock, how many wait for a change and how many on
-- its delay chain: the averages are over
-- the time and the captures; the owner is 0 where there is none
abbrev pub facility_row : ℕ → ℕ → ℕ → ℕ → Key → Ownership → List (List ℕ)
facility_row sum time retry delayed key f =
    key_text key ∷ decimal f.captures ∷ average sum time ∷ average sum f.captures ∷ decimal 1 ∷
    decimal (unwrap_or f.owner 0) ∷ decimal 0 ∷ decimal 0 ∷ decimal retry ∷ decimal delayed ∷ []

unfoldable pub facility_line : Machine → Key × Ownership → List (List ℕ)
facility_line s f =
    facility_row (sum_up_to f.1.level s.clock) (s.clock - s.since) (retries s (watched.Entity kinds.Facility f.0))
    (length (delay_at s.delays f.0)) f.0 f.1

-- the facilities, in order of first touch
unfoldable pub facilities_text : Machine → List ℕ
facilities_text s = section_of facility_columns (map (facility_line s) s.entities.facilities)

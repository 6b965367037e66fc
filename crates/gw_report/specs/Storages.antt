-- The lines of storages: how many units each has, how many are in use and came into use, its averages, and how many
-- wait for it. (Manual; AVL. is 1.)
use Rattle.std.specs.Prelude.{ℕ, ◌-◌, ◌*◌, List, [], ◌∷◌, map, length, decimal, codes}
use Rattle.gw_names.specs.declared.key.Key.{Key}
use Rattle.gw_meaning.specs.Levels.{sum_up_to}
use Rattle.gw_meaning.specs.Records.{Store}
use Rattle.gw_meaning.specs.declared.watched.EntityKind.TheVariants as kinds
use Rattle.gw_meaning.specs.declared.watched.Watched.TheVariants as watched
use Rattle.gw_meaning.specs.Changes.{retries}
use Rattle.gw_meaning.specs.Machine.{Machine, delay_at}
use Rattle.gw_report.specs.declared.column.Side.TheVariants.{Left, Right}
use Rattle.gw_report.specs.Layout.{Column, section_of}
use Rattle.gw_report.specs.Entities.{key_text, average}
use Rattle.gw_names.specs.declared.key.Key.TheVariants.{Defined}
use Rattle.gw_meaning.specs.Listing.{Listing, capacity_at}

abbrev pub storage_columns : List Column
storage_columns =
    record { title = codes "STORAGE"; width = 10; side = Left } ∷
    record { title = codes "CAP."; width = 8; side = Right } ∷
    record { title = codes "REM."; width = 8; side = Right }
    ∷ record { title = codes "MIN."; width = 8; side = Right } ∷
    record { title = codes "MAX."; width = 8; side = Right } ∷
    record { title = codes "ENTRIES"; width = 8; side = Right }
    ∷ record { title = codes "AVL."; width = 4; side = Right } ∷
    record { title = codes "AVE.C."; width = 11; side = Right } ∷
    record { title = codes "UTIL."; width = 8; side = Right } ∷
    record { title = codes "RETRY"; width = 5; side = Right } ∷
    record { title = codes "DELAY"; width = 5; side = Right } ∷ []

-- how many units a version gives a storage
abbrev pub units_of : Listing → Key → ℕ
units_of t (Defined name) = capacity_at t name
units_of t key = 0

-- a storage's line, by its units, the sum of its content over time, the relative clock, how many wait for a change and
-- how many on its delay chain: the averages are over the time, and over all its units all the time
abbrev pub storage_row : ℕ → ℕ → ℕ → ℕ → ℕ → Key → Store → List (List ℕ)
storage_row capacity sum time retry delayed key s =
    key_text key ∷ decimal capacity ∷ decimal (capacity - s.level.content) ∷ decimal s.least ∷ decimal s.greatest ∷
    decimal s.entries ∷ decimal 1 ∷ average sum time ∷ average sum (capacity * time) ∷ decimal retry ∷ decimal delayed ∷ []

unfoldable pub storage_line : Listing → Machine → Key × Store → List (List ℕ)
storage_line t s e =
    storage_row (units_of t e.0) (sum_up_to e.1.level s.clock) (s.clock - s.since)
    (retries s (watched.Entity kinds.Storage e.0)) (length (delay_at s.delays e.0)) e.0 e.1

-- the storages, in order of first touch
unfoldable pub storages_text : Listing → Machine → List ℕ
storages_text t s = section_of storage_columns (map (storage_line t s) s.entities.storages)

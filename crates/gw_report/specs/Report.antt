-- The standard report of one START of one replication. (Manual: the sections. Our own: the first line.)
use Rattle.std.specs.Prelude.{ℕ, List, [], ◌∷◌, ◌++◌, decimal, codes, length, filter, unwrap_or}
use Rattle.gw_expr.specs.Stops.{number_of}
use Rattle.gw_meaning.specs.Listing.{Listing, is_block, seed_at}
use Rattle.gw_meaning.specs.Machine.{Machine}
use Rattle.gw_meaning.specs.declared.item.Outcome.{Outcome}
use Rattle.gw_meaning.specs.declared.item.Outcome.TheVariants.{Complete, Horizon, Dry, Error}
use Rattle.gw_report.specs.declared.column.Side.TheVariants.{Right}
use Rattle.gw_report.specs.Layout.{Column, table_of}
use Rattle.gw_report.specs.Names.{names_text}
use Rattle.gw_report.specs.Blocks.{blocks_text}
use Rattle.gw_report.specs.Facilities.{facilities_text}
use Rattle.gw_report.specs.Queues.{queues_text}
use Rattle.gw_report.specs.Storages.{storages_text}
use Rattle.gw_report.specs.Tables.{tables_text}
use Rattle.gw_report.specs.Chains.{current_text, future_text}

-- how the run of a START stands, as a word; a stop with its number after an X
unfoldable pub outcome_text : Outcome → List ℕ
outcome_text Complete = codes "COMPLETE"
outcome_text Horizon = codes "HORIZON"
outcome_text Dry = codes "DRY"
outcome_text (Error stop) = codes "ERROR X" ++ decimal (number_of stop)

-- the seed of a replication
unfoldable pub seed_of : Listing → ℕ → ℕ
seed_of t rep = unwrap_or (seed_at t rep) 0

-- a word and a number
unfoldable pub field_text : List ℕ → ℕ → List ℕ
field_text word number = word ++ decimal number

-- the first line: which replication it is, its seed, which START it is, and how that stands
unfoldable pub title_text : ℕ → ℕ → ℕ → Outcome → List ℕ
title_text rep seed k outcome =
    field_text (codes "REPLICATION ") rep ++ field_text (codes " SEED ") seed ++ field_text (codes " START ") k ++
    32 ∷ outcome_text outcome ++ 10 ∷ []

-- the columns of the head
abbrev pub head_columns : List Column
head_columns =
    record { title = codes "START TIME"; width = 10; side = Right } ∷
    record { title = codes "END TIME"; width = 10; side = Right } ∷
    record { title = codes "BLOCKS"; width = 10; side = Right }
    ∷ record { title = codes "FACILITIES"; width = 10; side = Right } ∷
    record { title = codes "STORAGES"; width = 10; side = Right } ∷ []

-- the head: from when to when, and how much there is
unfoldable pub head_text : Listing → Machine → List ℕ
head_text t s = table_of head_columns ((decimal s.since ∷ decimal s.clock ∷ decimal (length (filter is_block t.lines)) ∷
    decimal (length s.entities.facilities) ∷ decimal (length s.entities.storages) ∷ []) ∷ [])

-- the whole report, section after section
unfoldable pub text_of : Listing → ℕ → ℕ → Machine → Outcome → List ℕ
text_of t rep k s outcome = title_text rep (seed_of t rep) k outcome ++ head_text t s ++ names_text t ++
    blocks_text t s ++ facilities_text s ++ queues_text s ++ storages_text t s ++ tables_text t s ++
    current_text t s ++ future_text t s

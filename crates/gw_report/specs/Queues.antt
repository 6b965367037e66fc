-- The lines of queues: what each holds and counted, and its averages. (Manual.)
use Rattle.std.specs.Prelude.{ℕ, ◌-◌, List, [], ◌∷◌, map, decimal, codes}
use Rattle.gw_names.specs.declared.key.Key.{Key}
use Rattle.gw_meaning.specs.Levels.{sum_up_to}
use Rattle.gw_meaning.specs.Records.{Line}
use Rattle.gw_meaning.specs.declared.watched.EntityKind.TheVariants as kinds
use Rattle.gw_meaning.specs.declared.watched.Watched.TheVariants as watched
use Rattle.gw_meaning.specs.Changes.{retries}
use Rattle.gw_meaning.specs.Machine.{Machine}
use Rattle.gw_report.specs.declared.column.Side.TheVariants.{Left, Right}
use Rattle.gw_report.specs.Layout.{Column, section_of}
use Rattle.gw_report.specs.Entities.{key_text, average}

abbrev pub queue_columns : List Column
queue_columns =
    record { title = codes "QUEUE"; width = 10; side = Left } ∷
    record { title = codes "MAX"; width = 8; side = Right } ∷
    record { title = codes "CONT."; width = 8; side = Right }
    ∷ record { title = codes "ENTRY"; width = 8; side = Right } ∷
    record { title = codes "ENTRY(0)"; width = 8; side = Right } ∷
    record { title = codes "AVE.CONT."; width = 11; side = Right }
    ∷ record { title = codes "AVE.TIME"; width = 11; side = Right } ∷
    record { title = codes "AVE.(-0)"; width = 11; side = Right } ∷
    record { title = codes "RETRY"; width = 5; side = Right } ∷ []

-- a queue's line, by the sum of its content over time, the relative clock and how many wait for a change: the averages are over the time, the
-- entries, and the entries that are not zero entries
abbrev pub queue_row : ℕ → ℕ → ℕ → Key → Line → List (List ℕ)
queue_row sum time retry key q =
    key_text key ∷ decimal q.greatest ∷ decimal q.level.content ∷ decimal q.entries ∷ decimal q.zero_entries ∷
    average sum time ∷ average sum q.entries ∷ average sum (q.entries - q.zero_entries) ∷ decimal retry ∷ []

unfoldable pub queue_line : Machine → Key × Line → List (List ℕ)
queue_line s q =
    queue_row (sum_up_to q.1.level s.clock) (s.clock - s.since) (retries s (watched.Entity kinds.Queue q.0)) q.0 q.1

-- the queues, in order of first touch
unfoldable pub queues_text : Machine → List ℕ
queues_text s = section_of queue_columns (map (queue_line s) s.entities.queues)

-- What facilities, queues and storages keep, and what a block that is entered does to it. (Manual; that a count stays
-- at its greatest value is our own.)
use Rattle.std.specs.Prelude.{ℕ, ◌+◌, ◌-◌, ◌^◌, Bool, Option, Some, None, if◌then◌else◌, min, max}
use Rattle.gw_meaning.specs.Levels.{Course, at_first, changed, restarted}

-- a count of 64 bits: it stays at its greatest value
abbrev pub capped : ℕ → ℕ
capped n = min n (2 ^ 64 - 1)

-- a facility: its content is 1 while it is owned
pub record Ownership : Type 0 where
  -- the number of the transaction that owns it
  pub owner : Option ℕ
  pub captures : ℕ
  pub level : Course

abbrev pub never_owned : Ownership
never_owned = record { owner = None; captures = 0; level = at_first }

-- a transaction becomes its owner, whoever owned it before
abbrev pub seized : ℕ → ℕ → Ownership → Ownership
seized number clock f =
    record { owner = Some number; captures = capped (f.captures + 1); level = changed 1 clock f.level }

-- nobody owns it
abbrev pub released : ℕ → Ownership → Ownership
released clock f = record { owner = None; captures = f.captures; level = changed 0 clock f.level }

-- counted anew: whoever owns it goes on, and is no capture
abbrev pub facility_anew : ℕ → Ownership → Ownership
facility_anew clock f = record { owner = f.owner; captures = 0; level = restarted clock f.level }

-- a queue
pub record Line : Type 0 where
  -- units that came
  pub entries : ℕ
  -- units of departs at the clock at which their transaction last came
  pub zero_entries : ℕ
  pub greatest : ℕ
  pub level : Course

abbrev pub no_line : Line
no_line = record { entries = 0; zero_entries = 0; greatest = 0; level = at_first }

-- so many units come
abbrev pub queued : ℕ → ℕ → Line → Line
queued units clock q = record {
  entries = capped (q.entries + units);
  zero_entries = q.zero_entries;
  greatest = max q.greatest (capped (q.level.content + units));
  level = changed (capped (q.level.content + units)) clock q.level;
}

-- so many units go, at most all; `zero`: at the clock at which their transaction last came
abbrev pub departed : ℕ → ℕ → Bool → Line → Line
departed units clock zero q = record {
  entries = q.entries;
  zero_entries = if zero then capped (q.zero_entries + units) else q.zero_entries;
  greatest = q.greatest;
  level = changed (q.level.content - units) clock q.level;
}

-- counted anew: what stands in it stays, and is no entry
abbrev pub queue_anew : ℕ → Line → Line
queue_anew clock q = record {
  entries = 0;
  zero_entries = 0;
  greatest = q.level.content;
  level = restarted clock q.level;
}

-- a storage; its content are the units in use
pub record Store : Type 0 where
  -- units that came into use
  pub entries : ℕ
  pub least : ℕ
  pub greatest : ℕ
  pub level : Course

abbrev pub never_used : Store
never_used = record { entries = 0; least = 0; greatest = 0; level = at_first }

-- so many units come into use
abbrev pub entered : ℕ → ℕ → Store → Store
entered units clock s = record {
  entries = capped (s.entries + units);
  least = s.least;
  greatest = max s.greatest (capped (s.level.content + units));
  level = changed (capped (s.level.content + units)) clock s.level;
}

-- so many units are given back, at most all
abbrev pub left : ℕ → ℕ → Store → Store
left units clock s = record {
  entries = s.entries;
  least = min s.least (s.level.content - units);
  greatest = s.greatest;
  level = changed (s.level.content - units) clock s.level;
}

-- counted anew: what is in use stays, and is no entry
abbrev pub storage_anew : ℕ → Store → Store
storage_anew clock s = record {
  entries = 0;
  least = s.level.content;
  greatest = s.level.content;
  level = restarted clock s.level;
}

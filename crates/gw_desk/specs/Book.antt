-- What the desk holds: a version, the edits that were accepted on the way to it, and the recorded run of each of its
-- replications. (Our own.)
use Rattle.std.specs.Prelude.{◌≡◌, ℕ, ◌≤◌, ◌==◌, List, [], ◌∷◌, Option, Some, None, if◌then◌else◌, length, position}
use Rattle.gw_meaning.specs.declared.statement.Replication.{Replication}
use Rattle.gw_meaning.specs.Numbers.{AreNumbered}
use Rattle.gw_meaning.specs.Listing.{Listing, seed_at}
use Rattle.gw_record.specs.Tape.{Tape, Records, blank}
use Rattle.gw_meaning.specs.declared.edit.Edit.{Edit}
use Rattle.gw_edit.specs.Leading.{LeadsTo}
use Rattle.gw_desk.specs.declared.recording.Recording.{Recording}

pub record Book : Type 0 where
  -- the version before the first edit
  pub opening : Listing
  pub version : Listing
  pub every : ℕ
  -- the accepted ones, in order
  pub edits : List Edit
  pub runs : List Recording
  -- the steps that were made
  pub made : ℕ

-- the recorded run of a replication
abbrev pub run_in : List Recording → ℕ → Option Tape
run_in [] number = None
run_in (r ∷ rs) number = if r.number == number then Some r.run else run_in rs number

-- where it stands
abbrev pub place_in : List Recording → ℕ → Option ℕ
place_in runs number = position (λ (r : Recording). r.number == number) runs

-- the run from zero of each replication that there is, with its seed, in a record that starts at 0; and of no other
abbrev pub IsRunOf : Listing → ℕ → Option ℕ → Option Tape → Type 0
IsRunOf t every None None = Unit {0}
IsRunOf t every None (Some r) = ⊥
IsRunOf t every (Some seed) None = ⊥
IsRunOf t every (Some seed) (Some r) = Records t seed r × (r.every ≡ every) × (r.start ≡ 0)

abbrev pub AreRuns : Listing → ℕ → List Recording → Type 0
AreRuns t every runs = (number : ℕ) → IsRunOf t every (seed_at t number) (run_in runs number)

-- no two recordings are of one replication
abbrev pub AreApart : List Recording → Type 0
AreApart [] = Unit {0}
AreApart (r ∷ rs) = (run_in rs r.number ≡ None) × AreApart rs

-- what every desk keeps; so the recordings' numbers are those of the replications, each once
pub record IsBook (b : Book) : Type 0 where
  pub some : 1 ≤ b.every
  pub few : length b.edits ≤ 4096
  pub numbered : AreNumbered b.version.lines
  pub leads : LeadsTo b.opening b.edits b.version
  pub runs : AreRuns b.version b.every b.runs
  pub apart : AreApart b.runs

-- runs of no steps, of these replications
abbrev pub blank_runs : ℕ → List Replication → List Recording
blank_runs every [] = []
blank_runs every (r ∷ rs) = record { number = r.number; run = blank every } ∷ blank_runs every rs

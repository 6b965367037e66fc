-- What an edit leaves of the recorded runs. (Our own.)
use Rattle.std.specs.Prelude.{◌≡◌, ℕ, ◌<◌, List, [], ◌∷◌, ◌++◌, Option, Some, None, length, slice_index_or}
use Rattle.gw_meaning.specs.declared.statement.Replication.{Replication}
use Rattle.gw_meaning.specs.Listing.{Listing}
use Rattle.gw_record.specs.Tape.{Tape, blank}
use Rattle.gw_meaning.specs.declared.edit.Edit.{Edit}
use Rattle.gw_edit.specs.Rebasing.{IsRebased}
use Rattle.gw_desk.specs.declared.recording.Recording.{Recording}
use Rattle.gw_desk.specs.Book.{run_in}

-- a recording after an edit of t to u, whose run starts at 0
pub record IsRebasedRecording (t : Listing) (e : Edit) (u : Listing) (old new : Recording) : Type 0 where
  pub number : new.number ≡ old.number
  pub run : old.run.start ≡ 0 → IsRebased t e u old.number old.run new.run

-- each of the recordings
pub record AreRebased (t : Listing) (e : Edit) (u : Listing) (old new : List Recording) : Type 0 where
  pub count : length new ≡ length old
  pub each : (k : ℕ) (d : Recording) → k < length old →
      IsRebasedRecording t e u (slice_index_or old k d) (slice_index_or new k d)

-- a run of no steps for each of these replications that has none
abbrev pub with_run : ℕ → ℕ → Option Tape → List Recording → List Recording
with_run every number None runs = runs ++ record { number = number; run = blank every } ∷ []
with_run every number (Some r) runs = runs

abbrev pub with_missing : ℕ → List Replication → List Recording → List Recording
with_missing every [] runs = runs
with_missing every (r ∷ rs) runs = with_missing every rs (with_run every r.number (run_in runs r.number) runs)

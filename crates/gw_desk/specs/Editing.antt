-- When the desk accepts an edit and what that leaves of it, for all replications at once: the runs of those that stay,
-- of those that are added, and all else that it holds; and when it refuses. (Our own.)
use Rattle.std.specs.Prelude.{◌≡◌, ℕ, ◌<◌, ◌≤◌, [], ◌∷◌, ◌++◌, length, Some, None, Ok, Err}
use Rattle.gw_meaning.specs.Listing.{seed_at}
use Rattle.gw_record.specs.Tape.{Tape, blank}
use Rattle.gw_meaning.specs.declared.edit.Edit.{Edit}
use Rattle.gw_touch.specs.Touching.{touch_of}
use Rattle.gw_touch.specs.Touched.{touched_step, IsKeptOf}
use Rattle.gw_edit.specs.declared.fault.EditFault.{EditFault}
use Rattle.gw_edit.specs.declared.fault.EditFault.TheVariants as faults
use Rattle.gw_edit.specs.Applied.{applied}
use Rattle.gw_desk.specs.Book.{Book, run_in}

-- the run of a replication that stays: of its steps those are kept that the edit allows
pub record IsCut (old : Book) (e : Edit) (new : Book) (rep seed : ℕ) (r : Tape) : Type 0 where
  pub run : Tape
  pub there : run_in new.runs rep ≡ Some run
  pub every : run.every ≡ r.every
  pub start : run.start ≡ r.start
  pub kept : IsKeptOf old.version seed r (touched_step (touch_of old.version e new.version rep) old.version seed r)
      run.moment

-- an accepted edit, which is the n-th: it is put after those before it
pub record Accepts (old : Book) (e : Edit) (new : Book) (n : ℕ) : Type 0 where
  pub room : length old.edits < 4096
  pub opening : new.opening ≡ old.opening
  pub version : applied old.version e ≡ Ok new.version
  pub edits : new.edits ≡ old.edits ++ e ∷ []
  pub number : n ≡ length new.edits
  pub every : new.every ≡ old.every
  pub made : new.made ≡ old.made
  pub kept : (rep a b : ℕ) (r : Tape) → seed_at old.version rep ≡ Some a → seed_at new.version rep ≡ Some b →
      run_in old.runs rep ≡ Some r → IsCut old e new rep a r
  -- a replication that is added has a run, of no steps
  pub fresh : (rep b : ℕ) → seed_at old.version rep ≡ None → seed_at new.version rep ≡ Some b →
      run_in new.runs rep ≡ Some (blank new.every)

-- a refusal is the first that holds: the desk has 4,096 edits, or the edit's own; out of memory may come in place of
-- any
abbrev pub Refuses : Book → Edit → EditFault → Type 0
Refuses b e faults.HistoryFull = 4096 ≤ length b.edits
Refuses b e faults.Memory = Unit {0}
Refuses b e fault = (length b.edits < 4096) × (applied b.version e ≡ Err fault)

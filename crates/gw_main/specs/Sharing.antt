-- A session over an open model: alone over its desk, or over a seat of a bench, beside workers. (Our own.)
use Rattle.std.specs.Prelude.{◌≡◌, ◌≤◌, ℕ, List, []}
use Rattle.gw_meaning.specs.Listing.{Listing}
use Rattle.gw_meaning.specs.declared.edit.Edit.{Edit}
use Rattle.gw_edit.specs.Leading.{version_of}
use Rattle.gw_desk.specs.Book.{Book}
use Rattle.gw_bench.specs.Telling.{SeatDoes, SeatWorks}
use Rattle.gw_script.specs.declared.fault.Fault.{Fault}
use Rattle.gw_script.specs.declared.fault.Over.{Over}
use Rattle.gw_script.specs.Replying.{Answers, DeskAnswers}
use Rattle.gw_script.specs.Sessions.{Serves, Stops}

-- what may be answered over a seat of a bench with this opening version, whose caller has seen a front of its row
abbrev pub SeatAnswers : Listing → List Edit → ℕ → List ℕ → List ℕ → List Edit → Type 0
SeatAnswers opening = Answers (version_of opening) (SeatDoes opening) (SeatWorks opening)

-- the session came to its end; beside workers its caller has seen nothing of the row where it begins
pub data IsServed {S K : Type 0} (took : S → List ℕ → S → Type 0) (ended : S → Type 0) (reads : S → ℕ)
    (wrote : K → List ℕ → K → Type 0) (writes : K → ℕ) (workers : ℕ) (b : Book) (reader reader' : S) (writer writer' : K)
    (over : Over) : Type 0 where
  alone : workers ≡ 0 → (after : Book) →
      Serves DeskAnswers took ended reads wrote writes b reader reader' writer writer' after over →
      IsServed took ended reads wrote writes workers b reader reader' writer writer' over
  beside : 1 ≤ workers → (after : List Edit) →
      Serves (SeatAnswers b.version) took ended reads wrote writes [] reader reader' writer writer' after over →
      IsServed took ended reads wrote writes workers b reader reader' writer writer' over

-- the session stopped
pub data IsStopped {S K : Type 0} (took : S → List ℕ → S → Type 0) (ended : S → Type 0) (reads : S → ℕ)
    (wrote : K → List ℕ → K → Type 0) (writes : K → ℕ) (workers : ℕ) (b : Book) (reader reader' : S) (writer writer' : K)
    (fault : Fault) : Type 0 where
  alone : workers ≡ 0 → (after : Book) →
      Stops DeskAnswers took ended reads wrote writes b reader reader' writer writer' after fault →
      IsStopped took ended reads wrote writes workers b reader reader' writer writer' fault
  beside : 1 ≤ workers → (after : List Edit) →
      Stops (SeatAnswers b.version) took ended reads wrote writes [] reader reader' writer writer' after fault →
      IsStopped took ended reads wrote writes workers b reader reader' writer writer' fault

-- What the program does with a model on its input: it takes a model off its front, and serves the script that stands
-- after it. (Our own.)
use Rattle.std.specs.Prelude.{◌≡◌, ℕ, List}
use Rattle.gw_io.specs.declared.budget.ReadFault.{ReadFault}
use Rattle.gw_io.specs.Model.{TakesModel, IsModelPart}
use Rattle.gw_io.specs.Reading.{Breaks}
use Rattle.gw_desk.specs.Book.{Book}
use Rattle.gw_script.specs.declared.fault.Fault.{Fault}
use Rattle.gw_script.specs.declared.fault.Over.{Over}
use Rattle.gw_script.specs.declared.opening.Options.{Options}
use Rattle.gw_script.specs.Opening.{Opens, Refuses}
use Rattle.gw_script.specs.Turns.{stopped_by}
use Rattle.gw_main.specs.Sharing.{IsServed, IsStopped}
use Rattle.gw_main.specs.Complaints.{Tells, complaint_of, status_of}

-- a model was taken off the reader, by at most 16,777,216 calls of which none failed; `between` is the moment after it
pub record Takes {S : Type 0} (took : S → List ℕ → S → Type 0) (ended : S → Type 0) (reads : S → ℕ) (reader between : S)
    (model : List ℕ) : Type 0 where
  pub left : ℕ
  pub takes : TakesModel took ended reader between 16777216 left model
  pub uncounted : reads between ≡ reads reader

-- a conversation came to its end: the model was taken and opened, and the session served what stands after it
pub record Converses {S K : Type 0} (took : S → List ℕ → S → Type 0) (ended : S → Type 0) (reads : S → ℕ)
    (wrote : K → List ℕ → K → Type 0) (writes : K → ℕ) (workers : ℕ) (o : Options) (reader reader' : S)
    (writer writer' : K) (over : Over) : Type 0 where
  pub between : S
  pub model : List ℕ
  pub book : Book
  pub taken : Takes took ended reads reader between model
  pub opens : Opens model o book
  pub serves : IsServed took ended reads wrote writes workers book between reader' writer writer' over

-- a conversation stopped: within the model, with nothing written; after a model that is refused, with nothing more
-- read and nothing written; or in the session over the model
pub data Fails {S K : Type 0} (took : S → List ℕ → S → Type 0) (ended : S → Type 0) (reads : S → ℕ)
    (wrote : K → List ℕ → K → Type 0) (writes : K → ℕ) (workers : ℕ) (o : Options) (reader reader' : S)
    (writer writer' : K) (fault : Fault) : Type 0 where
  in_model : (left : ℕ) (cause : ReadFault) → Breaks took reads IsModelPart reader reader' 16777216 left cause →
      fault ≡ stopped_by cause → writer' ≡ writer →
      Fails took ended reads wrote writes workers o reader reader' writer writer' fault
  refused : (model : List ℕ) → Takes took ended reads reader reader' model → Refuses model o fault → writer' ≡ writer →
      Fails took ended reads wrote writes workers o reader reader' writer writer' fault
  in_session : (between : S) (model : List ℕ) (book : Book) → Takes took ended reads reader between model →
      Opens model o book →
      IsStopped took ended reads wrote writes workers book between reader' writer writer' fault →
      Fails took ended reads wrote writes workers o reader reader' writer writer' fault

-- how a run ends whose conversation came to its end, or stopped for a fault: it served the script to its end, and
-- standard error was told nothing; or standard error was told of the fault, and the status is the fault's
pub data Ends {E : Type 0} (told : E → List ℕ → E → Type 0) (losses : E → ℕ) (comes : Over → Type 0)
    (fails : Fault → Type 0) (errors errors' : E) (status : ℕ) : Type 0 where
  served : (over : Over) → comes over → errors' ≡ errors → status ≡ 0 →
      Ends told losses comes fails errors errors' status
  stopped : (fault : Fault) → fails fault → Tells told losses (complaint_of fault) errors errors' →
      status ≡ status_of fault → Ends told losses comes fails errors errors' status

-- a run of the program with its model on standard input
abbrev pub Runs : {S K E : Type 0} → (S → List ℕ → S → Type 0) → (S → Type 0) → (S → ℕ) → (K → List ℕ → K → Type 0) →
    (K → ℕ) → (E → List ℕ → E → Type 0) → (E → ℕ) → ℕ → Options → S → S → K → K → E → E → ℕ → Type 0
Runs took ended reads wrote writes told losses workers o reader reader' writer writer' errors errors' status =
    Ends told losses (Converses took ended reads wrote writes workers o reader reader' writer writer')
    (Fails took ended reads wrote writes workers o reader reader' writer writer') errors errors' status

-- How a conversation over a model file stops: in the session over its model, and for the fault that is told.
use Rattle.std.proofs.Common.{◌≡◌, ℕ, List, ◌⊎◌, inl, inr}
use Rattle.std.specs.Prelude.{Result}
use Rattle.gw_desk.specs.Book.{Book}
use Rattle.gw_io.specs.declared.budget.ReadFault.{ReadFault}
use Rattle.gw_io.specs.declared.budget.ReadFault.TheVariants as causes
use Rattle.gw_lines.specs.declared.fault.FaultyLine.{FaultyLine}
use Rattle.gw_script.specs.declared.fault.Fault.{Fault}
use Rattle.gw_script.specs.declared.fault.Fault.TheVariants as faults
use Rattle.gw_script.specs.declared.opening.Options.{Options}
use Rattle.gw_script.specs.Opening.{Opens, Refuses}
use Rattle.gw_main.specs.Sharing.{IsStopped}
use Rattle.gw_main.proofs.Conversing.{no_faulty_line}
use Rattle.gw_main.specs.Files.{FileFails, TakesFile, in_file, in_session, refused, unopened}

module _ {F S K : Type 0} (took_file : F → List ℕ → F → Type 0) (ended_file : F → Type 0) (reads_file : F → ℕ) (took : S → List ℕ → S → Type 0)
    (ended : S → Type 0) (reads : S → ℕ) (wrote : K → List ℕ → K → Type 0) (writes : K → ℕ) (workers : ℕ) (o : Options)
    (opened : Result F ReadFault) (reader reader' : S) (writer writer' : K) where
  abbrev FailsBy : Fault → Type 0
  FailsBy fault = FileFails took_file ended_file reads_file took ended reads wrote writes workers o opened reader reader' writer writer' fault

  -- a session over the model that was taken stopped
  pub fails_over : (model : List ℕ) (fault : Fault) → TakesFile took_file ended_file reads_file opened model →
      (Refuses model o fault × (reader' ≡ reader) × (writer' ≡ writer)) ⊎
      ((b : Book) × Opens model o b × IsStopped took ended reads wrote writes workers b reader reader' writer writer' fault) → FailsBy fault
  fails_over model fault taken (inl h) = refused model taken h.0 h.1 h.2
  fails_over model fault taken (inr h) = in_session model h.0 taken h.1 h.2

  -- a conversation that stopped for a faulty line stopped, as far as can be said, out of memory
  pub file_fails_of_memory : (faulty : FaultyLine) → FailsBy (faults.Line faulty) → FailsBy faults.Memory
  file_fails_of_memory faulty (unopened causes.Read e is unread unwritten) = absurd cc
  file_fails_of_memory faulty (unopened causes.Limit e is unread unwritten) = absurd cc
  file_fails_of_memory faulty (unopened causes.Memory e is unread unwritten) = absurd cc
  file_fails_of_memory faulty (in_file file behind left causes.Read e breaks is unread unwritten) = absurd cc
  file_fails_of_memory faulty (in_file file behind left causes.Limit e breaks is unread unwritten) = absurd cc
  file_fails_of_memory faulty (in_file file behind left causes.Memory e breaks is unread unwritten) = absurd cc
  file_fails_of_memory faulty (refused model taken refusal unread unwritten) = refused model taken tt unread unwritten
  file_fails_of_memory faulty (in_session model book taken opens stops) = absurd (no_faulty_line stops)

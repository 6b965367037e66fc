-- What a run of the program does, from its words to its status: it serves a model and a script, writes its help, or
-- says on standard error why it does neither. (Our own.)
use Rattle.std.specs.Prelude.{◌≡◌, ℕ, List, Result, Ok, Err, codes}
use Rattle.std.specs.String.{string_bytes}
use Rattle.gw_io.specs.Failures.{one_more, WritesPart}
use Rattle.gw_io.specs.declared.budget.ReadFault.{ReadFault}
use Rattle.gw_script.specs.declared.fault.Fault.TheVariants as faults
use Rattle.gw_main.specs.declared.words.Wanted.{Wanted}
use Rattle.gw_main.specs.declared.words.ModelAt.{ModelAt}
use Rattle.gw_main.specs.declared.words.ModelAt.TheVariants as places
use Rattle.gw_main.specs.declared.words.Refusal.{Refusal}
use Rattle.gw_main.specs.declared.words.Refusal.TheVariants as refusals
use Rattle.gw_script.specs.declared.opening.Options.{Options}
use Rattle.gw_main.specs.Complaints.{Tells, complaint_of, status_of}
use Rattle.gw_main.specs.Conversations.{Ends, Runs}
use Rattle.gw_main.specs.Files.{FileConverses, FileFails}
use Rattle.gw_main.specs.Words.{IsReadAs}

-- standard error was told a text, with nothing read and nothing written
pub record Declines {S K E : Type 0} (told : E → List ℕ → E → Type 0) (losses : E → ℕ) (text : List ℕ) (code : ℕ)
    (reader reader' : S) (writer writer' : K) (errors errors' : E) (status : ℕ) : Type 0 where
  pub status_is : status ≡ code
  pub unread : reader' ≡ reader
  pub unwritten : writer' ≡ writer
  pub tells : Tells told losses text errors errors'

-- help was written, and the status is 0; or the writer failed after a front of it, which standard error was told of
pub data Helps {K E : Type 0} (wrote : K → List ℕ → K → Type 0) (writes : K → ℕ) (told : E → List ℕ → E → Type 0)
    (losses : E → ℕ) (text : List ℕ) (writer writer' : K) (errors errors' : E) (status : ℕ) : Type 0 where
  helped : wrote writer text writer' → writes writer' ≡ writes writer → errors' ≡ errors → status ≡ 0 →
      Helps wrote writes told losses text writer writer' errors errors' status
  stopped : WritesPart wrote writer text writer' → writes writer' ≡ one_more (writes writer) →
      Tells told losses (complaint_of faults.Write) errors errors' → status ≡ status_of faults.Write →
      Helps wrote writes told losses text writer writer' errors errors' status

-- a run with its model in a file
abbrev pub FileRuns : {F S K E : Type 0} → (F → List ℕ → F → Type 0) → (F → Type 0) → (F → ℕ) →
    (S → List ℕ → S → Type 0) → (S → Type 0) → (S → ℕ) → (K → List ℕ → K → Type 0) → (K → ℕ) →
    (E → List ℕ → E → Type 0) → (E → ℕ) → ℕ → Options → Result F ReadFault → S → S → K → K → E → E → ℕ → Type 0
FileRuns took_file ended_file reads_file took ended reads wrote writes told losses workers o opened reader reader'
    writer writer' errors errors' status = Ends told losses
    (FileConverses took_file ended_file reads_file took ended reads wrote writes workers o opened reader reader'
    writer writer')
    (FileFails took_file ended_file reads_file took ended reads wrote writes workers o opened reader reader'
    writer writer')
    errors errors' status

-- a run that was asked for: its model stands on standard input, or in a file that was opened; `opens` says what the
-- opening of a file of a name may give
abbrev pub RunsAt : {F S K E : Type 0} → (List ℕ → Result F ReadFault → Type 0) → (F → List ℕ → F → Type 0) →
    (F → Type 0) → (F → ℕ) → (S → List ℕ → S → Type 0) → (S → Type 0) → (S → ℕ) → (K → List ℕ → K → Type 0) → (K → ℕ) →
    (E → List ℕ → E → Type 0) → (E → ℕ) → ModelAt → ℕ → Options → S → S → K → K → E → E → ℕ → Type 0
RunsAt {F} opens took_file ended_file reads_file took ended reads wrote writes told losses places.Input workers o
    reader reader' writer writer' errors errors' status =
    Runs took ended reads wrote writes told losses workers o reader reader' writer writer' errors errors' status
RunsAt {F} opens took_file ended_file reads_file took ended reads wrote writes told losses (places.File path)
    workers o reader reader' writer writer' errors errors' status =
    (opened : Result F ReadFault) × opens path.now opened ×
    FileRuns took_file ended_file reads_file took ended reads wrote writes told losses workers o opened reader reader'
    writer writer' errors errors' status

-- what is done for what the words came to: a run, help with status 0, a refusal with status 2, or out of memory with
-- status 3
abbrev pub Proceeds : {F S K E : Type 0} → (List ℕ → Result F ReadFault → Type 0) → (F → List ℕ → F → Type 0) →
    (F → Type 0) → (F → ℕ) → (S → List ℕ → S → Type 0) → (S → Type 0) → (S → ℕ) → (K → List ℕ → K → Type 0) → (K → ℕ) →
    (E → List ℕ → E → Type 0) → (E → ℕ) → Result Wanted Refusal → S → S → K → K → E → E → ℕ → Type 0
Proceeds opens took_file ended_file reads_file took ended reads wrote writes told losses (Ok wanted)
    reader reader' writer writer' errors errors' status =
    RunsAt opens took_file ended_file reads_file took ended reads wrote writes told losses wanted.model wanted.workers
    wanted.options reader reader' writer writer' errors errors' status
Proceeds opens took_file ended_file reads_file took ended reads wrote writes told losses (Err (refusals.Help text))
    reader reader' writer writer' errors errors' status =
    (reader' ≡ reader) × Helps wrote writes told losses (string_bytes text) writer writer' errors errors' status
Proceeds opens took_file ended_file reads_file took ended reads wrote writes told losses (Err (refusals.Bad text))
    reader reader' writer writer' errors errors' status =
    Declines told losses (string_bytes text) 2 reader reader' writer writer' errors errors' status
Proceeds opens took_file ended_file reads_file took ended reads wrote writes told losses (Err refusals.Memory)
    reader reader' writer writer' errors errors' status =
    Declines told losses (codes "stopped: F6\n") 3 reader reader' writer writer' errors errors' status

-- the words are read, and what they came to is done
pub record Does {F S K E : Type 0} (opens : List ℕ → Result F ReadFault → Type 0) (took_file : F → List ℕ → F → Type 0)
    (ended_file : F → Type 0) (reads_file : F → ℕ) (took : S → List ℕ → S → Type 0) (ended : S → Type 0) (reads : S → ℕ)
    (wrote : K → List ℕ → K → Type 0) (writes : K → ℕ) (told : E → List ℕ → E → Type 0) (losses : E → ℕ)
    (words : List (List ℕ)) (reader reader' : S) (writer writer' : K) (errors errors' : E) (status : ℕ) : Type 0 where
  pub meant : Result Wanted Refusal
  pub reading : IsReadAs words meant
  pub done : Proceeds opens took_file ended_file reads_file took ended reads wrote writes told losses meant reader
      reader' writer writer' errors errors' status

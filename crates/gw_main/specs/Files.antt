-- What the program does with a model in a file: it takes all of the file, and serves the script on its input. (Our
-- own.)
use Rattle.std.specs.Prelude.{◌≡◌, ℕ, List, Result, Ok, Err}
use Rattle.gw_io.specs.declared.budget.ReadFault.{ReadFault}
use Rattle.gw_io.specs.Whole.{TakesAll}
use Rattle.gw_io.specs.Reading.{AnyBytes, Breaks}
use Rattle.gw_desk.specs.Book.{Book}
use Rattle.gw_script.specs.declared.fault.Fault.{Fault}
use Rattle.gw_script.specs.declared.fault.Over.{Over}
use Rattle.gw_script.specs.declared.opening.Options.{Options}
use Rattle.gw_script.specs.Opening.{Opens, Refuses}
use Rattle.gw_script.specs.Turns.{stopped_by}
use Rattle.gw_main.specs.Sharing.{IsServed, IsStopped}

-- a file was opened, and all its bytes were taken, by at most 16,777,216 calls of which none failed: they are the model
pub record TakesFile {F : Type 0} (took : F → List ℕ → F → Type 0) (ended : F → Type 0) (reads : F → ℕ)
    (opened : Result F ReadFault) (model : List ℕ) : Type 0 where
  pub file : F
  pub behind : F
  pub left : ℕ
  pub is_file : opened ≡ Ok file
  pub takes : TakesAll took ended file behind 16777216 left model
  pub uncounted : reads behind ≡ reads file

-- a conversation over a model file came to its end: the model opens, and the session served the script
pub record FileConverses {F S K : Type 0} (took_file : F → List ℕ → F → Type 0) (ended_file : F → Type 0)
    (reads_file : F → ℕ) (took : S → List ℕ → S → Type 0) (ended : S → Type 0) (reads : S → ℕ)
    (wrote : K → List ℕ → K → Type 0) (writes : K → ℕ) (workers : ℕ) (o : Options) (opened : Result F ReadFault)
    (reader reader' : S) (writer writer' : K) (over : Over) : Type 0 where
  pub model : List ℕ
  pub book : Book
  pub taken : TakesFile took_file ended_file reads_file opened model
  pub opens : Opens model o book
  pub serves : IsServed took ended reads wrote writes workers book reader reader' writer writer' over

-- a conversation over a model file stopped: the file could not be opened, or not be read to its end, or its model is
-- refused, with no script read and nothing written; or it stopped in the session over the model
pub data FileFails {F S K : Type 0} (took_file : F → List ℕ → F → Type 0) (ended_file : F → Type 0) (reads_file : F → ℕ)
    (took : S → List ℕ → S → Type 0) (ended : S → Type 0) (reads : S → ℕ) (wrote : K → List ℕ → K → Type 0)
    (writes : K → ℕ) (workers : ℕ) (o : Options) (opened : Result F ReadFault) (reader reader' : S)
    (writer writer' : K) (fault : Fault) : Type 0 where
  unopened : (cause : ReadFault) → opened ≡ Err cause → fault ≡ stopped_by cause → reader' ≡ reader → writer' ≡ writer →
      FileFails took_file ended_file reads_file took ended reads wrote writes workers o opened reader reader'
      writer writer' fault
  in_file : (file behind : F) (left : ℕ) (cause : ReadFault) → opened ≡ Ok file →
      Breaks took_file reads_file AnyBytes file behind 16777216 left cause → fault ≡ stopped_by cause →
      reader' ≡ reader → writer' ≡ writer →
      FileFails took_file ended_file reads_file took ended reads wrote writes workers o opened reader reader'
      writer writer' fault
  refused : (model : List ℕ) → TakesFile took_file ended_file reads_file opened model → Refuses model o fault →
      reader' ≡ reader → writer' ≡ writer →
      FileFails took_file ended_file reads_file took ended reads wrote writes workers o opened reader reader'
      writer writer' fault
  in_session : (model : List ℕ) (book : Book) → TakesFile took_file ended_file reads_file opened model →
      Opens model o book →
      IsStopped took ended reads wrote writes workers book reader reader' writer writer' fault →
      FileFails took_file ended_file reads_file took ended reads wrote writes workers o opened reader reader'
      writer writer' fault

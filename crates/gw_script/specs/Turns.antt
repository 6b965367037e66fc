-- What answering one line leaves: the whole answer is written, or a front part of it before the fault that ends the
-- session; and the keeper after either. (Our own.)
use Rattle.std.specs.Prelude.{◌≡◌, ℕ, Bool, true, false, List, [], ◌++◌, Option, Some, None}
use Rattle.gw_io.specs.declared.budget.ReadFault.{ReadFault}
use Rattle.gw_io.specs.declared.budget.ReadFault.TheVariants as reads
use Rattle.gw_io.specs.Failures.{one_more}
use Rattle.gw_script.specs.declared.fault.Fault.{Fault}
use Rattle.gw_script.specs.declared.fault.Fault.TheVariants as faults
use Rattle.gw_script.specs.declared.fault.Over.{Over}
use Rattle.gw_script.specs.declared.fault.Over.TheVariants as overs

-- the fault of a session that a fault of reading is
abbrev pub stopped_by : ReadFault → Fault
stopped_by reads.Read = faults.Read
stopped_by reads.Limit = faults.ReadLimit
stopped_by reads.Memory = faults.Memory

-- an answer was written: bytes that may be answered, which leave the keeper so
pub record Writes {D K : Type 0} (wrote : K → List ℕ → K → Type 0) (A : List ℕ → D → Type 0) (old new : K) (after : D) :
    Type 0 where
  pub front : List ℕ
  pub answers : A front after
  pub written : wrote old front new

-- why an answer broke off: the writer failed, which is counted, or a growth was refused, and then it did not fail
abbrev pub BreaksBy : Fault → ℕ → ℕ → Type 0
BreaksBy (faults.Line faulty) writes writes' = ⊥
BreaksBy (faults.Model fault) writes writes' = ⊥
BreaksBy faults.Read writes writes' = ⊥
BreaksBy faults.Write writes writes' = writes' ≡ one_more writes
BreaksBy faults.ReadLimit writes writes' = ⊥
BreaksBy faults.Memory writes writes' = writes' ≡ writes

-- out of memory at a line: no answer says so to it, nothing was written, and the keeper is as it was
pub record IsSilent {D : Type 0} (fallback : Option (List ℕ)) (front : List ℕ) (before after : D) : Type 0 where
  pub unanswered : fallback ≡ None
  pub unwritten : front ≡ []
  pub unchanged : after ≡ before

-- a front part of an answer was written: bytes that may be answered, which leave the keeper so, begin with it. Where it
-- broke off out of memory, that is before anything was written of a line to which no answer says so
pub record BreaksOff {D K : Type 0} (wrote : K → List ℕ → K → Type 0) (writes : K → ℕ) (A : List ℕ → D → Type 0)
    (fallback : Option (List ℕ)) (before : D) (old new : K) (after : D) (fault : Fault) : Type 0 where
  pub front : List ℕ
  pub left : List ℕ
  pub answers : A (front ++ left) after
  pub written : wrote old front new
  pub cause : BreaksBy fault (writes old) (writes new)
  pub silent : fault ≡ faults.Memory → IsSilent fallback front before after

-- saying that a growth was refused broke off; where a line has no such answer, nothing was written
pub data BreaksRefused {K : Type 0} (wrote : K → List ℕ → K → Type 0) (writes : K → ℕ) (fallback : Option (List ℕ))
    (old new : K) (fault : Fault) : Type 0 where
  not_begun : fallback ≡ None → fault ≡ faults.Memory → new ≡ old → BreaksRefused wrote writes fallback old new fault
  begun : (front left : List ℕ) → fallback ≡ Some (front ++ left) → wrote old front new → fault ≡ faults.Write →
      writes new ≡ one_more (writes old) → BreaksRefused wrote writes fallback old new fault

-- how a session ends after its last line
abbrev pub over_if : Bool → Over
over_if true = overs.Quit
over_if false = overs.InputEnd

-- How a conversation stops: in the session after its model, and for the fault that is told.
use Rattle.std.proofs.Common.{◌≡◌, ℕ, List, ◌⊎◌, inl, inr, sym, subst}
use Rattle.std.specs.Prelude.{IfErr, IfOk, MatchResult, Result, Ok, Err}
use Rattle.gw_desk.specs.Book.{Book}
use Rattle.gw_io.specs.declared.budget.ReadFault.TheVariants as causes
use Rattle.gw_lines.specs.declared.fault.FaultyLine.{FaultyLine}
use Rattle.gw_script.specs.declared.fault.Fault.{Fault}
use Rattle.gw_script.specs.declared.fault.Fault.TheVariants as faults
use Rattle.gw_script.specs.declared.fault.Over.{Over}
use Rattle.gw_script.specs.declared.opening.Options.{Options}
use Rattle.gw_script.specs.Opening.{Opens, Refuses}
use Rattle.gw_main.specs.Sharing.{IsStopped}
use Rattle.gw_main.specs.Complaints.{IsToldAs, Tells, complaint_of, status_of}
use Rattle.gw_main.specs.Conversations.{Ends, Takes, Fails, in_model, refused, in_session, served, stopped}

-- a session never stops for a faulty line of the model
pub no_faulty_line : {S K : Type 0} {took : S → List ℕ → S → Type 0} {ended : S → Type 0} {reads : S → ℕ} {wrote : K → List ℕ → K → Type 0} {writes : K → ℕ}
    {workers : ℕ} {b : Book} {reader reader' : S} {writer writer' : K} {faulty : FaultyLine} →
    IsStopped took ended reads wrote writes workers b reader reader' writer writer' (faults.Line faulty) → ⊥
no_faulty_line (IsStopped.alone none after stops) = stops.cause
no_faulty_line (IsStopped.beside some after stops) = stops.cause

module _ {S K : Type 0} (took : S → List ℕ → S → Type 0) (ended : S → Type 0) (reads : S → ℕ) (wrote : K → List ℕ → K → Type 0) (writes : K → ℕ) (workers : ℕ)
    (o : Options) where
  abbrev FailsBy : S → S → K → K → Fault → Type 0
  FailsBy reader reader' writer writer' fault = Fails took ended reads wrote writes workers o reader reader' writer writer' fault

  -- a session after the model that was taken stopped
  pub fails_behind : (reader between reader' : S) (writer writer' : K) (model : List ℕ) (fault : Fault) → Takes took ended reads reader between model →
      (Refuses model o fault × (reader' ≡ between) × (writer' ≡ writer)) ⊎
      ((b : Book) × Opens model o b × IsStopped took ended reads wrote writes workers b between reader' writer writer' fault) →
      FailsBy reader reader' writer writer' fault
  fails_behind reader between reader' writer writer' model fault taken (inl h) =
      let P : S → Type 0 = λ s. Takes took ended reads reader s model in
      refused model (subst P (sym h.1) taken) h.0 h.2
  fails_behind reader between reader' writer writer' model fault taken (inr h) = in_session between model h.0 taken h.1 h.2

  -- a conversation that stopped for a faulty line stopped, as far as can be said, out of memory
  pub fails_of_memory : (reader reader' : S) (writer writer' : K) (faulty : FaultyLine) → FailsBy reader reader' writer writer' (faults.Line faulty) →
      FailsBy reader reader' writer writer' faults.Memory
  fails_of_memory reader reader' writer writer' faulty (in_model left causes.Read breaks is unwritten) = absurd cc
  fails_of_memory reader reader' writer writer' faulty (in_model left causes.Limit breaks is unwritten) = absurd cc
  fails_of_memory reader reader' writer writer' faulty (in_model left causes.Memory breaks is unwritten) = absurd cc
  fails_of_memory reader reader' writer writer' faulty (refused model taken refusal unwritten) = refused model taken tt unwritten
  fails_of_memory reader reader' writer writer' faulty (in_session between model book taken opens stops) = absurd (no_faulty_line stops)

-- what stopped for a fault stopped for the one that is told, where a faulty line may be told as out of memory
pub is_told : (F : Fault → Type 0) → ((faulty : FaultyLine) → F (faults.Line faulty) → F faults.Memory) → (came told : Fault) → IsToldAs came told → F came →
    F told
is_told F memory (faults.Line faulty) told (inl same) h = subst F (sym same) h
is_told F memory (faults.Line faulty) told (inr as_memory) h = subst F (sym as_memory) (memory faulty h)
is_told F memory (faults.Model fault) told same h = subst F (sym same) h
is_told F memory faults.Read told same h = subst F (sym same) h
is_told F memory faults.Write told same h = subst F (sym same) h
is_told F memory faults.ReadLimit told same h = subst F (sym same) h
is_told F memory faults.Memory told same h = subst F (sym same) h

-- a conversation that was told of ended so
pub ends_told : {E : Type 0} (told : E → List ℕ → E → Type 0) (losses : E → ℕ) (comes : Over → Type 0) (fails : Fault → Type 0) (errors errors' : E)
    (status : ℕ) (over : Result Over Fault) → IfOk over comes → IfErr over fails → ((faulty : FaultyLine) → fails (faults.Line faulty) → fails faults.Memory) →
    MatchResult over (λ _. (errors' ≡ errors) × (status ≡ 0))
    (λ fault. (came : Fault) × IsToldAs fault came × Tells told losses (complaint_of came) errors errors' × (status ≡ status_of came)) →
    Ends told losses comes fails errors errors' status
ends_told told losses comes fails errors errors' status (Ok over) came failed memory h = served over came h.0 h.1
ends_told told losses comes fails errors errors' status (Err fault) came failed memory h = stopped h.0 (is_told fails memory fault h.0 h.1 failed) h.2 h.3

-- A session alone is served over its desk, and one beside workers over a seat of a bench.
use Rattle.std.proofs.Common.{◌≡◌, ◌⊎◌, ◌≤◌, inl, inr, ℕ, List, [], refl, sym, subst}
use Rattle.std.specs.Prelude.{Result, IfOk, IfErr}
use Rattle.std.proofs.lemmas.Result.{IfOk-weaker, IfErr-weaker}
use Rattle.gw_meaning.specs.Listing.{Listing}
use Rattle.gw_meaning.specs.declared.edit.Edit.{Edit}
use Rattle.gw_desk.specs.Book.{Book}
use Rattle.gw_script.specs.declared.fault.Fault.{Fault}
use Rattle.gw_script.specs.declared.fault.Fault.TheVariants as faults
use Rattle.gw_script.specs.declared.fault.Over.{Over}
use Rattle.gw_script.specs.declared.opening.Options.{Options}
use Rattle.gw_script.specs.Opening.{Opens, OpensVersion, Refuses, book_of}
use Rattle.gw_script.specs.Replying.{DeskAnswers}
use Rattle.gw_script.specs.Sessions.{Serves, Stops}
use Rattle.gw_main.specs.Sharing.{IsServed, IsStopped, SeatAnswers}

module _ {S K : Type 0} (took : S → List ℕ → S → Type 0) (ended : S → Type 0) (reads : S → ℕ) (wrote : K → List ℕ → K → Type 0) (writes : K → ℕ)
    (model : List ℕ) (o : Options) (workers : ℕ) (source source' : S) (sink sink' : K) where
  abbrev Served : Over → Type 0
  Served over = (b : Book) × Opens model o b × IsServed took ended reads wrote writes workers b source source' sink sink' over

  abbrev Stopped : Fault → Type 0
  Stopped fault = (Refuses model o fault × (source' ≡ source) × (sink' ≡ sink)) ⊎
      ((b : Book) × Opens model o b × IsStopped took ended reads wrote writes workers b source source' sink sink' fault)

  pub served_alone : workers ≡ 0 → (result : Result Over Fault) →
      IfOk result (λ over. (b : Book) × (b' : Book) × Opens model o b × Serves DeskAnswers took ended reads wrote writes b source source' sink sink' b' over) →
      IfOk result Served
  served_alone none result h = IfOk-weaker result _ _ (λ over h. (h.0, h.2, IsServed.alone none h.1 h.3)) h

  stopped_over : workers ≡ 0 → (fault : Fault) → (Refuses model o fault × (source' ≡ source) × (sink' ≡ sink)) ⊎ ((b : Book) × (b' : Book) × Opens model o b ×
      Stops DeskAnswers took ended reads wrote writes b source source' sink sink' b' fault) → Stopped fault
  stopped_over none fault (inl h) = inl h
  stopped_over none fault (inr h) = inr (h.0, h.2, IsStopped.alone none h.1 h.3)

  pub stopped_alone : workers ≡ 0 → (result : Result Over Fault) →
      IfErr result (λ fault. (Refuses model o fault × (source' ≡ source) × (sink' ≡ sink)) ⊎ ((b : Book) × (b' : Book) × Opens model o b ×
      Stops DeskAnswers took ended reads wrote writes b source source' sink sink' b' fault)) → IfErr result Stopped
  stopped_alone none result h = IfErr-weaker result _ _ (stopped_over none) h

  opens_on : (t : Listing) → OpensVersion model o t → Opens model o (book_of t o.every)
  opens_on t opens = record { version = t; opens = opens; is_book = refl }

  pub served_beside : 1 ≤ workers → (t : Listing) → OpensVersion model o t → (result : Result Over Fault) →
      IfOk result (λ over. (after : List Edit) × Serves (SeatAnswers t) took ended reads wrote writes [] source source' sink sink' after over) →
      IfOk result Served
  served_beside some t opens result h =
      IfOk-weaker result _ _ (λ over h. (book_of t o.every, opens_on t opens, IsServed.beside some h.0 h.1)) h

  stopped_at_seat : 1 ≤ workers → (t : Listing) → OpensVersion model o t → (fault : Fault) →
      ((fault ≡ faults.Memory) × (source' ≡ source) × (sink' ≡ sink)) ⊎ ((after : List Edit) × Stops (SeatAnswers t) took ended reads
      wrote writes [] source source' sink sink' after fault) → Stopped fault
  stopped_at_seat some t opens fault (inl h) = inl (subst (Refuses model o) (sym h.0) tt, h.1, h.2)
  stopped_at_seat some t opens fault (inr h) = inr (book_of t o.every, opens_on t opens, IsStopped.beside some h.0 h.1)

  pub stopped_beside : 1 ≤ workers → (t : Listing) → OpensVersion model o t → (result : Result Over Fault) →
      IfErr result (λ fault. ((fault ≡ faults.Memory) × (source' ≡ source) × (sink' ≡ sink)) ⊎ ((after : List Edit) ×
      Stops (SeatAnswers t) took ended reads wrote writes [] source source' sink sink' after fault)) → IfErr result Stopped
  stopped_beside some t opens result h = IfErr-weaker result _ _ (stopped_at_seat some t opens) h

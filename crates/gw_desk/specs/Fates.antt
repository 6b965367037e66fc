-- The fate of a leg over the edits that were accepted after it was taken: its run lives or dies, edit by edit. Why a
-- leg is dropped. (Our own.)
use Rattle.std.specs.Prelude.{◌≡◌, ◌⊎◌, ℕ, ◌<◌, ◌≤◌, List, [], ◌∷◌, ◌++◌, Some, None, Ok}
use Rattle.gw_meaning.specs.Listing.{Listing, seed_at}
use Rattle.gw_record.specs.Tape.{Tape}
use Rattle.gw_meaning.specs.declared.edit.Edit.{Edit}
use Rattle.gw_touch.specs.Touching.{touch_of}
use Rattle.gw_touch.specs.Touched.{touched_step, IsBefore}
use Rattle.gw_edit.specs.Applied.{applied}
use Rattle.gw_edit.specs.Rebasing.{IsRebased}
use Rattle.gw_desk.specs.Book.{Book, run_in}
use Rattle.gw_desk.specs.Legs.{Leg}

-- the run lives through one edit of t to u: the replication stays, and no step before the start read something touched.
-- What is left of it ends at its last kept moment, from its start on, at or before the first step that did
pub record Lasts (t : Listing) (e : Edit) (u : Listing) (rep : ℕ) (r s : Tape) : Type 0 where
  pub version : applied t e ≡ Ok u
  pub seed : ℕ
  pub stays : seed_at u rep ≡ Some seed
  pub rebased : IsRebased t e u rep r s

-- and through edits of t that lead to w
abbrev pub Lives : Listing → List Edit → ℕ → Tape → Listing → Tape → Type 0
Lives t [] rep r w s = (w ≡ t) × (s ≡ r)
Lives t (e ∷ es) rep r w s = (u : Listing) × (q : Tape) × Lasts t e u rep r q × Lives u es rep q w s

-- it dies of one edit of t to u: the replication is dropped, or a step before the start read something touched
pub data Dies (t : Listing) (e : Edit) (u : Listing) (rep : ℕ) (r : Tape) : Type 0 where
  dropped : applied t e ≡ Ok u → seed_at u rep ≡ None → Dies t e u rep r
  touched : (seed : ℕ) → applied t e ≡ Ok u → seed_at t rep ≡ Some seed →
      IsBefore r.start (touched_step (touch_of t e u rep) t seed r) → Dies t e u rep r

-- it dies of one of these edits: it lives through those before
pub record IsDead (t : Listing) (later : List Edit) (rep : ℕ) (r : Tape) : Type 0 where
  pub front : List Edit
  pub edit : Edit
  pub back : List Edit
  pub parts : later ≡ front ++ edit ∷ back
  pub before : Listing
  pub left : Tape
  pub lives : Lives t front rep r before left
  pub after : Listing
  pub dies : Dies before edit after rep left

-- a leg of this desk: the desk was opened with the same version and keeps its states at the same spacing, and the leg's
-- edits are a front of the desk's, after which these came later
pub record IsOf (b : Book) (l : Leg) (later : List Edit) : Type 0 where
  pub opening : l.opening ≡ b.opening
  pub every : l.run.every ≡ b.every
  pub front : b.edits ≡ l.edits ++ later

-- the leg lives, and what is left of it goes on beyond the recorded run
pub record Fits (b : Book) (l : Leg) (own left : Tape) : Type 0 where
  pub later : List Edit
  pub of : IsOf b l later
  pub lives : Lives l.version later l.replication l.run b.version left
  pub there : run_in b.runs l.replication ≡ Some own
  pub from : left.start ≤ own.moment
  pub beyond : own.moment < left.moment

-- why a leg is dropped: it is not of this desk; it is dead; or what is left of it starts beyond the recorded run, or
-- does not go on beyond it
pub data IsUseless (b : Book) (l : Leg) : Type 0 where
  of_another : ((later : List Edit) → IsOf b l later → ⊥) → IsUseless b l
  dead : (later : List Edit) → IsOf b l later → IsDead l.version later l.replication l.run → IsUseless b l
  in_vain : (later : List Edit) (own left : Tape) → IsOf b l later →
      Lives l.version later l.replication l.run b.version left → run_in b.runs l.replication ≡ Some own →
      (own.moment < left.start) ⊎ (left.moment ≤ own.moment) → IsUseless b l

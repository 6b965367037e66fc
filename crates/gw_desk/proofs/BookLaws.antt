-- The recorded runs of a version's replications.
use Rattle.std.proofs.Common.{◌≡◌, ℕ, ◌≤◌, ◌==◌, Bool, true, false, cond, List, [], ◌∷◌, Some, refl, arith}
use Rattle.gw_meaning.specs.declared.statement.Replication.{Replication}
use Rattle.gw_meaning.specs.Numbers.{AreNumbered}
use Rattle.gw_meaning.specs.Listing.{Listing, seed_in}
use Rattle.gw_model.specs.Well.{Well}
use Rattle.gw_record.specs.Tape.{blank}
use Rattle.gw_record.proofs.Blank.{blank_records}
use Rattle.gw_meaning.specs.declared.edit.Edit.{Edit}
use Rattle.gw_desk.specs.declared.recording.Recording.{Recording}
use Rattle.gw_desk.specs.Book.{IsBook, run_in, IsRunOf, blank_runs}
use Rattle.gw_desk.proofs.ApartLaws.{apart_blank}

pub blank_are_runs : (t : Listing) (every : ℕ) (rs : List Replication) (number : ℕ) → IsRunOf t every (seed_in rs number) (run_in (blank_runs every rs) number)
blank_are_runs t every [] number = tt
blank_are_runs t every (r ∷ rs) number = go (r.number == number) (blank_are_runs t every rs number) where
  go : (b : Bool) → IsRunOf t every (seed_in rs number) (run_in (blank_runs every rs) number) →
      IsRunOf t every (cond b (Some r.seed) (seed_in rs number)) (cond b (Some (blank every)) (run_in (blank_runs every rs) number))
  go true h = (blank_records t r.seed every, refl, refl)
  go false h = h

-- a version with runs of no steps makes a desk
pub blank_book : (t opening : Listing) (every made : ℕ) (edits : List Edit) (runs : List Recording) → 1 ≤ every → AreNumbered t.lines → Well t → opening ≡ t →
    edits ≡ [] → runs ≡ blank_runs every t.replications → made ≡ 0 →
    IsBook (record { opening = opening; version = t; every = every; edits = edits; runs = runs; made = made })
blank_book t opening every made edits runs some numbered well opens none blank unmade = rw (opens, none, blank, unmade) (record {
  some = some;
  few = omega arith;
  numbered = numbered;
  leads = refl;
  runs = blank_are_runs t every t.replications;
  apart = apart_blank every t.replications well.numbers_apart;
})

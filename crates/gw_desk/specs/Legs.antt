-- Legs: parts of a replication's run that are made apart from the desk. (Our own.)
use Rattle.std.specs.Prelude.{◌≡◌, ℕ, ◌+◌, ◌<◌, ◌≤◌, List, Option, Some, None, Ok}
use Rattle.gw_meaning.specs.Numbers.{AreNumbered}
use Rattle.gw_meaning.specs.Listing.{Listing, seed_at}
use Rattle.gw_meaning.specs.Machine.{Machine}
use Rattle.gw_meaning.specs.Step.{step}
use Rattle.gw_record.specs.Tape.{Tape, Records, from_tip}
use Rattle.gw_record.specs.Extending.{tallied, EndsAtTip}
use Rattle.gw_meaning.specs.declared.edit.Edit.{Edit}
use Rattle.gw_edit.specs.Leading.{LeadsTo}
use Rattle.gw_desk.specs.Book.{Book, run_in}

-- a leg: the version with which its desk was opened, and the front of edits that were accepted before it was taken; the
-- version after them; a replication with its seed there; the run, recorded from where the leg starts to where it ends;
-- and the steps that were made of it
pub record Leg : Type 0 where
  pub opening : Listing
  pub edits : List Edit
  pub version : Listing
  pub replication : ℕ
  pub seed : ℕ
  pub run : Tape
  pub made : ℕ

-- what every leg keeps
pub record IsLeg (l : Leg) : Type 0 where
  pub numbered : AreNumbered l.version.lines
  pub leads : LeadsTo l.opening l.edits l.version
  pub with_seed : seed_at l.version l.replication ≡ Some l.seed
  pub records : Records l.version l.seed l.run

-- no step of a replication can be made: there is none, or its steps are as many as the limit, or the run ends there
pub data IsOver (b : Book) (rep : ℕ) : Type 0 where
  no_replication : seed_at b.version rep ≡ None → IsOver b rep
  at_limit : (r : Tape) → run_in b.runs rep ≡ Some r → b.version.limit ≤ r.moment → IsOver b rep
  at_end : (seed : ℕ) (r : Tape) → seed_at b.version rep ≡ Some seed → run_in b.runs rep ≡ Some r →
      EndsAtTip b.version seed r → IsOver b rep

-- a run cannot go on: its steps are as many as the limit, or it ends at its tip
pub data IsAtEnd (t : Listing) (seed : ℕ) (r : Tape) : Type 0 where
  limit : t.limit ≤ r.moment → IsAtEnd t seed r
  end : EndsAtTip t seed r → IsAtEnd t seed r

-- or it can
pub record GoesOn (t : Listing) (seed : ℕ) (r : Tape) : Type 0 where
  pub below : r.moment < t.limit
  pub next : Machine
  pub goes : step t seed r.tip ≡ Ok next

-- a leg that was taken: it starts and ends at the recorded number
pub record IsTaken (b : Book) (rep : ℕ) (l : Leg) : Type 0 where
  pub leg : IsLeg l
  pub opening : l.opening ≡ b.opening
  pub edits : l.edits ≡ b.edits
  pub version : l.version ≡ b.version
  pub replication : l.replication ≡ rep
  pub run : Tape
  pub there : run_in b.runs rep ≡ Some run
  pub from : l.run ≡ from_tip run
  pub unmade : l.made ≡ 0
  pub below : run.moment < b.version.limit
  pub next : Machine
  pub goes : step b.version l.seed run.tip ≡ Ok next

-- the recorded run of a replication from its tip on
pub record IsBranchOf (b : Book) (rep seed : ℕ) (branch : Tape) : Type 0 where
  pub run : Tape
  pub there : run_in b.runs rep ≡ Some run
  pub from : branch ≡ from_tip run
  pub records : Records b.version seed branch

-- what is taken: none where no step can be made
abbrev pub Takes : Book → ℕ → Option Leg → Type 0
Takes b rep None = IsOver b rep
Takes b rep (Some l) = IsTaken b rep l

-- a leg is worked: so many steps more, of those that were wanted; all else stays
pub record Works (wanted made : ℕ) (old new : Leg) : Type 0 where
  pub same : new ≡ record old { run = new.run; made = new.made }
  pub every : new.run.every ≡ old.run.every
  pub start : new.run.start ≡ old.run.start
  pub moment : new.run.moment ≡ old.run.moment + made
  pub bound : made ≤ wanted
  pub count : new.made ≡ tallied old.made made
  pub leg : IsLeg old → IsLeg new

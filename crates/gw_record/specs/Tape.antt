-- A recorded run, and what makes it the record of a run from zero. (Our own.)
use Rattle.std.specs.Prelude.{◌≡◌, ◌⊎◌, ℕ, ◌+◌, ◌%◌, ◌<◌, ◌≤◌, List, [], Some, Ok, length, slice_get}
use Rattle.gw_meaning.specs.Listing.{Listing}
use Rattle.gw_meaning.specs.Machine.{Machine, zero_state}
use Rattle.gw_meaning.specs.Step.{run}
use Rattle.gw_meaning.specs.Point.{IsFirst}
use Rattle.gw_record.specs.declared.kept.Kept.{Kept}
use Rattle.gw_uses.specs.declared.first_uses.FirstUses.{FirstUses}
use Rattle.gw_record.specs.Parting.{AreInOrder, AreMoments}
use Rattle.gw_uses.specs.Uses.{AreFirstUses, nothing_used}

-- what is recorded of a run: the moment from which on it keeps states; the state at the tip, after so many steps;
-- states kept on the way, in order; the moments of START ends, in order; and the first uses of items
pub record Tape : Type 0 where
  pub every : ℕ
  pub start : ℕ
  pub moment : ℕ
  pub tip : Machine
  pub kept : List Kept
  pub ends : List ℕ
  pub firsts : FirstUses

-- nothing is recorded but the zero state
abbrev pub blank : ℕ → Tape
blank every =
    record { every = every; start = 0; moment = 0; tip = zero_state; kept = []; ends = []; firsts = nothing_used }

-- the same run recorded from its tip on: the states before are let go, and all that is noted of its steps stays
abbrev pub from_tip : Tape → Tape
from_tip r = record r { start = r.moment; kept = [] }

-- the moment right after the step that completes the k-th START
pub record IsStartEnd (t : Listing) (seed k m : ℕ) : Type 0 where
  pub state : Machine
  pub there : run t seed m ≡ Ok state
  pub complete : state.complete ≡ k
  pub some : 1 ≤ k
  pub first : IsFirst t seed k m

-- a moment whose state is to be kept when the run leaves it: the start, a multiple of the spacing, or a START end
abbrev pub IsWanted : Listing → ℕ → ℕ → ℕ → ℕ → Type 0
IsWanted t seed every start m = (m ≡ start) ⊎ ((m % every ≡ 0) ⊎ ((k : ℕ) × IsStartEnd t seed k m))

-- a state is kept of this moment
abbrev pub IsThere : List Kept → ℕ → Type 0
IsThere kept m = (i : ℕ) × (e : Kept) × (slice_get kept i ≡ Some e) × (e.moment ≡ m)

-- this state is kept of it
abbrev pub IsStateIn : List Kept → ℕ → Machine → Type 0
IsStateIn kept m s = (i : ℕ) × (e : Kept) × (slice_get kept i ≡ Some e) × (e.moment ≡ m) × (e.state ≡ s)

-- a kept state is the run's at its moment, which is one that was wanted
pub record IsOfRun (t : Listing) (seed : ℕ) (r : Tape) (e : Kept) : Type 0 where
  pub there : run t seed e.moment ≡ Ok e.state
  pub wanted : IsWanted t seed r.every r.start e.moment
  pub from : r.start ≤ e.moment
  pub below : e.moment ≤ r.moment

-- the moment of the k-th START end, for k from 1, whose state is kept if it lies after the start
pub record IsEndThere (t : Listing) (seed : ℕ) (r : Tape) (k m : ℕ) : Type 0 where
  pub end : IsStartEnd t seed k m
  pub below : m ≤ r.moment
  pub kept : r.start < m → IsThere r.kept m

-- it is the record of the run from zero: each state is the run's at its moment; each wanted one from the start to below
-- the tip is there; the START ends and the first uses are those of all steps below the tip, before the start too
pub record Records (t : Listing) (seed : ℕ) (r : Tape) : Type 0 where
  pub tip : run t seed r.moment ≡ Ok r.tip
  pub from : r.start ≤ r.moment
  pub within : r.moment ≤ t.limit
  pub kept : (i : ℕ) (e : Kept) → slice_get r.kept i ≡ Some e → IsOfRun t seed r e
  pub rising : AreInOrder r.kept
  pub all_kept : (m : ℕ) → r.start ≤ m → m < r.moment → IsWanted t seed r.every r.start m → IsThere r.kept m
  pub ends : (i m : ℕ) → slice_get r.ends i ≡ Some m → IsEndThere t seed r (i + 1) m
  pub ends_rise : AreMoments r.ends
  pub all_ends : (m : ℕ) (u : Machine) → m < r.moment → run t seed m ≡ Ok u → u.complete ≤ length r.ends
  pub tip_end : r.tip.complete ≤ length r.ends + 1
  pub firsts : AreFirstUses t seed r.moment r.firsts

-- the tip, too, is kept where it is wanted, so that the run may leave it
pub record IsKeptUp (t : Listing) (seed : ℕ) (r : Tape) : Type 0 where
  pub state : IsWanted t seed r.every r.start r.moment → IsThere r.kept r.moment
  pub end : r.tip.complete ≤ length r.ends

-- a moment whose state can be had: the tip, or a wanted one from the start to below it
pub record IsKept (t : Listing) (seed : ℕ) (r : Tape) (m : ℕ) : Type 0 where
  pub from : r.start ≤ m
  pub below : m ≤ r.moment
  pub wanted : (m ≡ r.moment) ⊎ IsWanted t seed r.every r.start m

-- the last kept moment at or before another
pub record IsLastKept (t : Listing) (seed : ℕ) (r : Tape) (m n : ℕ) : Type 0 where
  pub kept : IsKept t seed r n
  pub below : n ≤ m
  pub last : (i : ℕ) → IsKept t seed r i → i ≤ m → i ≤ n

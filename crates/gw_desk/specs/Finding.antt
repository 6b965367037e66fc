-- The search for the point of START k: from a state on, up to so many steps more. (Our own.)
use Rattle.std.specs.Prelude.{ℕ, zero, suc, ◌+◌, ◌==◌, Option, Some, None, Result, Ok, Err, if◌then◌else◌}
use Rattle.gw_expr.specs.declared.halt.End.{End}
use Rattle.gw_meaning.specs.declared.item.Outcome.{Outcome}
use Rattle.gw_meaning.specs.declared.item.Outcome.TheVariants as outcomes
use Rattle.gw_meaning.specs.Listing.{Listing}
use Rattle.gw_meaning.specs.Machine.{Machine, zero_state}
use Rattle.gw_meaning.specs.Step.{step}
use Rattle.gw_meaning.specs.Point.{outcome_of}

-- the point with the state and the outcome there, or none: the run ends earlier, or the step limit decides nothing
pub data Verdict : Type 0 where
  Point : Machine → Outcome → Verdict
  NoStart : Verdict
  TooLong : Verdict

-- the run ends in a state: the point, where the end comes with the k-th START under way or in its priming
abbrev pub with_outcome : Machine → Option Outcome → Verdict
with_outcome s None = NoStart
with_outcome s (Some o) = Point s o

abbrev pub at_end : ℕ → Machine → End → Verdict
at_end k s end = if s.complete + 1 == k then with_outcome s (outcome_of end) else NoStart

-- what a step leads to, where on says how the search goes on
abbrev pub behind : ℕ → Machine → (Machine → Verdict) → Result Machine End → Verdict
behind k s on (Ok u) = on u
behind k s on (Err end) = at_end k s end

abbrev pub search : Listing → ℕ → ℕ → ℕ → Machine → Verdict
search t seed k zero s =
    if s.complete == k then Point s outcomes.Complete else behind k s (λ u. TooLong) (step t seed s)
search t seed k (suc n) s =
    if s.complete == k then Point s outcomes.Complete else behind k s (search t seed k n) (step t seed s)

-- the point of START k, or that there is none within the step limit
abbrev pub verdict : Listing → ℕ → ℕ → Verdict
verdict t seed k = search t seed k t.limit zero_state

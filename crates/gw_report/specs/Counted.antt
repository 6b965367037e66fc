-- What the classes of a table say of its values. (Manual.)
use Rattle.std.specs.Prelude.{◌≡◌, ℕ, ℤ, ◌<ℤ◌, ◌≤ℤ◌, true, List, Option, Some, None, length, sum, ⊤}
use Rattle.gw_lanes.specs.Counts.{class_counts, is_in, lower, upper}
use Rattle.gw_meaning.specs.Classes.{Scale}
use Rattle.gw_report.specs.Tables.{limits_of}

-- the classes of a table together count each of its values once
abbrev pub CountsEachOnce : Type 0
CountsEachOnce = (scale : Scale) (values : List ℤ) → sum (class_counts (limits_of scale) values) ≡ length values

-- a value is above one limit and at most another; where there is none, each is
abbrev pub LiesWithin : Option ℤ → Option ℤ → ℤ → Type 0
LiesWithin None None z = ⊤
LiesWithin None (Some high) z = z ≤ℤ high
LiesWithin (Some low) None z = low <ℤ z
LiesWithin (Some low) (Some high) z = (low <ℤ z) × (z ≤ℤ high)

-- the values that a class counts are those that lie within the limits that its line names
abbrev pub LiesAsPrinted : Type 0
LiesAsPrinted =
    (scale : Scale) (i : ℕ) (z : ℤ) →
    (is_in (limits_of scale) i z ≡ true → LiesWithin (lower (limits_of scale) i) (upper (limits_of scale) i) z) ×
    (LiesWithin (lower (limits_of scale) i) (upper (limits_of scale) i) z → is_in (limits_of scale) i z ≡ true)

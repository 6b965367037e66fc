-- What is left to keep at the tip. (Our own.)
use Rattle.std.specs.Prelude.{◌≡◌, ◌⊎◌, ℕ, ◌+◌, ◌%◌, ◌≤◌, List, length}
use Rattle.gw_record.specs.declared.kept.Kept.{Kept}
use Rattle.gw_record.specs.Tape.{IsThere}

-- while fewer STARTs than these are complete, nothing is left to keep: no START end, and no state at the start or at a
-- multiple of the spacing
pub record IsDue (start every m : ℕ) (kept : List Kept) (ends : List ℕ) (due : ℕ) : Type 0 where
  pub few : due ≤ length ends + 1
  pub at_start : m ≤ start → (due ≡ 0) ⊎ ((m ≡ start) × IsThere kept m)
  pub at_multiple : m % every ≡ 0 → (due ≡ 0) ⊎ IsThere kept m

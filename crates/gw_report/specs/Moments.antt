-- What is known of the values of a table. (Our own: the range.)
use Rattle.std.specs.Prelude.{ℕ, ◌<◌, ◌≤◌, List, ℤ, pos, length, get_or}
use Rattle.gw_nums.specs.Range.{magnitude}

-- each is a value
abbrev pub AreValues : List ℤ → Type 0
AreValues zs = (k : ℕ) → k < length zs → magnitude (get_or zs k (pos 0)) ≤ 1000000000

-- Items of a list that lie together. (Our own.)
use Rattle.std.specs.Prelude.{◌≡◌, ℕ, ◌+◌, ◌<◌, List, length, slice_get}

-- what stands in the list from an index on
abbrev pub IsRun : {A : Type 0} → List A → ℕ → List A → Type 0
IsRun items i run = (k : ℕ) → k < length run → slice_get items (i + k) ≡ slice_get run k

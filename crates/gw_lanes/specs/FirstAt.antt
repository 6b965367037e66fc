-- The first place at which a number stands in a list. (Our own.)
use Rattle.std.specs.Prelude.{◌≡◌, ◌≢◌, ◌==◌, ◌<◌, ℕ, suc, List, [], ◌∷◌, Option, Some, None, if◌then◌else◌, length}
use Rattle.std.specs.List.{slice_index}
use Rattle.std.specs.Option.{option_map}

-- the place, counted from 0, if it stands there at all
abbrev pub first_at : ℕ → List ℕ → Option ℕ
first_at value [] = None
first_at value (n ∷ ns) = if n == value then Some 0 else option_map suc (first_at value ns)

-- the number stands there, and at no place before
pub record IsFirstAt (value : ℕ) (ns : List ℕ) (place : ℕ) : Type 0 where
  pub within : place < length ns
  pub there : slice_index ns place ≡ value
  pub first : (k : ℕ) → k < place → slice_index ns k ≢ value

-- How a `Table` keeps its pairs: the values by number, and the numbers that have one in the order of first insertion.
-- No public clause cites this module.
use Rattle.std.specs.Prelude.{◌≡◌, ℕ, ◌^◌, ◌≤◌, List, [], ◌∷◌, length, slice_index_or}
use Rattle.std.specs.Prelude.{Option, Some, None, is_some, if◌then◌else◌, nat_eq, nat_le}
use Rattle.std.specs.List.{IsDistinct, list_any}

module _ {V : Type 0} where
  abbrev pub value_at : List (Option V) → ℕ → Option V
  value_at values number = slice_index_or values number None

  -- a pair in front, where there is a value
  abbrev pub with_pair : ℕ → Option V → List (ℕ × V) → List (ℕ × V)
  with_pair number None pairs = pairs
  with_pair number (Some value) pairs = (number, value) ∷ pairs

  -- the numbers with their values
  abbrev pub pairs_of : List (Option V) → List ℕ → List (ℕ × V)
  pairs_of values [] = []
  pairs_of values (n ∷ ns) = with_pair n (value_at values n) (pairs_of values ns)

  -- the numbers are those that have a value, each once
  pub record IsListed (numbers : List ℕ) (values : List (Option V)) : Type 0 where
    pub listed : (n : ℕ) → list_any (nat_eq n) numbers ≡ is_some (value_at values n)
    pub once : IsDistinct nat_eq numbers
    pub short : length values ≤ 2 ^ 32

-- below which numbers there is room, where there is a place for so many values and room for so many numbers
abbrev pub limit_of : ℕ → ℕ → ℕ
limit_of places capacity = if nat_le places capacity then places else 0

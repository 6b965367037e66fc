-- Where a list in order is parted: so many of its first lie before a bound, and none of the rest does. (Our own.)
use Rattle.std.specs.Prelude.{◌≡◌, ℕ, List, true, false, nat_le, nat_lt}
use Rattle.std.specs.List.Sorted.{IsNonDecreasingBy, IsPartitionPoint}
use Rattle.gw_record.specs.declared.kept.Kept.{Kept}

-- kept states in the order of their moments
abbrev pub AreInOrder : List Kept → Type 0
AreInOrder kept = IsNonDecreasingBy (λ (e : Kept). e.moment) kept

-- just the first n of these states are of a moment or of one before it
abbrev pub AreUntil : List Kept → ℕ → ℕ → Type 0
AreUntil kept m n = IsPartitionPoint (λ (e : Kept). nat_le e.moment m ≡ true) (λ e. nat_le e.moment m ≡ false) kept n

-- moments in order
abbrev pub AreMoments : List ℕ → Type 0
AreMoments moments = IsNonDecreasingBy (λ (m : ℕ). m) moments

-- just the first n of these moments lie before another
abbrev pub AreBefore : List ℕ → ℕ → ℕ → Type 0
AreBefore moments m n = IsPartitionPoint (λ (i : ℕ). nat_lt i m ≡ true) (λ i. nat_lt i m ≡ false) moments n

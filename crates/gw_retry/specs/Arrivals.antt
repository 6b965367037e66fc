-- Waiters in order of waiting, by the order in which each came. (Our own.)
use Rattle.std.specs.Prelude.{ℕ, ◌≤◌, ◌<◌, nat_lt, nat_eq, List, [], ◌∷◌, map, if◌then◌else◌}
use Rattle.std.specs.List.{All, count_by}
use Rattle.gw_meaning.specs.Watching.{Waiter}

-- a waiter, and the order in which it came
abbrev pub Arrival : Type 0
Arrival = ℕ × Waiter

-- one more, after those who came before it
abbrev pub put_in : Arrival → List Arrival → List Arrival
put_in a [] = a ∷ []
put_in a (b ∷ bs) = if nat_lt b.0 a.0 then b ∷ put_in a bs else a ∷ b ∷ bs

abbrev pub by_order : List Arrival → List Arrival
by_order [] = []
by_order (a ∷ xs) = put_in a (by_order xs)

abbrev pub in_order : List Arrival → List Waiter
in_order xs = map (λ (a : Arrival). a.1) (by_order xs)

-- no two have the same order, and each came before what comes next
pub record AreDated (next : ℕ) (xs : List Arrival) : Type 0 where
  pub apart : (n : ℕ) → count_by (λ (a : Arrival). nat_eq a.0 n) xs ≤ 1
  pub before : All (λ (a : Arrival). a.0 < next) xs

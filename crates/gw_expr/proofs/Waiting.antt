-- How many values wait.
use Rattle.std.proofs.Common.{arith, ◌≤◌, ℤ, List, [], ◌∷◌, length}
use Rattle.gw_expr.specs.WaitingValues.{joined}

pub joined_fewer : (v : ℤ) (values : List ℤ) → length (joined v values) ≤ length values
joined_fewer v [] = omega arith
joined_fewer v (b ∷ []) = omega arith
joined_fewer v (b ∷ a ∷ values) = omega arith

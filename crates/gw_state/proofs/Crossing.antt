-- The counts that those of a chain change who are let in.
use Rattle.std.proofs.Common.{◌≡◌, ℕ, List, [], ◌∷◌, ◌++◌, Option, Some, None, refl, ap}
use Rattle.gw_meaning.specs.declared.transaction.Transaction.{Transaction}
use Rattle.gw_meaning.specs.declared.watched.Watched.{Watched}
use Rattle.gw_meaning.specs.Changes.{crossing, crossings}
use Rattle.gw_chains.specs.Chains.{with_grant}

abbrev pub all_crossing : List Transaction → List Watched
all_crossing [] = []
all_crossing (x ∷ xs) = crossing x x.destination ++ all_crossing xs

pub crossings_are : (grants : List (Option ℕ)) (xs : List Transaction) → crossings grants xs ≡ all_crossing (with_grant grants xs)
crossings_are [] xs = refl
crossings_are (grant ∷ grants) [] = refl
crossings_are (None ∷ grants) (x ∷ xs) = crossings_are grants xs
crossings_are (Some units ∷ grants) (x ∷ xs) = ap (λ ws. crossing x x.destination ++ ws) (crossings_are grants xs)

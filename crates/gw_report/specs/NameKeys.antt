-- How the code keeps names: as keys, which are hashed. No public clause cites this module. (Our own.)
use Rattle.std.specs.Prelude.{ℕ, List, [], ◌∷◌, map}
use Rattle.gw_names.specs.declared.key.Key.{Key}
use Rattle.gw_names.specs.declared.key.Key.TheVariants.{Num, Named, Defined}

abbrev pub as_keys : List (List ℕ) → List Key
as_keys names = map (λ (name : List ℕ). Named name) names

-- the names among keys
abbrev pub names_among : List Key → List (List ℕ)
names_among [] = []
names_among (Num number ∷ keys) = names_among keys
names_among (Defined name ∷ keys) = names_among keys
names_among (Named name ∷ keys) = name ∷ names_among keys

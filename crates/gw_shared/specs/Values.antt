-- How a list of values that are not plain data lies in memory. (Our own.)
use Rattle.std.specs.Prelude.{◌≡◌, ◌<◌, ◌≤◌, List, [], ◌∷◌, length, unwrap_or, option_map}
use Rattle.std.specs.List.{flat_map}
use Rattle.gw_shared.specs.declared.values.Block.{Block}

-- the values of a block, and of blocks, one after another
abbrev pub block_values : {A : Type 0} → Block A → List A
block_values b = unwrap_or (option_map (λ a. a.value.items) b.shared) b.own.items

abbrev pub in_blocks : {A : Type 0} → List (Block A) → List A
in_blocks bs = flat_map block_values bs

-- each of these is full, but the last may have fewer, and has one at the least (16 is BLOCK)
abbrev pub AreLaidOut : {A : Type 0} → List (List A) → Type 0
AreLaidOut [] = Unit {0}
AreLaidOut (xs ∷ []) = (0 < length xs) × (length xs ≤ 16)
AreLaidOut (xs ∷ ys ∷ rest) = (length xs ≡ 16) × AreLaidOut (ys ∷ rest)

-- the last of these is there, and is not full
abbrev pub HasRoom : {A : Type 0} → List (List A) → Type 0
HasRoom [] = ⊥
HasRoom (xs ∷ []) = length xs < 16
HasRoom (xs ∷ ys ∷ rest) = HasRoom (ys ∷ rest)

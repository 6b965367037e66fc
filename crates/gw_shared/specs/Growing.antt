-- How a list that grows at its end lies in memory. (Our own.)
use Rattle.std.specs.Prelude.{◌≡◌, List, [], ◌∷◌, length}
use Rattle.std.specs.List.{flat_map}
use Rattle.gw_shared.specs.declared.growing.Block.{Block}

-- the items of a block, and of blocks, one after another
abbrev pub block_items : {A : Type 0} → Block A → List A
block_items b = b.items.value.items

abbrev pub in_blocks : {A : Type 0} → List (Block A) → List A
in_blocks bs = flat_map block_items bs

-- each of these is full (1024 is BLOCK)
abbrev pub AreFull : {A : Type 0} → List (List A) → Type 0
AreFull [] = Unit {0}
AreFull (xs ∷ rest) = (length xs ≡ 1024) × AreFull rest

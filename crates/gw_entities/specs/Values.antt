-- How the values of a table lie in memory. (Our own.)
use Rattle.std.specs.Prelude.{◌≡◌, ℤ, List, [], ◌∷◌, length}
use Rattle.std.specs.List.{flat_map}
use Rattle.gw_entities.specs.declared.values.Block.{Block}

-- the values of a block, and of blocks, one after another
abbrev pub block_values : Block → List ℤ
block_values b = b.values.value.items

abbrev pub in_blocks : List Block → List ℤ
in_blocks bs = flat_map block_values bs

-- each of these is full (4096 is BLOCK)
abbrev pub AreFull : List (List ℤ) → Type 0
AreFull [] = Unit {0}
AreFull (vs ∷ rest) = (length vs ≡ 4096) × AreFull rest

-- A list in chunks. (Our own.)
use Rattle.std.specs.Prelude.{◌≡◌, ℕ, zero, suc, ◌+◌, ◌<◌, List, [], ◌∷◌, length, take}
use Rattle.std.specs.List.{flat_map, slice_index_or}
use Rattle.gw_shared.specs.declared.chunk.Chunk.{Chunk}
use Rattle.gw_shared.specs.declared.chunk.Chunk.TheVariants.{Nothing, Shared, Own}

-- a list, and how many more items it takes without memory
pub record Roomy (A : Type 0) : Type 0 where
  pub items : List A
  pub room : ℕ

-- the items of a chunk
abbrev pub chunk_items : {A : Type 0} → Chunk A → List A
chunk_items Nothing = []
chunk_items (Shared s) = s.value.value
chunk_items (Own b) = b.value

-- the items of chunks, one after another
abbrev pub joined : {A : Type 0} → List (Chunk A) → List A
joined cs = flat_map chunk_items cs

-- the item at i stands in the chunk at q, at r of it
pub record IsPlace {A : Type 0} (cs : List (Chunk A)) (i q r : ℕ) : Type 0 where
  pub within : q < length cs
  pub before : length (joined (take q cs)) + r ≡ i
  pub inside : (c : Chunk A) → c ≡ slice_index_or cs q c → r < length (chunk_items c)

-- the first n chunks are full (64 is CHUNK)
abbrev pub AreFull : {A : Type 0} → ℕ → List (Chunk A) → Type 0
AreFull zero cs = Unit {0}
AreFull (suc n) [] = ⊥
AreFull (suc n) (c ∷ cs) = (length (chunk_items c) ≡ 64) × AreFull n cs

-- The chains of transactions, and who is let in from one to another. (Our own.)
use Rattle.std.specs.Prelude.{ℕ, ◌<◌, Bool, false, List, [], ◌∷◌, ◌≤◌, Option, Some, None, is_some}
use Rattle.std.specs.Prelude.{option_map, unwrap_or, slice_get, length}
use Rattle.gw_names.specs.declared.key.Key.{Key}
use Rattle.gw_meaning.specs.Tables.{with_value}
use Rattle.gw_meaning.specs.declared.transaction.Transaction.{Transaction}
use Rattle.gw_meaning.specs.Machine.{Machine}
use Rattle.gw_meaning.specs.Changes.{let_in}

-- a chain
pub record Chain (A : Type 0) : Type 0 where
  -- what is on it, in order
  pub items : List A
  -- how many more it takes without memory
  pub room : ℕ

-- who waits on each delay chain
abbrev pub delays_of : List (Key × Chain Transaction) → List (Key × List Transaction)
delays_of [] = []
delays_of (c ∷ cs) = (c.0, c.1.items) ∷ delays_of cs

-- who waits on a chain, where there is one
abbrev pub items_of : Option (Chain Transaction) → List Transaction
items_of None = []
items_of (Some c) = c.items

-- how many changes there is room for on it
abbrev pub room_of : Option (Chain Transaction) → ℕ
room_of None = 0
room_of (Some c) = c.room

-- the first of a chain
abbrev pub first_of : List Transaction → Option Transaction
first_of [] = None
first_of (x ∷ xs) = Some x

-- the delay chains without the first of one of them, where there is one
abbrev pub without_first :
    List (Key × List Transaction) → Key → List Transaction → List (Key × List Transaction)
without_first delays key [] = delays
without_first delays key (x ∷ xs) = with_value delays key xs

-- there is room for one that is let in, where there is one: on the current chain, and to count it in its block
abbrev pub IsWithin : Option ℕ → ℕ → Type 0
IsWithin None limit = Unit {0}
IsWithin (Some id) limit = id < limit

abbrev pub HasRoomToLetIn : Option Transaction → ℕ → ℕ → Type 0
HasRoomToLetIn None room limit = Unit {0}
HasRoomToLetIn (Some x) room limit = (0 < room) × IsWithin x.destination limit

-- whether the one at an index of a chain has a grant
abbrev pub has_grant : List (Option ℕ) → ℕ → Bool
has_grant grants index = unwrap_or (option_map (λ (grant : Option ℕ). is_some grant) (slice_get grants index)) false

-- of a chain those with a grant, and those who go on waiting
abbrev pub with_grant : List (Option ℕ) → List Transaction → List Transaction
with_grant [] chain = []
with_grant (grant ∷ grants) [] = []
with_grant (None ∷ grants) (x ∷ xs) = with_grant grants xs
with_grant (Some units ∷ grants) (x ∷ xs) = x ∷ with_grant grants xs

abbrev pub without_grant : List (Option ℕ) → List Transaction → List Transaction
without_grant [] chain = chain
without_grant (grant ∷ grants) [] = []
without_grant (None ∷ grants) (x ∷ xs) = x ∷ without_grant grants xs
without_grant (Some units ∷ grants) (x ∷ xs) = without_grant grants xs

-- there is room for all of these to be let in
abbrev pub AreWithin : List Transaction → ℕ → Type 0
AreWithin [] limit = Unit {0}
AreWithin (x ∷ xs) limit = IsWithin x.destination limit × AreWithin xs limit

abbrev pub HasRoomToLetAllIn : List Transaction → ℕ → ℕ → Type 0
HasRoomToLetAllIn xs room limit = (length xs ≤ room) × AreWithin xs limit

-- these are let in, one by one
abbrev pub all_let_in : List Transaction → Machine → Machine
all_let_in [] s = s
all_let_in (x ∷ xs) s = all_let_in xs (let_in x x.destination s)

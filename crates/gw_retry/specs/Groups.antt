-- Waiters group by group: a group are those who read the same list. (Our own.)
use Rattle.std.specs.Prelude.{◌≡◌, ℕ, suc, ◌≤◌, ◌<◌, Bool, nat_eq, List, length, insert, slice_index_or}
use Rattle.std.specs.List.Sorted.{IsNonDecreasingBy}
use Rattle.gw_retry.specs.declared.retry.Waiting.{Waiting}

-- they lie in order of their groups
abbrev pub AreGrouped : List Waiting → Type 0
AreGrouped ws = IsNonDecreasingBy (λ (w : Waiting). w.place) ws

-- whether a waiter is of the group at a place
abbrev pub is_at : ℕ → Waiting → Bool
is_at place w = nat_eq w.place place

-- the groups from a place on begin at an index
pub record IsCut (place : ℕ) (ws : List Waiting) (i : ℕ) : Type 0 where
  pub within : i ≤ length ws
  pub below : (k : ℕ) (d : Waiting) → k < i → (slice_index_or ws k d).place < place
  pub from : (k : ℕ) (d : Waiting) → i ≤ k → k < length ws → place ≤ (slice_index_or ws k d).place

-- one more, after the others of its group
pub record IsJoined (w : Waiting) (old new : List Waiting) : Type 0 where
  pub end : ℕ
  pub cut : IsCut (suc w.place) old end
  pub items : new ≡ insert old end w

-- The frame law in positions. A state names a block by its statement id, which edits leave alone; a version tells its
-- position. Where statements of a version are deleted and others are inserted between those that stay, the positions
-- after them move, and nothing else of a run does that answers alike. (Manual: positions. Our own: statement ids.)
use Rattle.std.specs.Prelude.{ℕ, ◌≡◌, ◌+◌, ◌-◌, ◌<◌, ◌≤◌, List, ◌++◌, length, map, filter, Ok, if◌then◌else◌, nat_le, unwrap_or}
use Rattle.gw_meaning.specs.declared.statement.Numbered.{Numbered}
use Rattle.gw_meaning.specs.Listing.{Listing, is_block, position_at}
use Rattle.gw_meaning.specs.Numbers.{AreNumbered}
use Rattle.gw_meaning.specs.Machine.{Machine}
use Rattle.gw_meaning.specs.Step.{run}
use Rattle.gw_meaning.specs.Reads.{reads}
use Rattle.gw_frame.specs.Alike.{AnswersAlike}
use Rattle.gw_frame.specs.Moved.{moved_item, moved_machine}

-- the position of an id, from 1; 0 for what is no block of the version
abbrev pub position_of : Listing → ℕ → ℕ
position_of t id = unwrap_or (position_at t id) 0

-- at most one statement is deleted, and at most one is inserted, between a front and a back that stay
pub record IsSplice (t u : Listing) (front deleted inserted back : List Numbered) : Type 0 where
  pub old : t.lines ≡ front ++ (deleted ++ back)
  pub new : u.lines ≡ front ++ (inserted ++ back)
  pub one_deleted : length deleted ≤ 1
  pub one_inserted : length inserted ≤ 1

abbrev pub count_blocks : List Numbered → ℕ
count_blocks lines = length (filter is_block lines)

-- positions after the front move on by the inserted blocks, and back by the deleted ones
abbrev pub shifted : List Numbered → List Numbered → List Numbered → ℕ → ℕ
shifted front deleted inserted position =
    if nat_le position (count_blocks front) then position else (position - count_blocks deleted) + count_blocks inserted

-- where the second version answers alike all that the steps below n read, the run of n steps is the same state; told in
-- positions it is the old one with its positions moved, and its steps read the old items moved
abbrev pub FrameInPositions : Type 0
FrameInPositions =
    (t : Listing) (seed : ℕ) (u : Listing) (new_seed n : ℕ) (s : Machine)
    (front deleted inserted back : List Numbered) →
    IsSplice t u front deleted inserted back → AreNumbered t.lines → AreNumbered u.lines → run t seed n ≡ Ok s →
    ((j : ℕ) → j < n → AnswersAlike t seed u new_seed (reads t seed j)) →
    (run u new_seed n ≡ Ok s)
    × (moved_machine (position_of u) s
    ≡ moved_machine (shifted front deleted inserted) (moved_machine (position_of t) s))
    × ((j : ℕ) → j < n →
    map (moved_item (position_of u)) (reads u new_seed j)
    ≡ map (moved_item (shifted front deleted inserted)) (map (moved_item (position_of t)) (reads t seed j)))

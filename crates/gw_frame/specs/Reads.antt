-- What each step of a run from zero reads, which a recorded run keeps; and the law that the run depends on nothing
-- else. (Our own.)
use Rattle.std.specs.Prelude.{◌≡◌, ℕ, zero, suc, ◌<◌, List, [], ◌++◌, Ok}
use Rattle.gw_meaning.specs.declared.item.Item.{Item}
use Rattle.gw_meaning.specs.Listing.{Listing}
use Rattle.gw_meaning.specs.Machine.{Machine}
use Rattle.gw_meaning.specs.Questions.{items_of}
use Rattle.gw_meaning.specs.Step.{step, step_items, run, run_prog}
use Rattle.gw_meaning.specs.Reads.{reads}
use Rattle.gw_frame.specs.Alike.{AnswersAlike}

-- what the steps below n read, one after another
abbrev pub reads_below : Listing → ℕ → ℕ → List Item
reads_below t seed zero = []
reads_below t seed (suc n) = reads_below t seed n ++ reads t seed n

-- a run that comes so far asks just what its steps read
abbrev pub RunAsksItsReads : Type 0
RunAsksItsReads = (t : Listing) (seed n : ℕ) (s : Machine) → run t seed n ≡ Ok s →
    items_of t seed (run_prog n) ≡ reads_below t seed n

-- a step that a version answers alike in all that it reads is the same step, where there is one, and reads the same
abbrev pub UnseenStepReads : Type 0
UnseenStepReads =
    (t : Listing) (seed : ℕ) (u : Listing) (new_seed : ℕ) (s v : Machine) → step t seed s ≡ Ok v →
    AnswersAlike t seed u new_seed (step_items t seed s) →
    (step u new_seed s ≡ Ok v) × (step_items u new_seed s ≡ step_items t seed s)

-- a version that answers alike all that the steps below n read comes to the same state after n steps, and they read
-- the same
abbrev pub UnseenReads : Type 0
UnseenReads =
    (t : Listing) (seed : ℕ) (u : Listing) (new_seed n : ℕ) (s : Machine) → run t seed n ≡ Ok s →
    ((j : ℕ) → j < n → AnswersAlike t seed u new_seed (reads t seed j)) →
    (run u new_seed n ≡ Ok s) × ((j : ℕ) → j < n → reads u new_seed j ≡ reads t seed j)

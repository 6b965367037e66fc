-- The contents of blocks over every run from zero. (Manual. A content, too, stays at 2^64 - 1 once it is there: hence
-- the step limit, within which no run comes so far.)
use Rattle.std.specs.Prelude.{◌≡◌, ℕ, ◌≤◌, ◌<◌, ◌==◌, List, Ok, count_by}
use Rattle.gw_meaning.specs.declared.transaction.Transaction.{Transaction}
use Rattle.gw_meaning.specs.Listing.{Listing}
use Rattle.gw_meaning.specs.Machine.{Machine, count_at}
use Rattle.gw_meaning.specs.Step.{run}
use Rattle.gw_model.specs.Well.{Well}
use Rattle.gw_laws.specs.Living.{living}

-- how many of these transactions stand in a block
abbrev pub standing_in : ℕ → List Transaction → ℕ
standing_in id xs = count_by (λ (x : Transaction). x.current == id) xs

-- a block's content is the number of the transactions that stand in it; one before its GENERATE is at 0, no block
abbrev pub ContentsAreCounts : Type 0
ContentsAreCounts =
    (t : Listing) (seed n : ℕ) (s : Machine) → Well t → n ≤ t.limit → run t seed n ≡ Ok s →
    (id : ℕ) → 0 < id → (count_at s.counts id).content ≡ standing_in id (living s)

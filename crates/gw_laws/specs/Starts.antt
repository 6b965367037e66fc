-- The STARTs over every run from zero: done in order, and each counted once. (Our own. A version that may be run has
-- far fewer statements than a count of 64 bits goes to.)
use Rattle.std.specs.Prelude.{◌≡◌, ℕ, zero, suc, ◌+◌, ◌≤◌, Some, Ok, take, filter, length}
use Rattle.std.specs.List.{filter_map}
use Rattle.gw_meaning.specs.declared.statement.Command.TheVariants as commands
use Rattle.gw_meaning.specs.Listing.{Listing, command_of, command_at, is_start, starts}
use Rattle.gw_meaning.specs.Machine.{Machine}
use Rattle.gw_meaning.specs.Step.{run}
use Rattle.gw_model.specs.Well.{Well}

-- the STARTs among the first commands
abbrev pub starts_among : Listing → ℕ → ℕ
starts_among t n = length (filter is_start (take n (filter_map command_of t.lines)))

-- 1 where a START is under way: where some of its count remains
abbrev pub under_way : ℕ → ℕ
under_way zero = 0
under_way (suc n) = 1

-- each START of a version has a count above 0
abbrev pub StartsHaveCounts : Listing → Type 0
StartsHaveCounts t = (i count : ℕ) → command_at t i ≡ Some (commands.Start count) → 1 ≤ count

-- the STARTs that are complete, and the one under way, are those among the commands that are done
abbrev pub StartsAreDoneInOrder : Type 0
StartsAreDoneInOrder =
    (t : Listing) (seed n : ℕ) (s : Machine) → Well t → StartsHaveCounts t → run t seed n ≡ Ok s →
    s.complete + under_way s.remaining ≡ starts_among t s.commands

-- no more STARTs are complete than there are
abbrev pub NoMoreStartsThanThereAre : Type 0
NoMoreStartsThanThereAre =
    (t : Listing) (seed n : ℕ) (s : Machine) → Well t → run t seed n ≡ Ok s → s.complete ≤ starts t

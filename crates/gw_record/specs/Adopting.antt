-- What a recorded run takes over of a branch of the same run. (Our own.)
use Rattle.std.specs.Prelude.{◌≡◌, ℕ, ◌%◌, ◌&&◌, ◌||◌, ◌==◌, not, Bool, true, false, ◌++◌, List, take, filter, nat_le, nat_lt}
use Rattle.std.specs.List.{list_any}
use Rattle.std.specs.List.Sorted.{IsPartitionPoint}
use Rattle.gw_record.specs.declared.kept.Kept.{Kept}
use Rattle.gw_record.specs.Parting.{AreInOrder}
use Rattle.gw_record.specs.Tape.{Tape}

-- just the first n of these states are of a moment before another
abbrev pub AreUnder : List Kept → ℕ → ℕ → Type 0
AreUnder kept m n = IsPartitionPoint (λ (e : Kept). nat_lt e.moment m ≡ true) (λ e. nat_lt e.moment m ≡ false) kept n

-- whether a branch's start is kept wherever the record starts: a multiple of the spacing, or a START end
abbrev pub keeps_start : Tape → Bool
keeps_start branch = (branch.start % branch.every == 0) || list_any (λ end. end == branch.start) branch.ends

-- whether a state of a branch is taken over by a record whose tip stands at `from`: it lies there or later, and not at
-- the branch's start, unless that is kept anyway
abbrev pub is_adopted : ℕ → ℕ → Bool → Kept → Bool
is_adopted from start common e = nat_le from e.moment && (common || not (e.moment == start))

-- so many of the record's states stay, and those of the branch that are taken over come after them; all else is the
-- branch's
abbrev pub adoption : Tape → Tape → ℕ → Tape
adoption own branch count =
    record own {
      moment = branch.moment;
      tip = branch.tip;
      kept =
          take count own.kept ++ filter (is_adopted own.moment branch.start (keeps_start branch)) branch.kept;
      ends = branch.ends;
      firsts = branch.firsts;
    }

-- those before its tip stay
pub record Adopts (own branch new : Tape) : Type 0 where
  pub count : ℕ
  pub before : AreInOrder own.kept → AreUnder own.kept own.moment count
  pub is : new ≡ adoption own branch count

-- The queues, over every run from zero. (Our own: the limit of 1,000,000,000, at which a run stops.)
use Rattle.std.specs.Prelude.{◌≡◌, ℕ, ◌≤◌, Ok, All}
use Rattle.gw_names.specs.declared.key.Key.{Key}
use Rattle.gw_meaning.specs.Records.{Line}
use Rattle.gw_meaning.specs.Listing.{Listing}
use Rattle.gw_meaning.specs.Machine.{Machine}
use Rattle.gw_meaning.specs.Step.{run}

-- no count of a queue is above the limit, and it did not change later than now: so no count ever stood still at its
-- greatest value, and no change was taken for a later one
pub record IsWithin (clock : ℕ) (q : Line) : Type 0 where
  pub entries : q.entries ≤ 1000000000
  pub zero_entries : q.zero_entries ≤ 1000000000
  pub greatest : q.greatest ≤ 1000000000
  pub content : q.level.content ≤ 1000000000
  pub at : q.level.at ≤ clock

abbrev pub QueuesAreWithin : Type 0
QueuesAreWithin =
    (t : Listing) (seed n : ℕ) (s : Machine) → run t seed n ≡ Ok s →
    All (λ (q : Key × Line). IsWithin s.clock q.1) s.entities.queues

-- What a run that is offered leaves of the desk: the recorded run of its replication adopts it, or nothing changes,
-- since it does not go on from there. (Our own.)
use Rattle.std.specs.Prelude.{◌≡◌, ◌≢◌, ◌⊎◌, ℕ, ◌<◌, ◌≤◌, Some}
use Rattle.gw_record.specs.Tape.{Tape}
use Rattle.gw_record.specs.Adopting.{Adopts}
use Rattle.gw_desk.specs.declared.post.Post.{Post}
use Rattle.gw_desk.specs.declared.post.Post.TheVariants as posts
use Rattle.gw_desk.specs.Book.{Book, run_in}

-- a recorded run and one that is offered, of the same replication: it adopts that where it starts at or below the tip
-- and goes on beyond it; else it stays
abbrev pub Continues : Tape → Tape → Post → Tape → Type 0
Continues own left posts.Posted new = (left.start ≤ own.moment) × (own.moment < left.moment) × Adopts own left new
Continues own left posts.Dropped new = (new ≡ own) × ((own.moment < left.start) ⊎ (left.moment ≤ own.moment))

pub record RecordsOn (b : Book) (rep : ℕ) (left : Tape) (c : Book) : Type 0 where
  pub own : Tape
  pub had : run_in b.runs rep ≡ Some own
  pub from : left.start ≤ own.moment
  pub beyond : own.moment < left.moment
  pub run : Tape
  pub there : run_in c.runs rep ≡ Some run
  pub moment : run.moment ≡ left.moment
  pub opening : c.opening ≡ b.opening
  pub version : c.version ≡ b.version
  pub every : c.every ≡ b.every
  pub edits : c.edits ≡ b.edits
  pub made : c.made ≡ b.made
  pub others : (number : ℕ) → number ≢ rep → run_in c.runs number ≡ run_in b.runs number

pub record IsInVain (b : Book) (rep : ℕ) (left : Tape) : Type 0 where
  pub own : Tape
  pub had : run_in b.runs rep ≡ Some own
  pub why : (own.moment < left.start) ⊎ (left.moment ≤ own.moment)

abbrev pub Offers : Book → ℕ → Tape → Post → Book → Type 0
Offers b rep left posts.Posted c = RecordsOn b rep left c
Offers b rep left posts.Dropped c = (c ≡ b) × IsInVain b rep left

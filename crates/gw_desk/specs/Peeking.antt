-- What a query may be answered. (Our own.)
use Rattle.std.specs.Prelude.{◌≡◌, ◌⊎◌, ℕ, ◌≤◌, Some, length}
use Rattle.gw_meaning.specs.Listing.{seed_at, starts}
use Rattle.gw_record.specs.Tape.{Tape}
use Rattle.gw_desk.specs.declared.answer.Answer.{Answer}
use Rattle.gw_desk.specs.declared.answer.Answer.TheVariants as answers
use Rattle.gw_desk.specs.Looking.{IsOpen}
use Rattle.gw_desk.specs.Replies.{answer_of}
use Rattle.gw_desk.specs.Book.{Book, run_in}

-- the recorded steps of a replication do not decide on a START that there is
pub record IsUnfinished (b : Book) (rep k n : ℕ) : Type 0 where
  pub seed : ℕ
  pub run : Tape
  pub with_seed : seed_at b.version rep ≡ Some seed
  pub recorded : run_in b.runs rep ≡ Some run
  pub steps : n ≡ run.moment
  pub some : 1 ≤ k
  pub there : k ≤ starts b.version
  pub undecided : IsOpen b.version seed k n

-- the answer of the run from zero, where the recorded steps decide; else that they do not
abbrev pub Decided : Book → ℕ → ℕ → Answer → Type 0
Decided b rep k answer = (answer ≡ answer_of b.version (length b.edits) rep k) × ((n : ℕ) → IsUnfinished b rep k n → ⊥)

abbrev pub Peeks : Book → ℕ → ℕ → Answer → Type 0
Peeks b rep k (answers.Unfinished n) = IsUnfinished b rep k n
Peeks b rep k answers.Memory = Unit {0}
Peeks b rep k (answers.Ready report) = Decided b rep k (answers.Ready report)
Peeks b rep k answers.NoStart = Decided b rep k answers.NoStart
Peeks b rep k answers.TooLong = Decided b rep k answers.TooLong
Peeks b rep k answers.NoReplication = Decided b rep k answers.NoReplication

-- the answer of the run from zero, or out of memory
abbrev pub IsAnswer : Answer → Answer → Type 0
IsAnswer whole answer = (answer ≡ whole) ⊎ (answer ≡ answers.Memory)

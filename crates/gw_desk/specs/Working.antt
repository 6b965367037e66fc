-- What the line `work` comes to: one worker takes a leg, works it and posts it. (Our own.)
use Rattle.std.specs.Prelude.{◌≡◌, ℕ, Option, Some, None}
use Rattle.gw_meaning.specs.Listing.{seed_at}
use Rattle.gw_record.specs.Tape.{Tape}
use Rattle.gw_record.specs.Extending.{Extends}
use Rattle.gw_desk.specs.declared.post.Post.{Post}
use Rattle.gw_desk.specs.Book.{Book, IsBook, run_in}
use Rattle.gw_desk.specs.Legs.{Leg, Takes, Works}
use Rattle.gw_desk.specs.Posting.{Posts}

-- the worker does so, where there is a leg to take
pub data IsWorked (b : Book) (rep steps : ℕ) (c : Book) : Type 0 where
  no_leg : Takes b rep None → c ≡ b → IsWorked b rep steps c
  by_leg : (l m : Leg) (made : ℕ) (post : Post) → Takes b rep (Some l) → Works steps made l m →
      Extends l.version l.seed steps made l.run m.run → Posts b m post c → IsWorked b rep steps c

-- so many steps of a replication that there is are recorded
pub record IsRecorded (c : Book) (rep n : ℕ) : Type 0 where
  pub seed : ℕ
  pub with_seed : seed_at c.version rep ≡ Some seed
  pub run : Tape
  pub there : run_in c.runs rep ≡ Some run
  pub steps : n ≡ run.moment

-- and this is answered: the recorded number then; none where there is no such replication
abbrev pub IsCounted : Book → ℕ → Option ℕ → Type 0
IsCounted c rep None = seed_at c.version rep ≡ None
IsCounted c rep (Some n) = IsRecorded c rep n

pub record WorksWell (b : Book) (rep steps : ℕ) (answer : Option ℕ) (c : Book) : Type 0 where
  pub desk : IsBook b → IsBook c
  pub worked : IsWorked b rep steps c
  pub counted : IsCounted c rep answer

-- or a growth is refused, and nothing changes
abbrev pub WorksOn : Book → ℕ → ℕ → Option (Option ℕ) → Book → Type 0
WorksOn b rep steps None c = c ≡ b
WorksOn b rep steps (Some answer) c = WorksWell b rep steps answer c

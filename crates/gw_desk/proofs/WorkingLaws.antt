-- What the line `work` answers.
use Rattle.std.proofs.Common.{◌≡◌, ◌↔◌, ℕ, true, false, Option, Some, None, IsSome, option_map, ◌-◌, refl, subst, arith}
use Rattle.gw_meaning.specs.Listing.{seed_at}
use Rattle.gw_record.specs.Tape.{Tape}
use Rattle.gw_record.specs.Extending.{Extends}
use Rattle.gw_desk.specs.declared.post.Post.{Post}
use Rattle.gw_desk.specs.Book.{Book, run_in}
use Rattle.gw_desk.specs.Legs.{Leg, Takes, Works}
use Rattle.gw_desk.specs.Posting.{Posts}
use Rattle.gw_desk.specs.Working.{IsCounted, IsWorked}

-- a leg was taken, worked and posted
pub by_leg : (b c : Book) (rep steps : ℕ) (l m : Leg) (made : ℕ) (post : Post) → Takes b rep (Some l) → Works steps (m.run.moment - l.run.moment) l m →
    Extends l.version l.seed steps made l.run m.run → Posts b m post c → IsWorked b rep steps c
by_leg b c rep steps l m made post takes works done posts =
    let goes = done.moment in
    let count : m.run.moment - l.run.moment ≡ made = omega (arith, goes) in
    IsWorked.by_leg l m made post takes (subst (λ (n : ℕ). Works steps n l m) count works) done posts

-- the number of recorded steps of a replication, or none where there is none
pub is_counted : (c : Book) (rep : ℕ) (count : Option ℕ) → count ≡ option_map (λ (r : Tape). r.moment) (run_in c.runs rep) →
    IsSome count ↔ IsSome (seed_at c.version rep) → IsCounted c rep count
is_counted c rep count value there = go (seed_at c.version rep) refl (run_in c.runs rep) refl count value there where
  go : (seed : Option ℕ) → seed_at c.version rep ≡ seed → (run : Option Tape) → run_in c.runs rep ≡ run → (n : Option ℕ) →
      n ≡ option_map (λ (r : Tape). r.moment) run → IsSome n ↔ IsSome seed → IsCounted c rep n
  go None is run found None value there = is
  go (Some seed) is run found None value there = let no : false ≡ true = there.1 refl in absurd cc
  go (Some seed) is (Some run) found (Some n) value there =
      let steps : n ≡ run.moment = cc in
      record { seed = seed; with_seed = is; run = run; there = found; steps = steps }
  go (Some seed) is None found (Some n) value there = absurd cc
  go None is run found (Some n) value there = let no : false ≡ true = there.0 refl in absurd cc

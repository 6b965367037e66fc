-- What a query is answered is what the search for the point found.
use Rattle.std.proofs.Common.{◌≡◌, ◌⊎◌, ℕ, ◌≤◌, ◌<◌, ◌==◌, ◌||◌, nat_lt, Bool, true, false, Some, inl, inr, refl, arith}
use Rattle.std.proofs.lemmas.Bool.{or_left, or_right, or_from, eq-eqb, ne_eqb, lt-ltb, le-ltb}
use Rattle.gw_meaning.specs.Listing.{Listing, seed_at, starts}
use Rattle.gw_desk.specs.Finding.{Verdict, Point, NoStart, TooLong, verdict}
use Rattle.gw_desk.specs.Points.{Means}
use Rattle.gw_desk.specs.Replies.{told}
use Rattle.gw_desk.specs.Telling.{Tells, AnswersTell, MissingAreTold, NoStartIsTold}
use Rattle.gw_desk.proofs.PointsFound.{points_found}

-- a verdict is told as it is meant
verdict_tells : (t : Listing) (edits rep k seed : ℕ) (v : Verdict) → Means t seed k v → Tells t edits rep k seed (told t edits rep k v)
verdict_tells t edits rep k seed (Point s o) m = record { n = m.0; outcome = o; state = s; point = m.1; is = refl }
verdict_tells t edits rep k seed NoStart m = m
verdict_tells t edits rep k seed TooLong m = m

module _ (t : Listing) (edits rep k seed : ℕ) (there : seed_at t rep ≡ Some seed) where
  -- whether there is no such START
  abbrev no_start : Bool
  no_start = k == 0 || nat_lt (starts t) k

  start_there : 1 ≤ k → k ≤ starts t → no_start ≡ false
  start_there least most = or_from (k == 0) (nat_lt (starts t) k) (ne_eqb k 0 (λ e. omega (arith, e, least))) (le-ltb (starts t) k most)

  start_missing : (k ≡ 0) ⊎ (starts t < k) → no_start ≡ true
  start_missing (inl none) = or_left (k == 0) (nat_lt (starts t) k) (eq-eqb k 0 none)
  start_missing (inr beyond) = or_right (k == 0) (nat_lt (starts t) k) (lt-ltb (starts t) k beyond)

pub answers_tell : AnswersTell
answers_tell t edits rep k seed there least most =
    let found = verdict_tells t edits rep k seed (verdict t seed k) (points_found t seed k least) in
    rw (there, start_there t edits rep k seed there least most) found

pub missing_are_told : MissingAreTold
missing_are_told t edits rep k none = rw none refl

pub no_start_is_told : NoStartIsTold
no_start_is_told t edits rep k seed there missing = rw (there, start_missing t edits rep k seed there missing) refl

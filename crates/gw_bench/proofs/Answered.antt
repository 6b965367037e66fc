-- What a desk answers, said of the version of a front.
use Rattle.std.proofs.Common.{◌≡◌, ◌⊎◌, inl, inr, ℕ, ◌==◌, ◌||◌, nat_lt, Bool, true, false, Option, Some, None, if◌then◌else◌, refl, sym}
use Rattle.gw_meaning.specs.Listing.{Listing, seed_at, starts}
use Rattle.gw_desk.specs.declared.answer.Answer.{Answer}
use Rattle.gw_desk.specs.declared.answer.Answer.TheVariants as answers
use Rattle.gw_desk.specs.Finding.{Verdict, Point, NoStart, TooLong, verdict}
use Rattle.gw_desk.specs.Replies.{answer_of, answer_with, told}
use Rattle.gw_desk.specs.Peeking.{IsAnswer}
use Rattle.gw_bench.specs.Telling.{IsFinished}

-- the answer of a run from zero is never that it is unfinished
module _ (t : Listing) (edits rep k n : ℕ) where
  not_told : (v : Verdict) → told t edits rep k v ≡ answers.Unfinished n → ⊥
  not_told (Point s o) is = absurd cc
  not_told NoStart is = absurd cc
  not_told TooLong is = absurd cc

  not_where : (missing : Bool) (v : Verdict) → (if missing then answers.NoStart else told t edits rep k v) ≡ answers.Unfinished n → ⊥
  not_where true v is = absurd cc
  not_where false v is = not_told v is

  not_with : (seed : Option ℕ) → answer_with t edits rep k seed ≡ answers.Unfinished n → ⊥
  not_with None is = absurd cc
  not_with (Some seed) is = not_where (k == 0 || nat_lt (starts t) k) (verdict t seed k) is

  never_unfinished : answer_of t edits rep k ≡ answers.Unfinished n → ⊥
  never_unfinished is = not_with (seed_at t rep) is

pub finish_answers : (t : Listing) (edits rep k : ℕ) (answer : Answer) → IsAnswer (answer_of t edits rep k) answer → IsFinished t edits rep k answer
finish_answers t edits rep k (answers.Ready report) (inl is) = is
finish_answers t edits rep k (answers.Ready report) (inr none) = absurd cc
finish_answers t edits rep k (answers.Unfinished n) (inl is) = absurd (never_unfinished t edits rep k n (sym is))
finish_answers t edits rep k (answers.Unfinished n) (inr none) = absurd cc
finish_answers t edits rep k answers.NoStart (inl is) = is
finish_answers t edits rep k answers.NoStart (inr none) = absurd cc
finish_answers t edits rep k answers.TooLong (inl is) = is
finish_answers t edits rep k answers.TooLong (inr none) = absurd cc
finish_answers t edits rep k answers.NoReplication (inl is) = is
finish_answers t edits rep k answers.NoReplication (inr none) = absurd cc
finish_answers t edits rep k answers.Memory is = tt

-- What a query of a version is answered: the report of the run from zero, or that there is none. (Our own.)
use Rattle.std.specs.Prelude.{ℕ, ◌==◌, ◌||◌, Option, Some, None, if◌then◌else◌, nat_lt}
use Rattle.gw_meaning.specs.Listing.{Listing, seed_at, starts}
use Rattle.gw_report.specs.Report.{text_of}
use Rattle.gw_desk.specs.declared.answer.Answer.{Answer}
use Rattle.gw_desk.specs.declared.answer.Answer.TheVariants as answers
use Rattle.gw_desk.specs.Finding.{Verdict, Point, NoStart, TooLong, verdict}

-- a verdict, told of a version after so many accepted edits
abbrev pub told : Listing → ℕ → ℕ → ℕ → Verdict → Answer
told t edits rep k (Point s o) =
    answers.Ready (record { edits = edits; replication = rep; start = k; text = text_of t rep k s o })
told t edits rep k NoStart = answers.NoStart
told t edits rep k TooLong = answers.TooLong

-- of a START that there is, what the run from zero comes to
abbrev pub told_of : Listing → ℕ → ℕ → ℕ → ℕ → Answer
told_of t edits rep k seed =
    if k == 0 || nat_lt (starts t) k then answers.NoStart else told t edits rep k (verdict t seed k)

abbrev pub answer_with : Listing → ℕ → ℕ → ℕ → Option ℕ → Answer
answer_with t edits rep k None = answers.NoReplication
answer_with t edits rep k (Some seed) = told_of t edits rep k seed

-- the answer for START k of a replication
abbrev pub answer_of : Listing → ℕ → ℕ → ℕ → Answer
answer_of t edits rep k = answer_with t edits rep k (seed_at t rep)

-- What a query of a version is answered, by what a point is. (Our own.)
use Rattle.std.specs.Prelude.{◌≡◌, ◌≤◌, ◌<◌, ◌⊎◌, ℕ, Some, None}
use Rattle.gw_meaning.specs.declared.item.Outcome.{Outcome}
use Rattle.gw_meaning.specs.Listing.{Listing, seed_at, starts}
use Rattle.gw_meaning.specs.Machine.{Machine}
use Rattle.gw_meaning.specs.Point.{IsPoint}
use Rattle.gw_report.specs.Report.{text_of}
use Rattle.gw_desk.specs.declared.answer.Answer.{Answer}
use Rattle.gw_desk.specs.declared.answer.Answer.TheVariants as answers
use Rattle.gw_desk.specs.declared.answer.Report.{Report}
use Rattle.gw_desk.specs.Points.{EndsBefore, PassesLimit}
use Rattle.gw_desk.specs.Replies.{answer_of}

-- a report is that of the point: the text of its state and of how the run stands there
pub record IsOfPoint (t : Listing) (edits rep k seed : ℕ) (report : Report) : Type 0 where
  pub n : ℕ
  pub outcome : Outcome
  pub state : Machine
  pub point : IsPoint t seed k n outcome state
  pub is : report ≡ record { edits = edits; replication = rep; start = k; text = text_of t rep k state outcome }

-- what an answer says of a START that there is
abbrev pub Tells : Listing → ℕ → ℕ → ℕ → ℕ → Answer → Type 0
Tells t edits rep k seed (answers.Ready report) = IsOfPoint t edits rep k seed report
Tells t edits rep k seed answers.NoStart = EndsBefore t seed k
Tells t edits rep k seed answers.TooLong = PassesLimit t seed k
Tells t edits rep k seed answer = ⊥

-- each query of a START that the version has, of a replication that it has, is answered so
abbrev pub AnswersTell : Type 0
AnswersTell =
    (t : Listing) (edits rep k seed : ℕ) → seed_at t rep ≡ Some seed → 1 ≤ k → k ≤ starts t →
    Tells t edits rep k seed (answer_of t edits rep k)

-- and each other one by what is missing: the replication first
abbrev pub MissingAreTold : Type 0
MissingAreTold =
    (t : Listing) (edits rep k : ℕ) → seed_at t rep ≡ None → answer_of t edits rep k ≡ answers.NoReplication

abbrev pub NoStartIsTold : Type 0
NoStartIsTold =
    (t : Listing) (edits rep k seed : ℕ) → seed_at t rep ≡ Some seed → (k ≡ 0) ⊎ (starts t < k) →
    answer_of t edits rep k ≡ answers.NoStart

-- What a query is answered: its bytes, and what it leaves of the keeper. (The table of script lines.)
use Rattle.std.specs.Prelude.{◌≡◌, ℕ, List, [], ◌∷◌, ◌++◌, length, codes, decimal}
use Rattle.gw_meaning.specs.declared.statement.Replication.{Replication}
use Rattle.gw_meaning.specs.Listing.{Listing}
use Rattle.gw_desk.specs.declared.answer.Answer.{Answer}
use Rattle.gw_desk.specs.declared.answer.Answer.TheVariants as answers
use Rattle.gw_desk.specs.declared.answer.Report.{Report}
use Rattle.gw_desk.specs.declared.play.Event.{Event}
use Rattle.gw_desk.specs.declared.play.Event.TheVariants as events
use Rattle.gw_desk.specs.declared.play.Reply.{Reply}
use Rattle.gw_desk.specs.declared.play.Reply.TheVariants as replies

-- a report after its heading line: the accepted edits, the replication, the START and the length
unfoldable pub place_of : Report → List ℕ
place_of r = codes "report " ++ decimal r.edits ++ codes " " ++ decimal r.replication ++ codes " " ++ decimal r.start

abbrev pub report_bytes : Report → List ℕ
report_bytes r = place_of r ++ codes " " ++ decimal (length r.text) ++ codes "\n" ++ r.text

abbrev pub bytes_of : Answer → List ℕ
bytes_of (answers.Ready r) = report_bytes r
bytes_of (answers.Unfinished n) = codes "unfinished " ++ decimal n ++ codes "\n"
bytes_of answers.NoStart = codes "nostart\n"
bytes_of answers.TooLong = codes "toolong\n"
bytes_of answers.NoReplication = codes "noreplication\n"
bytes_of answers.Memory = codes "memory\n"

-- the bytes of what a keeper answers a query, and what that leaves
pub record Queries {D : Type 0} (does : D → Event → Reply → D → Type 0) (d : D) (event : Event) (front : List ℕ)
    (d' : D) : Type 0 where
  pub answer : Answer
  pub answers_so : does d event (replies.Answered answer) d'
  pub told : front ≡ bytes_of answer

-- the numbers of these replications
abbrev pub numbers_of : List Replication → List ℕ
numbers_of [] = []
numbers_of (r ∷ rs) = r.number ∷ numbers_of rs

-- the reports of START k of these replications, one after the other
abbrev pub ReportEach : {D : Type 0} → (D → Event → Reply → D → Type 0) → ℕ → D → List ℕ → List ℕ → D → Type 0
ReportEach does k d [] out d' = (out ≡ []) × (d' ≡ d)
ReportEach {D} does k d (rep ∷ reps) out d' =
    (front : List ℕ) × (rest : List ℕ) × (next : D) × Queries does d (events.Finish rep k) front next ×
    ReportEach does k next reps rest d' × (out ≡ front ++ rest)

-- `all k`: how many replications there are, and the reports of all of them; or a growth was refused after some of them
pub data ReportsAll {D : Type 0} (version : D → Listing) (does : D → Event → Reply → D → Type 0) (d : D) (k : ℕ)
    (front : List ℕ) (d' : D) : Type 0 where
  whole : (out : List ℕ) → ReportEach does k d (numbers_of (version d).replications) out d' → front ≡ codes "all " ++
      decimal (length (version d).replications) ++ codes "\n" ++ out → ReportsAll version does d k front d'
  refused : (done left out : List ℕ) → numbers_of (version d).replications ≡ done ++ left →
      ReportEach does k d done out d' → front ≡ codes "memory\n" → ReportsAll version does d k front d'

-- a report of this replication was put after a text
pub record PutsOne {D : Type 0} (does : D → Event → Reply → D → Type 0) (d : D) (rep k : ℕ) (old new : List ℕ)
    (d' : D) : Type 0 where
  pub front : List ℕ
  pub reports : Queries does d (events.Finish rep k) front d'
  pub put : new ≡ old ++ front

-- reports of these replications were put after a text
pub record Puts {D : Type 0} (does : D → Event → Reply → D → Type 0) (d : D) (k : ℕ) (reps old new : List ℕ) (d' : D) :
    Type 0 where
  pub out : List ℕ
  pub reports : ReportEach does k d reps out d'
  pub put : new ≡ old ++ out

-- reports of the first of these replications were made
pub record MakesSome {D : Type 0} (does : D → Event → Reply → D → Type 0) (d : D) (k : ℕ) (reps : List ℕ) (d' : D) :
    Type 0 where
  pub done : List ℕ
  pub left : List ℕ
  pub out : List ℕ
  pub parts : reps ≡ done ++ left
  pub reports : ReportEach does k d done out d'

-- The headline: after any list of edits, queries and legs each report handed out is, byte for byte, the report of the
-- model that `list` prints, opened anew and run from zero. (Our own.)
use Rattle.std.specs.Prelude.{◌≡◌, ℕ, ◌+◌, List, [], ◌∷◌, Option, Ok, length}
use Rattle.gw_meaning.specs.declared.statement.Statement.{Statement}
use Rattle.gw_meaning.specs.Listing.{Listing}
use Rattle.gw_lines.specs.Printed.{listed_text}
use Rattle.gw_lines.specs.Whole.{SpellsModel}
use Rattle.gw_model.specs.Listed.{listed}
use Rattle.gw_frame.specs.Renamed.{statements_of}
use Rattle.gw_meaning.specs.declared.edit.Edit.{Edit}
use Rattle.gw_edit.specs.declared.fault.EditFault.{EditFault}
use Rattle.gw_edit.specs.Applied.{applied}
use Rattle.gw_edit.specs.Spelled.{AreSpelled}
use Rattle.gw_desk.specs.declared.answer.Answer.{Answer}
use Rattle.gw_desk.specs.declared.answer.Answer.TheVariants as answers
use Rattle.gw_desk.specs.declared.play.Event.{Event}
use Rattle.gw_desk.specs.declared.play.Event.TheVariants as events
use Rattle.gw_desk.specs.declared.play.Reply.{Reply}
use Rattle.gw_desk.specs.declared.play.Reply.TheVariants as replies
use Rattle.gw_desk.specs.Book.{Book, IsBook}
use Rattle.gw_desk.specs.Replies.{answer_of}
use Rattle.gw_desk.specs.Anew.{anew}
use Rattle.gw_desk.specs.Playing.{Plays}

-- the version made anew from a version's statements
abbrev pub IsAnew : Listing → Listing → Type 0
IsAnew t u = u ≡ anew t

-- the version that the model that `list` prints of a version opens, with its horizon, replications and step limit
pub record IsPrinted (t u : Listing) : Type 0 where
  pub statements : List Statement
  pub spelled : SpellsModel (listed_text (statements_of t.lines)) statements
  pub opens : u ≡ listed statements t.horizon t.replications t.limit

-- a query of a version after n accepted edits is answered as one that is so of it, run from zero; or out of
-- memory
abbrev pub IsRight : (Listing → Listing → Type 0) → Listing → ℕ → ℕ → ℕ → Answer → Type 0
IsRight so t n rep k answers.Memory = Unit {0}
IsRight so t n rep k answer = (u : Listing) × so t u × (answer ≡ answer_of u n rep k)

-- and a query of the recorded steps alone may also be answered that they do not decide
abbrev pub IsRightPeek : (Listing → Listing → Type 0) → Listing → ℕ → ℕ → ℕ → Answer → Type 0
IsRightPeek so t n rep k (answers.Unfinished steps) = Unit {0}
IsRightPeek so t n rep k answer = IsRight so t n rep k answer

-- what workers do, and are replied: no report is handed out to them
pub data IsOfWorker : Event → Reply → Type 0 where
  taking : (w rep : ℕ) (start : Option ℕ) → IsOfWorker (events.Take w rep) (replies.Took start)
  take_refused : (w rep : ℕ) → IsOfWorker (events.Take w rep) replies.Memory
  working : (w steps made : ℕ) → IsOfWorker (events.Work w steps) (replies.Worked made)
  posted : (w : ℕ) → IsOfWorker (events.Post w) replies.Posted
  dropped : (w : ℕ) → IsOfWorker (events.Post w) replies.Dropped
  post_refused : (w : ℕ) → IsOfWorker (events.Post w) replies.Memory
  no_worker : (w rep : ℕ) → IsOfWorker (events.Take w rep) replies.Idle
  no_work : (w steps : ℕ) → IsOfWorker (events.Work w steps) replies.Idle
  no_post : (w : ℕ) → IsOfWorker (events.Post w) replies.Idle

-- the replies to events, from a version after n accepted edits on: an accepted edit goes on to its version, a refused
-- one leaves it, and so does all that workers do
pub data AreRight (so : Listing → Listing → Type 0) : Listing → ℕ → List Event → List Reply → Type 0 where
  nothing : (t : Listing) (n : ℕ) → AreRight so t n [] []
  accepted : (t u : Listing) (n m : ℕ) (e : Edit) (more : List Event) (others : List Reply) → applied t e ≡ Ok u →
      m ≡ n + 1 → AreRight so u m more others → AreRight so t n (events.Edit e ∷ more) (replies.Edited m ∷ others)
  refused : (t : Listing) (n : ℕ) (e : Edit) (fault : EditFault) (more : List Event) (others : List Reply) →
      AreRight so t n more others → AreRight so t n (events.Edit e ∷ more) (replies.Refused fault ∷ others)
  peeked : (t : Listing) (n rep k : ℕ) (answer : Answer) (more : List Event) (others : List Reply) →
      IsRightPeek so t n rep k answer → AreRight so t n more others →
      AreRight so t n (events.Peek rep k ∷ more) (replies.Answered answer ∷ others)
  finished : (t : Listing) (n rep k : ℕ) (answer : Answer) (more : List Event) (others : List Reply) →
      IsRight so t n rep k answer → AreRight so t n more others →
      AreRight so t n (events.Finish rep k ∷ more) (replies.Answered answer ∷ others)
  by_worker : (t : Listing) (n : ℕ) (event : Event) (reply : Reply) (more : List Event) (others : List Reply) →
      IsOfWorker event reply → AreRight so t n more others → AreRight so t n (event ∷ more) (reply ∷ others)

-- whatever was played of a desk, by the version made anew from its statements
abbrev pub ReportsAreRight : Type 0
ReportsAreRight =
    (b c : Book) (more : List Event) (others : List Reply) → IsBook b → Plays b more others c →
    AreRight IsAnew b.version (length b.edits) more others

-- and of a desk whose model was read, by the model that `list` prints
abbrev pub ReportsAreOfPrinted : Type 0
ReportsAreOfPrinted =
    (b c : Book) (more : List Event) (others : List Reply) → IsBook b → AreSpelled b.version.lines →
    Plays b more others c → AreRight IsPrinted b.version (length b.edits) more others

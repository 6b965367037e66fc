-- What a session plays on its desk: one list of events, in the order of its lines, and it writes the bytes of their
-- replies. (Our own.)
use Rattle.std.specs.Prelude.{◌≡◌, ◌↔◌, ℕ, List, [], ◌∷◌, ◌++◌, Option, Some, None, Ok, length}
use Rattle.gw_meaning.specs.Listing.{Listing, seed_at}
use Rattle.gw_edit.specs.Applied.{applied}
use Rattle.gw_desk.specs.declared.play.Event.{Event}
use Rattle.gw_desk.specs.declared.play.Event.TheVariants as events
use Rattle.gw_desk.specs.declared.play.Reply.{Reply}
use Rattle.gw_desk.specs.declared.play.Reply.TheVariants as replies
use Rattle.gw_desk.specs.Book.{Book}
use Rattle.gw_desk.specs.Headline.{AreRight, IsPrinted}
use Rattle.gw_desk.specs.Playing.{Plays}
use Rattle.gw_script.specs.declared.fault.Over.{Over}
use Rattle.gw_script.specs.Replying.{Answers, DeskAnswers}
use Rattle.gw_script.specs.Sessions.{Says}
use Rattle.gw_script.specs.Works.{OneWorker}

-- a version that is open, and the events that are still to come, with the replies that they get
pub record Agenda : Type 0 where
  pub version : Listing
  pub events : List Event
  pub replies : List Reply

-- the version after an event: an accepted edit's own, or the same
abbrev pub IsBehind : Listing → Event → Reply → Listing → Type 0
IsBehind t (events.Edit e) (replies.Edited n) u = applied t e ≡ Ok u
IsBehind t event reply u = u ≡ t

-- the next event gets the next reply
pub record IsNext (a : Agenda) (event : Event) (reply : Reply) (b : Agenda) : Type 0 where
  pub event_is : a.events ≡ event ∷ b.events
  pub reply_is : a.replies ≡ reply ∷ b.replies
  pub version : IsBehind a.version event reply b.version

-- the line `work` takes the events of one worker with their replies, or none where a growth was refused. It says that there
-- is no replication exactly where there is none; how many steps are recorded then stands in no reply
pub data AreNext (a : Agenda) (rep steps : ℕ) : Option (Option ℕ) → Agenda → Type 0 where
  refused : AreNext a rep steps None a
  worked : (count : Option ℕ) (more : List Event) (others : List Reply) (b : Agenda) → OneWorker rep steps more others →
      a.events ≡ more ++ b.events → a.replies ≡ others ++ b.replies → b.version ≡ a.version →
      (count ≡ None) ↔ (seed_at a.version rep ≡ None) → AreNext a rep steps (Some count) b

-- the desk plays events, each reply is right, and what is said is told by these replies alone, one after another
pub record PlaysOut (b b' : Book) (n : ℕ) (input output : List ℕ) (over : Over) : Type 0 where
  pub events : List Event
  pub replies : List Reply
  pub plays : Plays b events replies b'
  pub right : AreRight IsPrinted b.version (length b.edits) events replies
  pub says : Says (Answers (λ (c : Agenda). c.version) IsNext AreNext)
      (record { version = b.version; events = events; replies = replies }) n input output over
      (record { version = b'.version; events = []; replies = [] })

-- whatever a session says over a desk
abbrev pub SessionsPlay : Type 0
SessionsPlay =
    (b b' : Book) (n : ℕ) (input output : List ℕ) (over : Over) → Says DeskAnswers b n input output over b' →
    PlaysOut b b' n input output over

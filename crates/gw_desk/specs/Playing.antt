-- What a list of events comes to, event by event: the reply, the book of the desk after it, and the legs that the
-- workers have. (Our own.)
use Rattle.std.specs.Prelude.{◌≡◌, ◌≢◌, ℕ, List, [], ◌∷◌, Option, Some, None, true, false, length}
use Rattle.gw_meaning.specs.declared.edit.Edit.{Edit}
use Rattle.gw_edit.specs.declared.fault.EditFault.{EditFault}
use Rattle.gw_desk.specs.declared.answer.Answer.{Answer}
use Rattle.gw_desk.specs.declared.answer.Answer.TheVariants as answers
use Rattle.gw_desk.specs.declared.play.Event.{Event}
use Rattle.gw_desk.specs.declared.play.Event.TheVariants as events
use Rattle.gw_desk.specs.declared.play.Reply.{Reply}
use Rattle.gw_desk.specs.declared.play.Reply.TheVariants as replies
use Rattle.gw_desk.specs.declared.post.Post.TheVariants as posts
use Rattle.gw_desk.specs.Book.{Book, IsBook}
use Rattle.gw_desk.specs.Replies.{answer_of}
use Rattle.gw_desk.specs.Peeking.{IsUnfinished, Peeks, IsAnswer}
use Rattle.gw_desk.specs.Finishing.{Finishes, IsMissing}
use Rattle.gw_desk.specs.Editing.{Accepts, Refuses}
use Rattle.gw_desk.specs.Legs.{Leg, Takes, Works}
use Rattle.gw_desk.specs.Posting.{Posts}
use Rattle.gw_desk.specs.Ledger.{Ledger, is_worker, leg_of, with_leg, begun}

-- the events of the desk alone, and what they are replied. An edit is accepted or refused; a refused one changes
-- nothing. A peek is answered from the recorded steps. A finish makes the missing steps; where there is no such START
-- it makes none
pub data Tells (b : Book) : Event → Reply → Book → Type 0 where
  accepted : (e : Edit) (n : ℕ) (c : Book) → Accepts b e c n → Tells b (events.Edit e) (replies.Edited n) c
  refused : (e : Edit) (fault : EditFault) → Refuses b e fault → Tells b (events.Edit e) (replies.Refused fault) b
  peeked : (rep k : ℕ) (answer : Answer) → Peeks b rep k answer →
      Tells b (events.Peek rep k) (replies.Answered answer) b
  finished : (rep k : ℕ) (answer : Answer) (c : Book) →
      IsAnswer (answer_of b.version (length b.edits) rep k) answer → Finishes b rep k c →
      (answer ≢ answers.Memory → (n : ℕ) → IsUnfinished c rep k n → ⊥) → (IsMissing b.version rep k → c ≡ b) →
      Tells b (events.Finish rep k) (replies.Answered answer) c

-- one event: of a desk it leaves a desk
abbrev pub Does : Book → Event → Reply → Book → Type 0
Does b event reply c = (IsBook b → IsBook c) × Tells b event reply c

-- a worker has this leg, or none; all else is as it was
abbrev pub having : ℕ → Option Leg → Ledger → Ledger
having w leg a = record { book = a.book; legs = with_leg w leg a.legs }

-- one event of a list
pub data Goes (a : Ledger) : Event → Reply → Ledger → Type 0 where
  -- one of the desk alone
  of_desk : (event : Event) (reply : Reply) (c : Book) → Tells a.book event reply c →
      Goes a event reply (record { book = c; legs = a.legs })
  -- a worker takes a leg: he gives up his own, also where there is none to take, or a growth was refused
  took : (w rep : ℕ) (l : Leg) → is_worker w ≡ true → Takes a.book rep (Some l) →
      Goes a (events.Take w rep) (replies.Took (Some l.run.start)) (having w (Some l) a)
  none_to_take : (w rep : ℕ) → is_worker w ≡ true → Takes a.book rep None →
      Goes a (events.Take w rep) (replies.Took None) (having w None a)
  take_refused : (w rep : ℕ) → is_worker w ≡ true → Goes a (events.Take w rep) replies.Memory (having w None a)
  -- he makes steps of it: fewer than he could where a growth was refused
  worked : (w steps made : ℕ) (l m : Leg) → is_worker w ≡ true → leg_of a w ≡ Some l → Works steps made l m →
      Goes a (events.Work w steps) (replies.Worked made) (having w (Some m) a)
  -- he gives it up, and this becomes of the desk
  posted : (w : ℕ) (l : Leg) (c : Book) → leg_of a w ≡ Some l → Posts a.book l posts.Posted c →
      Goes a (events.Post w) replies.Posted (record { book = c; legs = with_leg w None a.legs })
  dropped : (w : ℕ) (l : Leg) → leg_of a w ≡ Some l → Posts a.book l posts.Dropped a.book →
      Goes a (events.Post w) replies.Dropped (having w None a)
  post_refused : (w : ℕ) (l : Leg) → leg_of a w ≡ Some l → Goes a (events.Post w) replies.Memory (having w None a)
  -- there is no such worker, or he has no leg
  no_worker : (w rep : ℕ) → is_worker w ≡ false → Goes a (events.Take w rep) replies.Idle a
  no_work : (w steps : ℕ) → leg_of a w ≡ None → Goes a (events.Work w steps) replies.Idle a
  no_post : (w : ℕ) → leg_of a w ≡ None → Goes a (events.Post w) replies.Idle a

-- of a desk it leaves a desk
abbrev pub Moves : Ledger → Event → Reply → Ledger → Type 0
Moves a event reply c = (IsBook a.book → IsBook c.book) × Goes a event reply c

-- one after another
pub data Follows : Ledger → List Event → List Reply → Ledger → Type 0 where
  nothing : (a : Ledger) → Follows a [] [] a
  event : (a c d : Ledger) (event : Event) (reply : Reply) (more : List Event) (others : List Reply) →
      Moves a event reply c → Follows c more others d → Follows a (event ∷ more) (reply ∷ others) d

-- a list of events is played: nobody has a leg at its beginning, and at its end all are given up
pub record Plays (b : Book) (more : List Event) (others : List Reply) (c : Book) : Type 0 where
  pub last : Ledger
  pub follows : Follows (begun b) more others last
  pub book : last.book ≡ c

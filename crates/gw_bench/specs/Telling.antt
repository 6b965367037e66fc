-- What the calls of a bench and of a seat may answer, and what that leaves of the caller's front. (Our own.)
use Rattle.std.specs.Prelude.{◌≡◌, ◌≤◌, ◌<◌, ℕ, List, [], ◌∷◌, ◌++◌, Option, Some, None, Ok, Err, IsSome, length}
use mathlib.Core.List.{IsPrefix}
use Rattle.gw_meaning.specs.Listing.{Listing, seed_at, starts}
use Rattle.gw_meaning.specs.declared.edit.Edit.{Edit}
use Rattle.gw_edit.specs.declared.fault.EditFault.{EditFault}
use Rattle.gw_edit.specs.declared.fault.EditFault.TheVariants as faults
use Rattle.gw_edit.specs.Applied.{applied}
use Rattle.gw_edit.specs.Leading.{version_of, accepted}
use Rattle.gw_desk.specs.declared.answer.Answer.{Answer}
use Rattle.gw_desk.specs.declared.answer.Answer.TheVariants as answers
use Rattle.gw_desk.specs.declared.play.Event.{Event}
use Rattle.gw_desk.specs.declared.play.Event.TheVariants as events
use Rattle.gw_desk.specs.declared.play.Reply.{Reply}
use Rattle.gw_desk.specs.declared.play.Reply.TheVariants as replies
use Rattle.gw_desk.specs.Legs.{Leg, IsLeg}
use Rattle.gw_desk.specs.Looking.{IsOpen}
use Rattle.gw_desk.specs.Replies.{answer_of}

-- the edit is number n, the last of the front, and was accepted of the version of those before
pub record IsLast (opening : Listing) (front : List Edit) (e : Edit) (n : ℕ) : Type 0 where
  pub number : n ≡ length front
  pub before : List Edit
  pub parts : front ≡ before ++ e ∷ []
  pub version : Listing
  pub made : applied (version_of opening before) e ≡ Ok version

-- why it was refused, of the front that is seen then: the row is full, a growth was refused, or there is room and the
-- version of the front refuses it
pub data IsRefused (opening : Listing) (front : List Edit) (e : Edit) : EditFault → Type 0 where
  row_is_full : length front ≡ 4096 → IsRefused opening front e faults.HistoryFull
  out_of_memory : IsRefused opening front e faults.Memory
  by_version : (fault : EditFault) → length front < 4096 → applied (version_of opening front) e ≡ Err fault →
      IsRefused opening front e fault

-- a query is answered of the version of a front; that it is unfinished, of a START that there is
abbrev pub IsAnswered : Listing → ℕ → ℕ → ℕ → Answer → Type 0
IsAnswered t edits rep k answers.Memory = Unit {0}
IsAnswered t edits rep k (answers.Unfinished n) =
    (seed : ℕ) × (seed_at t rep ≡ Some seed) × (1 ≤ k) × (k ≤ starts t) × IsOpen t seed k n
IsAnswered t edits rep k answer = answer ≡ answer_of t edits rep k

-- and never that it is unfinished, where the steps are made
abbrev pub IsFinished : Listing → ℕ → ℕ → ℕ → Answer → Type 0
IsFinished t edits rep k (answers.Unfinished n) = ⊥
IsFinished t edits rep k answer = IsAnswered t edits rep k answer

-- what a seat does: its front grows to one that begins with it
pub data SeatDoes (opening : Listing) (before : List Edit) : Event → Reply → List Edit → Type 0 where
  accepted_as : (e : Edit) (n : ℕ) (after : List Edit) → IsPrefix before after → length before < n →
      IsLast opening after e n →
      SeatDoes opening before (events.Edit e) (replies.Edited n) after
  refused_for : (e : Edit) (fault : EditFault) (after : List Edit) → IsPrefix before after →
      IsRefused opening after e fault →
      SeatDoes opening before (events.Edit e) (replies.Refused fault) after
  peeked : (rep k : ℕ) (answer : Answer) (after : List Edit) → IsPrefix before after →
      IsAnswered (version_of opening after) (length (accepted opening after)) rep k answer →
      SeatDoes opening before (events.Peek rep k) (replies.Answered answer) after
  finished : (rep k : ℕ) (answer : Answer) (after : List Edit) → IsPrefix before after →
      IsFinished (version_of opening after) (length (accepted opening after)) rep k answer →
      SeatDoes opening before (events.Finish rep k) (replies.Answered answer) after

-- a leg that was taken at a front: it is of the front's version, after its accepted edits, and no step of it is made
pub record IsUnworked (opening : Listing) (front : List Edit) (rep : ℕ) (l : Leg) : Type 0 where
  pub leg : IsLeg l
  pub edits : l.edits ≡ accepted opening front
  pub version : l.version ≡ version_of opening front
  pub replication : l.replication ≡ rep
  pub ends : l.run.moment ≡ l.run.start
  pub unmade : l.made ≡ 0

-- and of the line `work`: a count up to the step limit, of a replication that the version has; or that the version has
-- no such replication
abbrev pub IsCount : Listing → ℕ → Option (Option ℕ) → Type 0
IsCount t rep None = Unit {0}
IsCount t rep (Some None) = seed_at t rep ≡ None
IsCount t rep (Some (Some n)) = IsSome (seed_at t rep) × (n ≤ t.limit)

pub record SeatWorks (opening : Listing) (before : List Edit) (rep steps : ℕ) (answer : Option (Option ℕ))
    (after : List Edit) : Type 0 where
  pub seen : IsPrefix before after
  pub count : IsCount (version_of opening after) rep answer

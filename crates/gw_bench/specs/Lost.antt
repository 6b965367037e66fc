-- The laws of a keeper, at a seat: any call may be answered out of memory, and an answer may be lost. (An `impl` names only
-- what stands in specs/, so they stand here.)
use Rattle.std.proofs.Common.{◌≡◌, ℕ, List, Option, None, true, refl, append-nil}
use mathlib.Core.List.{IsPrefix}
use Rattle.gw_meaning.specs.Listing.{Listing}
use Rattle.gw_meaning.specs.declared.edit.Edit.{Edit}
use Rattle.gw_edit.specs.declared.fault.EditFault.TheVariants as faults
use Rattle.gw_desk.specs.declared.answer.Answer.{Answer}
use Rattle.gw_desk.specs.declared.answer.Answer.TheVariants as answers
use Rattle.gw_desk.specs.declared.play.Event.{Event}
use Rattle.gw_desk.specs.declared.play.Event.TheVariants as events
use Rattle.gw_desk.specs.declared.play.Reply.TheVariants as replies
use Rattle.gw_desk.specs.Keeping.{is_of_desk, wants_memory}
use Rattle.gw_bench.specs.Telling.{IsRefused, SeatDoes, SeatWorks}

itself : (front : List Edit) → IsPrefix front front
itself front = (_, append-nil front)

-- each call may be answered out of memory
pub seat_does_nothing : (opening : Listing) (front : List Edit) (event : Event) → is_of_desk event ≡ true →
    SeatDoes opening front event (wants_memory event) front
seat_does_nothing opening front (events.Edit e) is =
    SeatDoes.refused_for e faults.Memory front (itself front) IsRefused.out_of_memory
seat_does_nothing opening front (events.Peek rep k) is = SeatDoes.peeked rep k answers.Memory front (itself front) tt
seat_does_nothing opening front (events.Finish rep k) is =
    SeatDoes.finished rep k answers.Memory front (itself front) tt
seat_does_nothing opening front (events.Take w rep) is = absurd cc
seat_does_nothing opening front (events.Work w steps) is = absurd cc
seat_does_nothing opening front (events.Post w) is = absurd cc

pub seat_works_nothing : (opening : Listing) (front : List Edit) (rep steps : ℕ) →
    SeatWorks opening front rep steps None front
seat_works_nothing opening front rep steps = record { seen = itself front; count = tt }

-- each answer may be lost
pub seat_loses : (opening : Listing) (before after : List Edit) (event : Event) (answer : Answer) →
    SeatDoes opening before event (replies.Answered answer) after →
    SeatDoes opening before event (replies.Answered answers.Memory) after
seat_loses opening before after event answer (SeatDoes.peeked rep k told front seen is) =
    SeatDoes.peeked rep k answers.Memory front seen tt
seat_loses opening before after event answer (SeatDoes.finished rep k told front seen is) =
    SeatDoes.finished rep k answers.Memory front seen tt

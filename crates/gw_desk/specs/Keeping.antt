-- What any call of a keeper may be answered: out of memory, with nothing changed. (Our own.)
use Rattle.std.specs.Prelude.{Bool, true, false}
use Rattle.gw_edit.specs.declared.fault.EditFault.TheVariants as faults
use Rattle.gw_desk.specs.declared.answer.Answer.TheVariants as answers
use Rattle.gw_desk.specs.declared.play.Event.{Event}
use Rattle.gw_desk.specs.declared.play.Event.TheVariants as events
use Rattle.gw_desk.specs.declared.play.Reply.{Reply}
use Rattle.gw_desk.specs.declared.play.Reply.TheVariants as replies

-- an event of the desk alone, which no worker does
abbrev pub is_of_desk : Event → Bool
is_of_desk (events.Edit e) = true
is_of_desk (events.Take w rep) = false
is_of_desk (events.Work w steps) = false
is_of_desk (events.Post w) = false
is_of_desk (events.Peek rep k) = true
is_of_desk (events.Finish rep k) = true

-- the reply that it is out of memory
abbrev pub wants_memory : Event → Reply
wants_memory (events.Edit e) = replies.Refused faults.Memory
wants_memory (events.Take w rep) = replies.Memory
wants_memory (events.Work w steps) = replies.Worked 0
wants_memory (events.Post w) = replies.Memory
wants_memory (events.Peek rep k) = replies.Answered answers.Memory
wants_memory (events.Finish rep k) = replies.Answered answers.Memory

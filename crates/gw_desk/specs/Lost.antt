-- The laws of a keeper, at a desk: any call may be answered out of memory, and an answer may be lost. (An
-- `impl` names only what stands in specs/, so they stand here.)
use Rattle.std.proofs.Common.{◌≡◌, ℕ, true, Some, None, inr, refl, sym, ap}
use Rattle.std.proofs.Math.Nat.{le_refl, le_trans, not-suc-le_self, sub_self}
use Rattle.gw_record.specs.Tape.{Tape}
use Rattle.gw_record.specs.Extending.{tallied}
use Rattle.gw_edit.specs.declared.fault.EditFault.TheVariants as faults
use Rattle.gw_desk.specs.declared.answer.Answer.{Answer}
use Rattle.gw_desk.specs.declared.answer.Answer.TheVariants as answers
use Rattle.gw_desk.specs.declared.play.Event.{Event}
use Rattle.gw_desk.specs.declared.play.Event.TheVariants as events
use Rattle.gw_desk.specs.declared.play.Reply.{Reply}
use Rattle.gw_desk.specs.declared.play.Reply.TheVariants as replies
use Rattle.gw_desk.specs.Book.{Book, run_in}
use Rattle.gw_desk.specs.Finishing.{Finishes, GoesOn}
use Rattle.gw_desk.specs.Working.{WorksOn}
use Rattle.gw_desk.specs.Keeping.{is_of_desk, wants_memory}
use Rattle.gw_desk.specs.Playing.{Tells, Does}

-- no step is made
goes_nowhere : (b : Book) (rep k seed : ℕ) (a : Tape) → run_in b.runs rep ≡ Some a → GoesOn b rep k seed a b
goes_nowhere b rep k seed a there = record {
  run = a;
  there = there;
  every = refl;
  start = refl;
  grows = le_refl a.moment;
  wanted = λ m s from to at. absurd (not-suc-le_self m (le_trans to from));
  made = ap (λ n. tallied b.made n) (sym (sub_self a.moment));
}

finishes_none : (b : Book) (rep k : ℕ) → Finishes b rep k b
finishes_none b rep k = record {
  opening = refl;
  version = refl;
  every = refl;
  edits = refl;
  others = λ number other. refl;
  steps = λ seed a with_seed there. goes_nowhere b rep k seed a there;
}

-- each call of the desk alone may be answered out of memory
pub does_nothing : (b : Book) (event : Event) → is_of_desk event ≡ true → Does b event (wants_memory event) b
does_nothing b (events.Edit e) of = (λ desk. desk, Tells.refused e faults.Memory tt)
does_nothing b (events.Take w rep) of = absurd cc
does_nothing b (events.Work w steps) of = absurd cc
does_nothing b (events.Post w) of = absurd cc
does_nothing b (events.Peek rep k) of = (λ desk. desk, Tells.peeked rep k answers.Memory tt)
does_nothing b (events.Finish rep k) of = (
  λ desk. desk,
  Tells.finished rep k answers.Memory b (inr refl) (finishes_none b rep k) (λ other n undecided. other refl)
      (λ missing. refl),
)

-- and so may the line `work`
pub works_nothing : (b : Book) (rep steps : ℕ) → WorksOn b rep steps None b
works_nothing b rep steps = refl

-- each answer may be lost
tells_lost : (b c : Book) (event : Event) (reply : Reply) → Tells b event reply c → (answer : Answer) →
    reply ≡ replies.Answered answer → Tells b event (replies.Answered answers.Memory) c
tells_lost b c event reply (Tells.accepted e n d accepts) answer is = absurd cc
tells_lost b c event reply (Tells.refused e fault refuses) answer is = absurd cc
tells_lost b c event reply (Tells.peeked rep k a peeks) answer is = Tells.peeked rep k answers.Memory tt
tells_lost b c event reply (Tells.finished rep k a d answered steps decided idle) answer is =
    Tells.finished rep k answers.Memory d (inr refl) steps (λ other n undecided. other refl) idle

pub loses : (b c : Book) (event : Event) (answer : Answer) → Does b event (replies.Answered answer) c →
    Does b event (replies.Answered answers.Memory) c
loses b c event answer (desk, tells) = (desk, tells_lost b c event (replies.Answered answer) tells answer refl)

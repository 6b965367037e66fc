use Rattle.std.proofs.Common.{◌∙◌, sym}
use Rattle.gw_desk.specs.Playing.{Tells, Goes}
use Rattle.gw_desk.proofs.PlayLaws.{takes, works, posts, takes_nothing, works_nothing, posts_nothing, stays}
use Rattle.gw_desk.proofs.desk.Desk.play_one.Goals as goal

pub returns-in-Ok-clause-moves : goal.returns-in-Ok-clause-moves
returns-in-Ok-clause-moves c =
    rw c.in-Edit.is (λ desk. c.edit.ensures.desk, Goes.of_desk _ _ c.edit.new.self (Tells.accepted c.in-Edit.edit c.in-Ok.number c.edit.new.self c.in-Ok.ensures.accepted))

pub returns-in-Err-clause-moves : goal.returns-in-Err-clause-moves
returns-in-Err-clause-moves c =
    let b = c.args.self.now in
    rw c.in-Edit.is (stays (record { book = b; legs = c.args.legs.now }) c.edit.new.self _ _ c.in-Err.ensures.err
    (Goes.of_desk _ _ b (Tells.refused c.in-Edit.edit c.in-Err.fault c.in-Err.ensures.refused)))

pub returns-in-Some-clause-moves : goal.returns-in-Some-clause-moves
returns-in-Some-clause-moves c =
    let b = c.args.self.now in
    let legs = c.args.legs.now in
    rw (c.in-Take.is, c.take_at.ensures.same) (
      (λ desk. desk),
      takes (record { book = b; legs = legs }) c.in-Take.worker c.in-Some.place c.index-legs-place.result
          c.requires (sym c.place_of.ensures.place ∙ c.in-Some.is) c.in-Take.rep c.take_at.result c.take_at.new.leg c.take_at.ensures.took,
    )

pub returns-in-None-clause-moves : goal.returns-in-None-clause-moves
returns-in-None-clause-moves c =
    rw c.in-Take.is (
      (λ desk. desk),
      takes_nothing (record { book = c.args.self.now; legs = c.args.legs.now }) c.in-Take.worker
          (sym c.place_of.ensures.place ∙ c.in-None.is) c.in-Take.rep,
    )

pub returns-in-Some-place_of-clause-moves : goal.returns-in-Some-place_of-clause-moves
returns-in-Some-place_of-clause-moves c =
    let b = c.args.self.now in
    let legs = c.args.legs.now in
    rw c.in-Work.is (
      (λ desk. desk),
      works (record { book = b; legs = legs }) c.in-Work.worker c.in-Some-place_of.place c.index-legs-place-in-Some-place_of.result
          c.requires (sym c.place_of-in-Work.ensures.place ∙ c.in-Some-place_of.is) c.in-Work.steps c.work_at.result
          c.work_at.new.leg c.work_at.ensures,
    )

pub returns-in-None-place_of-clause-moves : goal.returns-in-None-place_of-clause-moves
returns-in-None-place_of-clause-moves c =
    rw c.in-Work.is (
      (λ desk. desk),
      works_nothing (record { book = c.args.self.now; legs = c.args.legs.now }) c.in-Work.worker
          (sym c.place_of-in-Work.ensures.place ∙ c.in-None-place_of.is) c.in-Work.steps,
    )

pub returns-in-Some-place_of-2-clause-moves : goal.returns-in-Some-place_of-2-clause-moves
returns-in-Some-place_of-2-clause-moves c =
    let b = c.args.self.now in
    let legs = c.args.legs.now in
    rw (c.in-Post.is, c.post_at.ensures.gone) (
      (λ desk. c.post_at.ensures.desk),
      posts (record { book = b; legs = legs }) c.in-Post.worker
          c.in-Some-place_of-2.place c.index-legs-place-in-Some-place_of-2.result c.requires (sym c.place_of-in-Post.ensures.place ∙ c.in-Some-place_of-2.is)
          c.post_at.result c.post_at.new.self c.post_at.ensures.posts,
    )

pub returns-in-None-place_of-2-clause-moves : goal.returns-in-None-place_of-2-clause-moves
returns-in-None-place_of-2-clause-moves c =
    rw c.in-Post.is (
      (λ desk. desk),
      posts_nothing (record { book = c.args.self.now; legs = c.args.legs.now }) c.in-Post.worker
          (sym c.place_of-in-Post.ensures.place ∙ c.in-None-place_of-2.is),
    )

pub returns-in-Peek-clause-moves : goal.returns-in-Peek-clause-moves
returns-in-Peek-clause-moves c =
    let b = c.args.self.now in
    rw c.in-Peek.is (stays (record { book = b; legs = c.args.legs.now }) c.peek.new.self _ _ c.peek.ensures.same
    (Goes.of_desk _ _ b (Tells.peeked c.in-Peek.rep c.in-Peek.k c.peek.result c.peek.ensures.peeks)))

pub returns-in-Finish-clause-moves : goal.returns-in-Finish-clause-moves
returns-in-Finish-clause-moves c =
    rw c.in-Finish.is (
      (λ desk. c.finish.ensures.desk),
      Goes.of_desk _ _ c.finish.new.self (Tells.finished c.in-Finish.rep c.in-Finish.k c.finish.result
          c.finish.new.self c.finish.ensures.answer c.finish.ensures.steps c.finish.ensures.decided c.finish.ensures.idle),
    )

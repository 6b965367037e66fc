use Rattle.std.proofs.Common.{◌≡◌, List, length, ap, ap₂, sym, subst, ◌∙◌}
use Rattle.gw_meaning.specs.Listing.{Listing}
use Rattle.gw_meaning.specs.declared.edit.Edit.{Edit}
use Rattle.gw_edit.specs.Leading.{accepted, version_of}
use Rattle.gw_desk.specs.declared.play.Event.TheVariants as events
use Rattle.gw_desk.specs.declared.play.Reply.TheVariants as replies
use Rattle.gw_desk.specs.Book.{Book}
use Rattle.gw_desk.specs.Playing.{Tells}
use Rattle.gw_bench.specs.Growing.{Kept}
use Rattle.gw_bench.specs.Telling.{IsFinished}
use Rattle.gw_bench.proofs.Answered.{finish_answers}
use Rattle.gw_bench.proofs.held.Held.finish.Goals as goal

pub returns-clause-ok : goal.returns-clause-ok
returns-clause-ok g c =
    let mid = c.take_in.new.self in
    let desk : c.self.inside.desk ≡ mid.book = ap (λ (k : Kept). k.book) c.self.view_is in
    let rep = c.args.rep in
    let k = c.args.k in
    let answer = c.finish.result in
    let does = c.finish.ensures in
    record {
      mid = mid;
      grown = c.take_in.ensures.grown;
      front = ap (λ (k : Kept). k.front) c.self.view_is;
      book = subst (λ (b : Book). Tells b (events.Finish rep k) (replies.Answered answer) c.finish.new.self) desk
          (Tells.finished rep k answer c.finish.new.self does.answer does.steps does.decided does.idle);
    }

pub returns-clause-answer : goal.returns-clause-answer
returns-clause-answer g c =
    let opening = g.N.RowName.opening in
    let held = c.self.inside in
    let pass : held.pass ≡ c.take_in.new.pass = ap (λ (k : Kept). k.front) c.self.view_is ∙ sym c.in_ok-take_in.ensures.ok in
    let at = finish_answers held.desk.version (length held.desk.edits) c.args.rep c.args.k c.finish.result c.finish.ensures.answer in
    let version : held.desk.version ≡ version_of opening c.take_in.new.pass = c.self.invariant.version ∙ ap (version_of opening) pass in
    let edits : held.desk.edits ≡ accepted opening c.take_in.new.pass = c.self.invariant.edits ∙ ap (accepted opening) pass in
    subst (λ (t : Listing). IsFinished t (length (accepted opening c.take_in.new.pass)) c.args.rep c.args.k c.finish.result) version
    (subst (λ (es : List Edit). IsFinished held.desk.version (length es) c.args.rep c.args.k c.finish.result) edits at)

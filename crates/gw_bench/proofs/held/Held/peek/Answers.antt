use Rattle.std.proofs.Common.{◌≡◌, ap, sym, subst, ◌∙◌}
use Rattle.gw_desk.specs.declared.play.Event.TheVariants as events
use Rattle.gw_desk.specs.declared.play.Reply.TheVariants as replies
use Rattle.gw_desk.specs.Book.{Book}
use Rattle.gw_desk.specs.Peeking.{Peeks}
use Rattle.gw_desk.specs.Playing.{Tells}
use Rattle.gw_bench.specs.Growing.{Kept}
use Rattle.gw_bench.proofs.held.Held.peek.Goals as goal

pub returns-clause-ok : goal.returns-clause-ok
returns-clause-ok g c =
    let mid = c.take_in.new.self in
    let desk : c.self.inside.desk ≡ mid.book = ap (λ (k : Kept). k.book) c.self.view_is in
    let rep = c.args.rep in
    let k = c.args.k in
    let answer = c.peek.result in
    record {
      mid = mid;
      grown = c.take_in.ensures.grown;
      front = ap (λ (k : Kept). k.front) c.self.view_is;
      book = subst (λ (b : Book). Tells mid.book (events.Peek rep k) (replies.Answered answer) b) (sym (c.peek.ensures.same ∙ desk))
          (Tells.peeked rep k answer (subst (λ (b : Book). Peeks b rep k answer) desk c.peek.ensures.peeks));
    }

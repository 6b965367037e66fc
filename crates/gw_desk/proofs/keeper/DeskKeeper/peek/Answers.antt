use Rattle.std.proofs.Common.{sym, subst}
use Rattle.gw_desk.specs.declared.play.Event.TheVariants as events
use Rattle.gw_desk.specs.declared.play.Reply.TheVariants as replies
use Rattle.gw_desk.specs.Book.{Book}
use Rattle.gw_desk.specs.Playing.{Tells, Does}
use Rattle.gw_desk.proofs.keeper.DeskKeeper.peek.Goals as goal

pub returns : goal.returns
returns c =
    let b = c.args.self.now in
    subst (λ (x : Book). Does b (events.Peek c.args.rep c.args.k) (replies.Answered c.peek.result) x) (sym c.peek.ensures.same)
    ((λ desk. desk), Tells.peeked c.args.rep c.args.k c.peek.result c.peek.ensures.peeks)

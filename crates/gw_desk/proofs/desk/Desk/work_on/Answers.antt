use Rattle.std.proofs.Common.{Option, subst}
use Rattle.gw_desk.specs.Book.{Book}
use Rattle.gw_desk.specs.Legs.{Leg, Takes}
use Rattle.gw_desk.specs.Posting.{Posts}
use Rattle.gw_desk.specs.Working.{IsWorked}
use Rattle.gw_desk.proofs.WorkingLaws.{by_leg}
use Rattle.gw_desk.proofs.desk.Desk.work_on.Goals as goal

pub returns-in_default-clause-worked : goal.returns-in_default-clause-worked
returns-in_default-clause-worked c =
    IsWorked.no_leg (subst (λ (leg : Option Leg). Takes c.args.self.now c.args.rep leg) c.in_default.is c.in_ok-leg.ensures.takes) c.in_ok-leg.ensures.same

pub returns-in_ok-post-in-Ok-clause-worked : goal.returns-in_ok-post-in-Ok-clause-worked
returns-in_ok-post-in-Ok-clause-worked c =
    let takes = subst (λ (leg : Option Leg). Takes c.args.self.now c.args.rep leg) c.in-Some.is c.in_ok-leg.ensures.takes in
    let posts = subst (λ (b : Book). Posts b c.work.new.self c.in_ok-post-in-Ok.field-0 c.post.new.self) c.in_ok-leg.ensures.same c.in_ok-post-in-Ok.ensures.posts in
    by_leg c.args.self.now c.post.new.self c.args.rep c.args.steps c.in-Some.leg c.work.new.self c.in-Ok.field-0 c.in_ok-post-in-Ok.field-0 takes
    c.in-Ok.ensures.works c.in-Ok.ensures.done posts

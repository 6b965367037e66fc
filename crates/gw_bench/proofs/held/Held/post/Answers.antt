use Rattle.std.proofs.Common.{◌≡◌, IfOk, ap, subst}
use Rattle.std.proofs.lemmas.Result.{on_err_weaker}
use Rattle.gw_desk.specs.Book.{Book}
use Rattle.gw_desk.specs.Legs.{Leg}
use Rattle.gw_desk.specs.Posting.{Posts}
use Rattle.gw_bench.specs.Growing.{Kept}
use Rattle.gw_bench.proofs.GrowLaws.{held_posts, held_same}
use Rattle.gw_bench.proofs.held.Held.post.Goals as goal

pub invariant_of-self : goal.invariant_of-self
invariant_of-self g c =
    held_posts g.N.RowName.opening c.self.inside.pass c.self.inside.desk c.post_own.new.self c.into_leg.result
    c.post_own.result c.self.invariant c.post_own.ensures.posts c.post_own.ensures.err

pub returns-clause-posts : goal.returns-clause-posts
returns-clause-posts g c =
    let new = c.post_own.new.self in
    let desk : c.self.inside.desk ≡ c.args.self.now.book = ap (λ (k : Kept). k.book) c.self.view_is in
    subst (λ (b : Book). IfOk c.post_own.result (λ post. Posts b c.args.leg post new)) desk
    (subst (λ (l : Leg). IfOk c.post_own.result (λ post. Posts c.self.inside.desk l post new)) c.into_leg.ensures.value c.post_own.ensures.posts)

pub returns-clause-err : goal.returns-clause-err
returns-clause-err g c =
    on_err_weaker c.post_own.result
    (λ same. held_same c.self.inside.pass c.self.inside.desk c.post_own.new.self c.args.self.now same c.self.view_is) c.post_own.ensures.err

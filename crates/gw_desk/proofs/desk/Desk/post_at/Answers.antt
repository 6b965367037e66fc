use Rattle.std.proofs.Common.{◌∙◌, refl, sym, subst}
use Rattle.gw_desk.specs.declared.post.Post.{Post}
use Rattle.gw_desk.specs.Posting.{Posts}
use Rattle.gw_desk.specs.Workers.{PostsAt}
use Rattle.gw_desk.proofs.desk.Desk.post_at.Goals as goal

pub returns-in_default-clause-posts : goal.returns-in_default-clause-posts
returns-in_default-clause-posts c = rw (sym c.take.ensures.value ∙ c.in_default.is) PostsAt.idle

pub returns-in-Ok-Posted-clause-posts : goal.returns-in-Ok-Posted-clause-posts
returns-in-Ok-Posted-clause-posts c =
    let own = c.in-Some.own in
    let posts = subst (λ (p : Post). Posts c.args.self.now own p c.post.new.self) c.in-Ok-Posted.field-0-is c.in-Ok-Posted.ensures.posts in
    rw (sym c.take.ensures.value ∙ c.in-Some.is) (PostsAt.posted own c.post.new.self posts)

pub returns-in-Ok-Dropped-clause-posts : goal.returns-in-Ok-Dropped-clause-posts
returns-in-Ok-Dropped-clause-posts c =
    let own = c.in-Some.own in
    let posts = subst (λ (p : Post). Posts c.args.self.now own p c.post.new.self) c.in-Ok-Dropped.field-0-is c.in-Ok-Dropped.ensures.posts in
    rw (sym c.take.ensures.value ∙ c.in-Some.is) (rw posts.0 (PostsAt.dropped own (refl, posts.1)))

pub returns-in-Err-clause-posts : goal.returns-in-Err-clause-posts
returns-in-Err-clause-posts c = rw (sym c.take.ensures.value ∙ c.in-Some.is) (rw c.in-Err.ensures.err (PostsAt.refused c.in-Some.own))

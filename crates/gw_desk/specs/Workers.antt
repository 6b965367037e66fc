-- What becomes of the leg of one worker when he takes one, makes steps of it and posts it, with the replies. (Our own.)
use Rattle.std.specs.Prelude.{ℕ, Option, Some, None}
use Rattle.gw_desk.specs.declared.play.Reply.{Reply}
use Rattle.gw_desk.specs.declared.play.Reply.TheVariants as replies
use Rattle.gw_desk.specs.declared.post.Post.TheVariants as posts
use Rattle.gw_desk.specs.Book.{Book}
use Rattle.gw_desk.specs.Legs.{Leg, Takes, Works}
use Rattle.gw_desk.specs.Posting.{Posts}

-- he takes one, whatever he had
pub data TakesAt (b : Book) (rep : ℕ) : Reply → Option Leg → Type 0 where
  took : (l : Leg) → Takes b rep (Some l) → TakesAt b rep (replies.Took (Some l.run.start)) (Some l)
  none : Takes b rep None → TakesAt b rep (replies.Took None) None
  refused : TakesAt b rep replies.Memory None

-- he makes steps of it
pub data WorksAt (steps : ℕ) : Option Leg → Reply → Option Leg → Type 0 where
  worked : (made : ℕ) (l m : Leg) → Works steps made l m → WorksAt steps (Some l) (replies.Worked made) (Some m)
  idle : WorksAt steps None replies.Idle None

-- he gives it to the desk
pub data PostsAt (b : Book) : Option Leg → Reply → Book → Type 0 where
  posted : (l : Leg) (c : Book) → Posts b l posts.Posted c → PostsAt b (Some l) replies.Posted c
  dropped : (l : Leg) → Posts b l posts.Dropped b → PostsAt b (Some l) replies.Dropped b
  refused : (l : Leg) → PostsAt b (Some l) replies.Memory b
  idle : PostsAt b None replies.Idle b

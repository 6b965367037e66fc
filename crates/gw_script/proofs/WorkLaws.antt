-- The line `work` is a list of events of one worker.
use Rattle.std.proofs.Common.{◌≡◌, ℕ, List, [], ◌∷◌, ◌++◌, length, Option, Some, None, refl, sym, ap, subst, ◌∙◌}
use Rattle.gw_meaning.specs.Listing.{Listing}
use Rattle.gw_meaning.specs.declared.edit.Edit.{Edit}
use Rattle.gw_desk.specs.declared.play.Event.{Event}
use Rattle.gw_desk.specs.declared.play.Event.TheVariants as events
use Rattle.gw_desk.specs.declared.play.Reply.{Reply}
use Rattle.gw_desk.specs.declared.play.Reply.TheVariants as replies
use Rattle.gw_desk.specs.declared.post.Post.{Post}
use Rattle.gw_desk.specs.declared.post.Post.TheVariants as posts
use Rattle.gw_desk.specs.Book.{Book, IsBook}
use Rattle.gw_desk.specs.Legs.{Leg, Takes, Works}
use Rattle.gw_desk.specs.Posting.{Posts}
use Rattle.gw_desk.specs.Ledger.{Ledger, begun}
use Rattle.gw_desk.specs.Playing.{Goes, Follows, having}
use Rattle.gw_desk.specs.Working.{IsWorked}
use Rattle.gw_desk.specs.Headline.{AreRight, IsOfWorker}
use Rattle.gw_script.specs.Works.{OneWorker, no_leg, posted, in_vain}

pub record IsPlayed (b : Book) (rep steps : ℕ) (c : Book) : Type 0 where
  pub events : List Event
  pub replies : List Reply
  pub one : OneWorker rep steps events replies
  pub follows : Follows (begun b) events replies (begun c)

module _ (b : Book) (rep steps made : ℕ) (l m : Leg) (taken : Takes b rep (Some l)) (works : Works steps made l m) where
  abbrev first : Ledger
  first = having 1 (Some l) (begun b)

  abbrev second : Ledger
  second = having 1 (Some m) first

  before : (reply : Reply) (last : Ledger) → Follows second (events.Post 1 ∷ []) (reply ∷ []) last →
      Follows (begun b) (events.Take 1 rep ∷ events.Work 1 steps ∷ events.Post 1 ∷ [])
      (replies.Took (Some l.run.start) ∷ replies.Worked made ∷ reply ∷ []) last
  before reply last rest =
      Follows.event (begun b) first last _ _ _ _ ((λ h. h), Goes.took 1 rep l refl taken)
      (Follows.event first second last _ _ _ _ ((λ h. h), Goes.worked 1 steps made l m refl refl works) rest)

  pub by_leg : (c : Book) → (IsBook b → IsBook c) → (post : Post) → Posts b m post c → IsPlayed b rep steps c
  by_leg c desk posts.Posted done = record {
    events = events.Take 1 rep ∷ events.Work 1 steps ∷ events.Post 1 ∷ [];
    replies = replies.Took (Some l.run.start) ∷ replies.Worked made ∷ replies.Posted ∷ [];
    one = posted l.run.start made;
    follows = before replies.Posted (begun c)
        (Follows.event second (begun c) (begun c) _ _ _ _ (desk, Goes.posted 1 m c refl done) (Follows.nothing (begun c)));
  }
  by_leg c desk posts.Dropped done = record {
    events = events.Take 1 rep ∷ events.Work 1 steps ∷ events.Post 1 ∷ [];
    replies = replies.Took (Some l.run.start) ∷ replies.Worked made ∷ replies.Dropped ∷ [];
    one = in_vain l.run.start made;
    follows = before replies.Dropped (begun c)
        (subst (λ (d : Book). Follows second (events.Post 1 ∷ []) (replies.Dropped ∷ []) (begun d)) (sym done.0)
        (Follows.event second (begun b) (begun b) _ _ _ _ ((λ h. h), Goes.dropped 1 m refl (refl, done.1)) (Follows.nothing (begun b))));
  }

pub is_played : (b c : Book) (rep steps : ℕ) → (IsBook b → IsBook c) → IsWorked b rep steps c → IsPlayed b rep steps c
is_played b c rep steps desk (IsWorked.no_leg over same) = record {
  events = events.Take 1 rep ∷ [];
  replies = replies.Took None ∷ [];
  one = no_leg;
  follows = subst (λ (d : Book). Follows (begun b) (events.Take 1 rep ∷ []) (replies.Took None ∷ []) (begun d)) (sym same)
      (Follows.event (begun b) (begun b) (begun b) _ _ _ _ ((λ h. h), Goes.none_to_take 1 rep refl over) (Follows.nothing (begun b)));
}
is_played b c rep steps desk (IsWorked.by_leg l m made post taken works extends done) =
    by_leg b rep steps made l m taken works c desk post done

-- it leaves the version and the edits
pub record Leaves (b c : Book) : Type 0 where
  pub version : c.version ≡ b.version
  pub edits : c.edits ≡ b.edits

left_alone : (b c : Book) → c ≡ b → Leaves b c
left_alone b c same = record { version = ap (λ (a : Book). a.version) same; edits = ap (λ (a : Book). a.edits) same }

posting_leaves : (b c : Book) (l : Leg) (post : Post) → Posts b l post c → Leaves b c
posting_leaves b c l posts.Posted done = record { version = done.version; edits = done.edits }
posting_leaves b c l posts.Dropped done = left_alone b c done.0

pub worked_leaves : (b c : Book) (rep steps : ℕ) → IsWorked b rep steps c → Leaves b c
worked_leaves b c rep steps (IsWorked.no_leg over same) = left_alone b c same
worked_leaves b c rep steps (IsWorked.by_leg l m made post taken works extends done) = posting_leaves b c m post done

-- what one worker does is right, whatever comes after it
pub worker_is_right : (so : Listing → Listing → Type 0) (t : Listing) (n rep steps : ℕ) (some more : List Event) (told others : List Reply) →
    OneWorker rep steps some told → AreRight so t n more others → AreRight so t n (some ++ more) (told ++ others)
worker_is_right so t n rep steps some more told others no_leg h =
    AreRight.by_worker t n _ _ more others (IsOfWorker.taking 1 rep None) h
worker_is_right so t n rep steps some more told others (posted start made) h =
    AreRight.by_worker t n _ _ _ _ (IsOfWorker.taking 1 rep (Some start))
    (AreRight.by_worker t n _ _ _ _ (IsOfWorker.working 1 steps made) (AreRight.by_worker t n _ _ more others (IsOfWorker.posted 1) h))
worker_is_right so t n rep steps some more told others (in_vain start made) h =
    AreRight.by_worker t n _ _ _ _ (IsOfWorker.taking 1 rep (Some start))
    (AreRight.by_worker t n _ _ _ _ (IsOfWorker.working 1 steps made) (AreRight.by_worker t n _ _ more others (IsOfWorker.dropped 1) h))

-- one list of events after another
pub follows_on : (a m last : Ledger) (some more : List Event) (told others : List Reply) → Follows a some told m → Follows m more others last →
    Follows a (some ++ more) (told ++ others) last
follows_on a m last some more told others (Follows.nothing x) h = h
follows_on a m last some more told others (Follows.event x c y event reply rest replies moves follows) h =
    Follows.event x c last event reply (rest ++ more) (replies ++ others) moves (follows_on c m last rest more replies others follows h)

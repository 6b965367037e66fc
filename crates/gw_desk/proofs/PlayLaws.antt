-- The events of workers by what becomes of their legs, and one more event at the end of those that were played.
use Rattle.std.proofs.Common.{◌≡◌, ℕ, ◌-◌, ◌<◌, Bool, true, false, cond, List, [], ◌∷◌, ◌++◌, length, get_or, set, Option, Some, None, Result, Ok, Err, IfOk, IfErr, OnErr, refl, sym, ap, subst, ◌∙◌, arith}
use Rattle.std.specs.Prelude.{nat_le, option_map}
use Rattle.std.proofs.lemmas.Bool.{and_parts}
use Rattle.std.proofs.lemmas.Bool.Decides.{nat_tests}
use Rattle.std.proofs.lemmas.List.{set-get_or, get_or_default}
use Rattle.std.proofs.lemmas.Option.{slice_get-get_or}
use Rattle.gw_desk.specs.declared.play.Event.{Event}
use Rattle.gw_desk.specs.declared.play.Event.TheVariants as events
use Rattle.gw_desk.specs.declared.play.Reply.{Reply}
use Rattle.gw_desk.specs.declared.play.Reply.TheVariants as replies
use Rattle.gw_meaning.specs.declared.edit.Edit.{Edit}
use Rattle.gw_edit.specs.declared.fault.EditFault.{EditFault}
use Rattle.gw_desk.specs.Book.{Book, IsBook}
use Rattle.gw_desk.specs.Editing.{Accepts, Refuses}
use Rattle.gw_desk.specs.Legs.{Leg, Takes}
use Rattle.gw_desk.specs.Ledger.{Ledger, is_worker, place_of, leg_of}
use Rattle.gw_desk.specs.Playing.{Tells, Does, Goes, Moves, Follows}
use Rattle.gw_desk.specs.Workers.{TakesAt, WorksAt, PostsAt}

-- a worker that there is has a place
place_there : (w place : ℕ) → place_of w ≡ Some place → (is_worker w ≡ true) × (place ≡ w - 1)
place_there w place at = go (is_worker w) refl at where
  go : (b : Bool) → is_worker w ≡ b → cond b (Some (w - 1)) None ≡ Some place → (is_worker w ≡ true) × (place ≡ w - 1)
  go true is some = (is, cc)
  go false is some = absurd cc

no_place : (w : ℕ) → place_of w ≡ None → is_worker w ≡ false
no_place w at = go (is_worker w) refl at where
  go : (b : Bool) → is_worker w ≡ b → cond b (Some (w - 1)) None ≡ None → is_worker w ≡ false
  go true is none = absurd cc
  go false is none = is

-- an edit, as it is replied
pub edited : (b c : Book) (e : Edit) (result : Result ℕ EditFault) → IsBook c → IfOk result (Accepts b e c) →
    IfOk result (λ n. Does b (events.Edit e) (replies.Edited n) c)
edited b c e (Ok n) desk accepts = ((λ before. desk), Tells.accepted e n c accepts)
edited b c e (Err fault) desk accepts = tt

pub edit_refused : (b c : Book) (e : Edit) (result : Result ℕ EditFault) → IfErr result (Refuses b e) → OnErr result (c ≡ b) →
    IfErr result (λ fault. Does b (events.Edit e) (replies.Refused fault) c)
edit_refused b c e (Ok n) refuses same = tt
edit_refused b c e (Err fault) refuses same =
    subst (λ (x : Book). Does b (events.Edit e) (replies.Refused fault) x) (sym same) ((λ desk. desk), Tells.refused e fault refuses)

-- a leg that was taken, or none
pub took_so : (b : Book) (rep : ℕ) (leg : Option Leg) → Takes b rep leg → TakesAt b rep (replies.Took (option_map (λ (l : Leg). l.run.start) leg)) leg
took_so b rep None takes = TakesAt.none takes
took_so b rep (Some l) takes = TakesAt.took l takes

-- the ledger with this leg there
abbrev pub with_own : Ledger → Book → ℕ → Option Leg → Ledger
with_own a c place leg = record { book = c; legs = set a.legs place leg }

module _ (a : Ledger) (w : ℕ) (is : is_worker w ≡ true) where
  takes_so : (rep : ℕ) (reply : Reply) (leg : Option Leg) → TakesAt a.book rep reply leg → Goes a (events.Take w rep) reply (with_own a a.book (w - 1) leg)
  takes_so rep reply leg (TakesAt.took l t) = Goes.took w rep l is t
  takes_so rep reply leg (TakesAt.none t) = Goes.none_to_take w rep is t
  takes_so rep reply leg TakesAt.refused = Goes.take_refused w rep is

  works_so : (steps : ℕ) (own : Option Leg) (reply : Reply) (leg : Option Leg) → leg_of a w ≡ own → set a.legs (w - 1) own ≡ a.legs →
      WorksAt steps own reply leg → Goes a (events.Work w steps) reply (with_own a a.book (w - 1) leg)
  works_so steps own reply leg has same (WorksAt.worked made l m works) = Goes.worked w steps made l m is has works
  works_so steps own reply leg has same WorksAt.idle =
      subst (λ legs. Goes a (events.Work w steps) replies.Idle (record { book = a.book; legs = legs })) (sym same) (Goes.no_work w steps has)

  posts_so : (own : Option Leg) (reply : Reply) (c : Book) → leg_of a w ≡ own → set a.legs (w - 1) own ≡ a.legs → PostsAt a.book own reply c →
      Goes a (events.Post w) reply (with_own a c (w - 1) None)
  posts_so own reply c has same (PostsAt.posted l d posts) = Goes.posted w l d has posts
  posts_so own reply c has same (PostsAt.dropped l posts) = Goes.dropped w l has posts
  posts_so own reply c has same (PostsAt.refused l) = Goes.post_refused w l has
  posts_so own reply c has same PostsAt.idle =
      subst (λ legs. Goes a (events.Post w) replies.Idle (record { book = a.book; legs = legs })) (sym same) (Goes.no_post w has)

module _ (a : Ledger) (w place : ℕ) (d : Option Leg) (many : length a.legs ≡ 16) (at : place_of w ≡ Some place) where
  -- the leg that he has
  abbrev own : Option Leg
  own = get_or a.legs place d

  is : is_worker w ≡ true
  is = (place_there w place at).0

  there : place ≡ w - 1
  there = (place_there w place at).1

  within : w - 1 < length a.legs
  within = let high = and_parts (nat_le 1 w) (nat_le w 16) is in grind (arith, nat_tests)

  own_there : own ≡ get_or a.legs (w - 1) None
  own_there = ap (λ n. get_or a.legs n d) there ∙ get_or_default a.legs (w - 1) d None within

  has : leg_of a w ≡ own
  has = rw (is, slice_get-get_or a.legs (w - 1) None within) (sym own_there)

  same : set a.legs (w - 1) own ≡ a.legs
  same = ap (λ o. set a.legs (w - 1) o) own_there ∙ set-get_or a.legs (w - 1) None

  pub takes : (rep : ℕ) (reply : Reply) (leg : Option Leg) → TakesAt a.book rep reply leg → Goes a (events.Take w rep) reply (with_own a a.book place leg)
  takes rep reply leg t = subst (λ n. Goes a (events.Take w rep) reply (with_own a a.book n leg)) (sym there) (takes_so a w is rep reply leg t)

  pub works : (steps : ℕ) (reply : Reply) (leg : Option Leg) → WorksAt steps (get_or a.legs place d) reply leg →
      Goes a (events.Work w steps) reply (with_own a a.book place leg)
  works steps reply leg t =
      subst (λ n. Goes a (events.Work w steps) reply (with_own a a.book n leg)) (sym there) (works_so a w is steps own reply leg has same t)

  pub posts : (reply : Reply) (c : Book) → PostsAt a.book (get_or a.legs place d) reply c → Goes a (events.Post w) reply (with_own a c place None)
  posts reply c t = subst (λ n. Goes a (events.Post w) reply (with_own a c n None)) (sym there) (posts_so a w is own reply c has same t)

-- nobody is there to take, to work or to post
module _ (a : Ledger) (w : ℕ) (at : place_of w ≡ None) where
  has_none : leg_of a w ≡ None
  has_none = rw (no_place w at) refl

  pub takes_nothing : (rep : ℕ) → Goes a (events.Take w rep) replies.Idle a
  takes_nothing rep = Goes.no_worker w rep (no_place w at)

  pub works_nothing : (steps : ℕ) → Goes a (events.Work w steps) replies.Idle a
  works_nothing steps = Goes.no_work w steps has_none

  pub posts_nothing : Goes a (events.Post w) replies.Idle a
  posts_nothing = Goes.no_post w has_none

-- what leaves the book as it is
pub stays : (a : Ledger) (c : Book) (event : Event) (reply : Reply) → c ≡ a.book → Goes a event reply a → Moves a event reply (record { book = c; legs = a.legs })
stays a c event reply same goes =
    subst (λ (x : Book). Moves a event reply (record { book = x; legs = a.legs })) (sym same) ((λ desk. desk), goes)

-- one more
pub follows_more : (a c d : Ledger) (es : List Event) (rs : List Reply) (e : Event) (r : Reply) → Follows a es rs c → Moves c e r d →
    Follows a (es ++ e ∷ []) (rs ++ r ∷ []) d
follows_more a c d es rs e r (Follows.nothing x) moves = Follows.event x d d e r [] [] moves (Follows.nothing d)
follows_more a c d es rs e r (Follows.event x y z first reply more others goes rest) moves =
    Follows.event x y d first reply (more ++ e ∷ []) (others ++ r ∷ []) goes (follows_more y z d more others e r rest moves)

pub none_of : {A : Type 0} (xs : List A) → length xs ≡ 0 → xs ≡ []
none_of [] is = refl
none_of (x ∷ xs) is = absurd (omega (arith, is))

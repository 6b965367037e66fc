-- What a leg that is posted brings.
use Rattle.std.proofs.Common.{◌≡◌, ℕ, List, [], ◌∷◌, ◌++◌, ◌-◌, length, take, drop, ◌≤◌, Some, None, Option, Result, Ok, Err, IfOk, refl, sym, ap, subst, ◌∙◌}
use Rattle.std.proofs.Math.Nat.{le_refl}
use Rattle.std.proofs.lemmas.List.{take_all, length-drop}
use Rattle.gw_meaning.specs.Listing.{Listing}
use Rattle.gw_record.specs.Tape.{Tape}
use Rattle.gw_meaning.specs.declared.edit.Edit.{Edit}
use Rattle.gw_edit.specs.Leading.{LeadsTo}
use Rattle.gw_desk.specs.declared.post.Post.{Post}
use Rattle.gw_desk.specs.declared.post.Post.TheVariants as posts
use Rattle.gw_desk.specs.Book.{Book, IsBook}
use Rattle.gw_desk.specs.Legs.{Leg, IsLeg}
use Rattle.gw_desk.specs.Fates.{IsOf, Lives, IsDead, IsUseless}
use Rattle.gw_desk.specs.Records.{Offers}
use Rattle.gw_desk.specs.Posting.{Posts}
use Rattle.gw_desk.specs.Surviving.{Leaves}
use Rattle.std.specs.declared.alloc.AllocError.{AllocError}
use Rattle.gw_edit.proofs.LeadLaws.{leads_on, leads_once}
use Rattle.gw_desk.proofs.FateLaws.{lives_leads, lives_records, IsStillRun}

drop_front : {X : Type 0} (xs ys : List X) → drop (length xs) (xs ++ ys) ≡ ys
drop_front [] ys = refl
drop_front (x ∷ xs) ys = drop_front xs ys

module _ (b : Book) (l : Leg) (h : IsBook b) (is : IsLeg l) (later : List Edit) (of : IsOf b l later) where
  pub later_is : drop (length l.edits) b.edits ≡ later
  later_is = ap (λ es. drop (length l.edits) es) of.front ∙ drop_front l.edits later

  leads : LeadsTo l.version later b.version
  leads =
      let all : LeadsTo l.opening b.edits b.version = subst (λ t. LeadsTo t b.edits b.version) (sym of.opening) h.leads in
      leads_on l.opening l.version b.version l.edits later is.leads (subst (λ es. LeadsTo l.opening es b.version) of.front all)

  module _ (w : Listing) (s : Tape) (lives : Lives l.version later l.replication l.run w s) where
    pub reached : w ≡ b.version
    reached = leads_once l.version w b.version later (lives_leads l.version w later l.replication l.run s lives) leads

    pub still : IsStillRun b.version l.replication l.run s
    still = subst (λ t. IsStillRun t l.replication l.run s) reached
        (lives_records l.version w later l.replication l.seed l.run s lives is.with_seed is.records)

    alive : Lives l.version later l.replication l.run b.version s
    alive = subst (λ t. Lives l.version later l.replication l.run t s) reached lives

    -- it is offered to the desk
    pub posts_so : (post : Post) (c : Book) → Offers b l.replication s post c → Posts b l post c
    posts_so posts.Posted c o = record {
      own = o.own;
      left = s;
      fits = record { later = later; of = of; lives = alive; there = o.had; from = o.from; beyond = o.beyond };
      run = o.run;
      there = o.there;
      moment = o.moment;
      opening = o.opening;
      version = o.version;
      every = o.every;
      edits = o.edits;
      made = o.made;
      others = o.others;
    }
    posts_so posts.Dropped c (same, o) = (same, IsUseless.in_vain later o.own s of alive o.had o.why)

  -- it is dead
  pub dead_so : IsDead l.version later l.replication l.run → IsUseless b l
  dead_so d = IsUseless.dead later of d

-- a leg of a desk with another opening version
pub of_another_opening : (b : Book) (l : Leg) → (l.opening ≡ b.opening → ⊥) → IsUseless b l
of_another_opening b l other = IsUseless.of_another (λ later of. other of.opening)

-- what is left of a leg of this desk, of which the edits after its own were read off the desk's
module _ (b : Book) (l : Leg) (h : IsBook b) (is : IsLeg l) (later : List Edit) (of : IsOf b l later) (all : List Edit) (n : ℕ) (left : Option Tape)
    (whole : all ≡ b.edits) (front : n ≡ length l.edits) (leaves : Leaves l (take (length all - n) (drop n all)) left) where
  behind : Leaves l later left
  behind =
      let rest : take (length all - n) (drop n all) ≡ drop n all =
      take_all (length all - n) (drop n all) (subst (λ m. length (drop n all) ≤ m) (length-drop n all) (le_refl (length (drop n all)))) in
      let these : drop n all ≡ later = ap (λ es. drop n es) whole ∙ (ap (λ m. drop m b.edits) front ∙ later_is b l h is later of) in
      subst (λ es. Leaves l es left) (rest ∙ these) leaves

  pub useless : left ≡ None → IsUseless b l
  useless none = dead_so b l h is later of (subst (λ o. Leaves l later o) none behind)

  pub alive_at : (s : Tape) → left ≡ Some s → (w : Listing) × Lives l.version later l.replication l.run w s
  alive_at s some = subst (λ o. Leaves l later o) some behind

  -- and it is offered to the desk
  pub posted_so : (s : Tape) → left ≡ Some s → (result : Result Post AllocError) (c : Book) → IfOk result (λ post. Offers b l.replication s post c) →
      IfOk result (λ post. Posts b l post c)
  posted_so s some (Ok post) c offers =
      let alive = alive_at s some in
      posts_so b l h is later of alive.0 s alive.1 post c offers
  posted_so s some (Err e) c offers = tt

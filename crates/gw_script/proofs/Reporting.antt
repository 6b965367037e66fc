-- Reports of several replications, one after the other.
use Rattle.std.proofs.Common.{◌≡◌, ℕ, suc, List, length, [], ◌∷◌, ◌++◌, refl, ap, sym, subst, ◌∙◌, append_assoc, append-nil, Result, Ok, Err, OnErr}
use Rattle.std.specs.Prelude.{codes, decimal}
use Rattle.gw_meaning.specs.declared.statement.Replication.{Replication}
use Rattle.gw_meaning.specs.Listing.{Listing}
use Rattle.gw_desk.specs.declared.play.Event.{Event}
use Rattle.gw_desk.specs.declared.play.Event.TheVariants as events
use Rattle.gw_desk.specs.declared.play.Reply.{Reply}
use Rattle.gw_script.specs.Answers.{Queries, ReportEach, Puts, PutsOne, MakesSome, ReportsAll, whole, refused, numbers_of}

-- one replication more
each_more : {D : Type 0} (does : D → Event → Reply → D → Type 0) (k : ℕ) (d d' d'' : D) (reps out : List ℕ) (rep : ℕ) (front : List ℕ) →
    ReportEach does k d reps out d' → Queries does d' (events.Finish rep k) front d'' → ReportEach does k d (reps ++ rep ∷ []) (out ++ front) d''
each_more {D} does k d d' d'' [] out rep front e r =
    let R : D → Type 0 = λ x. Queries does x (events.Finish rep k) front d'' in
    (front, [], d'', subst R e.1 r, (refl, refl), ap (λ o. o ++ front) e.0 ∙ sym (append-nil front))
each_more does k d d' d'' (x ∷ xs) out rep front e r =
    (e.0, e.1 ++ front, e.2, e.3, each_more does k e.2 d' d'' xs e.1 rep front e.4 r, ap (λ o. o ++ front) e.5 ∙ append_assoc e.0 e.1 front)

pub puts_none : {D : Type 0} (does : D → Event → Reply → D → Type 0) (d : D) (k : ℕ) (text : List ℕ) → Puts does d k [] text text d
puts_none does d k text = record { out = []; reports = (refl, refl); put = sym (append-nil text) }

pub puts_more : {D : Type 0} (does : D → Event → Reply → D → Type 0) (k : ℕ) (d d' d'' : D) (reps reps' : List ℕ) (rep : ℕ) (old mid new : List ℕ) →
    reps' ≡ reps ++ rep ∷ [] → Puts does d k reps old mid d' → PutsOne does d' rep k mid new d'' → Puts does d k reps' old new d''
puts_more does k d d' d'' reps reps' rep old mid new is p one =
    let R : List ℕ → Type 0 = λ x. ReportEach does k d x (p.out ++ one.front) d'' in
    record {
      out = p.out ++ one.front;
      reports = subst R (sym is) (each_more does k d d' d'' reps p.out rep one.front p.reports one.reports);
      put = one.put ∙ (ap (λ x. x ++ one.front) p.put ∙ append_assoc old p.out one.front);
    }

pub makes_more : {D : Type 0} (does : D → Event → Reply → D → Type 0) (k : ℕ) (d d' d'' : D) (reps reps' left : List ℕ) (rep : ℕ) (old mid front : List ℕ) →
    reps' ≡ (reps ++ rep ∷ []) ++ left → Puts does d k reps old mid d' → Queries does d' (events.Finish rep k) front d'' → MakesSome does d k reps' d''
makes_more does k d d' d'' reps reps' left rep old mid front is p r = record {
  done = reps ++ rep ∷ [];
  left = left;
  out = p.out ++ front;
  parts = is;
  reports = each_more does k d d' d'' reps p.out rep front p.reports r;
}

pub on_err : {A E : Type 0} (r : Result A E) (P : Type 0) → P → OnErr r P
on_err (Ok x) P p = tt
on_err (Err e) P p = p

length-numbers_of : (rs : List Replication) → length (numbers_of rs) ≡ length rs
length-numbers_of [] = refl
length-numbers_of (r ∷ rs) = ap suc (length-numbers_of rs)

pub all_refused : {D : Type 0} (version : D → Listing) (does : D → Event → Reply → D → Type 0) (d d' : D) (k : ℕ) (numbers : List ℕ) →
    numbers ≡ numbers_of (version d).replications → MakesSome does d k numbers d' → ReportsAll version does d k (codes "memory\n") d'
all_refused version does d d' k numbers all some = refused some.done some.left some.out (sym all ∙ some.parts) some.reports refl

pub all_whole : {D : Type 0} (version : D → Listing) (does : D → Event → Reply → D → Type 0) (d d' : D) (k count : ℕ) (numbers old new : List ℕ) →
    numbers ≡ numbers_of (version d).replications → count ≡ length numbers → old ≡ codes "all " ++ decimal count ++ codes "\n" →
    Puts does d k numbers old new d' → ReportsAll version does d k new d'
all_whole version does d d' k count numbers old new all counted heading p =
    let R : List ℕ → Type 0 = λ x. ReportEach does k d x p.out d' in
    let n : count ≡ length (version d).replications = counted ∙ (ap length all ∙ length-numbers_of (version d).replications) in
    whole p.out (subst R all p.reports) (p.put ∙ ap (λ x. x ++ p.out) (heading ∙ ap (λ m. codes "all " ++ decimal m ++ codes "\n") n))

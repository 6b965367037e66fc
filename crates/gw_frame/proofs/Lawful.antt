-- What the laws want to know of an evaluation in a state, and of the same evaluation in the moved state: what the first
-- gives, how it ends, what it reads and draws; and that the second comes to the same, moved, where its questions are
-- answered moved. Each way to build evaluations keeps this, so each verb is one lemma.
use Rattle.std.proofs.Common.{◌≡◌, ℕ, Bool, true, false, cond, List, [], ◌∷◌, ◌++◌, Result, Ok, Err, refl, ap, sym, subst, ◌∙◌}
use Rattle.std.specs.List.{AllByRecursion}
use Rattle.gw_expr.specs.declared.stop.Stop.{Stop}
use Rattle.gw_streams.specs.declared.stream.Stream.{Stream}
use Rattle.gw_meaning.specs.declared.item.Item.{Item}
use Rattle.gw_meaning.specs.declared.item.Item.TheVariants as items
use Rattle.gw_expr.specs.declared.halt.End.{End}
use Rattle.gw_expr.specs.declared.halt.End.TheVariants as ends
use Rattle.gw_meaning.specs.Listing.{Listing}
use Rattle.gw_meaning.specs.Questions.{Answer, ask, Prog, Gives, result_of, items_of, ◌>>=◌}
use Rattle.gw_meaning.specs.Reads.{is_use}
use Rattle.gw_meaning.specs.Evaluation.{Eval, gives, ends_with, asks, ◌~>◌, stops_if}
use Rattle.gw_frame.specs.Moved.{moved_item, moved_answer, MovedAnswer}
use Rattle.gw_meaning.proofs.Programs.{bind_gives, bind_ends}
use Rattle.gw_frame.proofs.Seeds.{Drew, none_drew, both_drew, asks_drew}

pub all_with : {X : Type 0} (P : X → Type 0) (xs ys : List X) → AllByRecursion P xs → AllByRecursion P ys → AllByRecursion P (xs ++ ys)
all_with P [] ys h k = k
all_with P (x ∷ xs) ys h k = (h.0, all_with P xs ys h.1 k)

abbrev pub IsError : End → Type 0
IsError (ends.Error stop) = Unit {0}
IsError end = ⊥

-- what f makes of a result
abbrev pub result_with : {A B : Type 0} → (A → B) → Result A End → Result B End
result_with f (Ok a) = Ok (f a)
result_with f (Err end) = Err end

-- every question is answered moved
abbrev pub IsAnsweredMoved : (ℕ → ℕ) → Listing → ℕ → Listing → ℕ → Type 0
IsAnsweredMoved move t seed u new_seed = (i : Item) → MovedAnswer move t seed u new_seed i

-- what p gives and the items that it reads have the property Q, an end of it has the property E, and q follows p, with
-- f of what p gives
pub record ProgLawful {A B : Type 0} (t : Listing) (seed : ℕ) (move : ℕ → ℕ) (E : End → Type 0) (f : A → B) (Q : A → List Item → Type 0)
    (p : Prog A) (q : Prog B) : Type 0 where
  pub given : (a : A) → result_of t seed p ≡ Ok a → Q a (items_of t seed p)
  pub ended : (end : End) → result_of t seed p ≡ Err end → E end
  pub follows : (u : Listing) (new_seed : ℕ) → IsAnsweredMoved move t seed u new_seed → result_of u new_seed q ≡ result_with f (result_of t seed p)

-- the same of evaluations, from any streams: what p gives has the property Q, each item that it reads the property I,
-- it reads the seed just where a stream draws first, and both have the same streams after; where D holds, p draws
-- nothing, and comes to the same from any streams
abbrev pub Known : {A : Type 0} → (Item → Type 0) → (A → Type 0) → List Stream → A × List Stream → List Item → Type 0
Known I Q before r is = Q r.0 × AllByRecursion I is × Drew before r.1 is

abbrev pub and_streams : {A B : Type 0} → (A → B) → A × List Stream → B × List Stream
and_streams f r = (f r.0, r.1)

pub record Lawful {A B : Type 0} (t : Listing) (seed : ℕ) (move : ℕ → ℕ) (D : Type 0) (I : Item → Type 0) (E : End → Type 0) (f : A → B)
    (Q : A → Type 0) (p : Eval A) (q : Eval B) : Type 0 where
  pub from : (streams : List Stream) → ProgLawful t seed move E (and_streams f) (Known I Q streams) (p streams) (q streams)
  pub steady : D → (before : List Stream) (r : A × List Stream) → result_of t seed (p before) ≡ Ok r → (streams : List Stream) →
      result_of t seed (p streams) ≡ Ok (r.0, streams)

-- programs
pub prog_gives : {A B : Type 0} {t : Listing} {seed : ℕ} {move : ℕ → ℕ} {E : End → Type 0} {f : A → B} {Q : A → List Item → Type 0} {a : A} {b : B} →
    b ≡ f a → Q a [] → ProgLawful t seed move E f Q (Gives a) (Gives b)
prog_gives {A} {Q = Q} {a = a} same h = record {
  given = λ c is. (let one : a ≡ c = cc in subst (λ d. Q d []) one h);
  ended = λ end is. absurd cc;
  follows = λ u new_seed answered. ap (λ v. Ok v) same;
}

pub prog_bind : {A B C D : Type 0} {t : Listing} {seed : ℕ} {move : ℕ → ℕ} {E : End → Type 0} {f : A → B} {g : C → D} {Q : A → List Item → Type 0}
    {R : C → List Item → Type 0} {p : Prog A} {q : Prog B} {k : A → Prog C} (l : B → Prog D) → ProgLawful t seed move E f Q p q →
    ((a : A) (is : List Item) → Q a is → ProgLawful t seed move E g (λ c js. R c (is ++ js)) (k a) (l (f a))) →
    ProgLawful t seed move E g R (p >>= k) (q >>= l)
prog_bind {A} {B} {C} {D} {t} {seed} {move} {E} {f} {g} {Q} {R} {p} {q} {k} l first second = record {
  given = λ c is. gives_so c is (result_of t seed p) refl;
  ended = λ end is. ends_so end is (result_of t seed p) refl;
  follows = λ u new_seed answered. follows_so u new_seed answered (result_of t seed p) refl;
} where
  gives_so : (c : C) → result_of t seed (p >>= k) ≡ Ok c → (r : Result A End) → result_of t seed p ≡ r → R c (items_of t seed (p >>= k))
  gives_so c is (Ok a) there =
      let both = bind_gives t seed p k a there in
      let last = (second a (items_of t seed p) (first.given a there)).given c (sym both.0 ∙ is) in
      subst (R c) (sym both.1) last
  gives_so c is (Err end) there = absurd (let whole : Err end ≡ Ok c = sym (bind_ends t seed p k end there).0 ∙ is in cc)

  ends_so : (end : End) → result_of t seed (p >>= k) ≡ Err end → (r : Result A End) → result_of t seed p ≡ r → E end
  ends_so end is (Ok a) there =
      (second a (items_of t seed p) (first.given a there)).ended end (sym (bind_gives t seed p k a there).0 ∙ is)
  ends_so end is (Err e) there =
      let whole : Err e ≡ Err end = sym (bind_ends t seed p k e there).0 ∙ is in
      let same : e ≡ end = cc in
      first.ended end (there ∙ ap (λ x. Err x) same)

  follows_so : (u : Listing) (new_seed : ℕ) → IsAnsweredMoved move t seed u new_seed → (r : Result A End) → result_of t seed p ≡ r →
      result_of u new_seed (q >>= l) ≡ result_with g (result_of t seed (p >>= k))
  follows_so u new_seed answered (Ok a) is =
      let there = bind_gives u new_seed q l (f a) (first.follows u new_seed answered ∙ ap (result_with f) is) in
      let rest = second a (items_of t seed p) (first.given a is) in
      there.0 ∙ (rest.follows u new_seed answered ∙ ap (result_with g) (sym (bind_gives t seed p k a is).0))
  follows_so u new_seed answered (Err end) is =
      let there = bind_ends u new_seed q l end (first.follows u new_seed answered ∙ ap (result_with f) is) in
      there.0 ∙ ap (result_with g) (sym (bind_ends t seed p k end is).0)

-- what is known has what follows from it
pub prog_so : {A B : Type 0} {t : Listing} {seed : ℕ} {move : ℕ → ℕ} {D E : End → Type 0} {f : A → B} {Q R : A → List Item → Type 0} {p : Prog A}
    {q : Prog B} → ((end : End) → E end → D end) → ((a : A) → result_of t seed p ≡ Ok a → Q a (items_of t seed p) → R a (items_of t seed p)) →
    ProgLawful t seed move E f Q p q → ProgLawful t seed move D f R p q
prog_so why more h = record {
  given = λ a is. more a is (h.given a is);
  ended = λ end is. why end (h.ended end is);
  follows = λ u new_seed answered. h.follows u new_seed answered;
}

-- what an evaluation of two parts comes to
pub bind_parts : {A B : Type 0} (t : Listing) (seed : ℕ) (p : Eval A) (k : A → Eval B) (before : List Stream) (r : B × List Stream) →
    result_of t seed ((p ~> k) before) ≡ Ok r →
    (a : A × List Stream) × (result_of t seed (p before) ≡ Ok a) × (result_of t seed (k a.0 a.1) ≡ Ok r)
bind_parts {A} {B} t seed p k before r is = go (result_of t seed (p before)) refl where
  go : (first : Result (A × List Stream) End) → result_of t seed (p before) ≡ first →
      (a : A × List Stream) × (result_of t seed (p before) ≡ Ok a) × (result_of t seed (k a.0 a.1) ≡ Ok r)
  go (Ok a) there = (a, there, sym (bind_gives t seed (p before) (λ b. k b.0 b.1) a there).0 ∙ is)
  go (Err end) there = absurd (let whole : Err end ≡ Ok r = sym (bind_ends t seed (p before) (λ b. k b.0 b.1) end there).0 ∙ is in cc)

-- evaluations
pub lawful_so : {A B : Type 0} {t : Listing} {seed : ℕ} {move : ℕ → ℕ} {D : Type 0} {I : Item → Type 0} {E F : End → Type 0} {f : A → B} {Q R : A → Type 0}
    {p : Eval A} {q : Eval B} → ((end : End) → E end → F end) →
    ((streams : List Stream) (r : A × List Stream) → result_of t seed (p streams) ≡ Ok r → Q r.0 → R r.0) →
    Lawful t seed move D I E f Q p q → Lawful t seed move D I F f R p q
lawful_so why more h = record {
  from = λ streams. prog_so why (λ r is k. (more streams r is k.0, k.1, k.2)) (h.from streams);
  steady = h.steady;
}

pub lawful_gives : {A B : Type 0} {t : Listing} {seed : ℕ} {move : ℕ → ℕ} {D : Type 0} {I : Item → Type 0} {E : End → Type 0} {f : A → B} {Q : A → Type 0}
    {a : A} {b : B} → b ≡ f a → Q a → Lawful t seed move D I E f Q (gives a) (gives b)
lawful_gives {A} {a = a} same h = record {
  from = λ streams. prog_gives (ap (λ v. (v, streams)) same) (h, tt, none_drew streams);
  steady = λ quiet before r is streams. (let one : (a, before) ≡ r = cc in ap (λ (v : A × List Stream). Ok (v.0, streams)) one);
}

pub lawful_end : {A B : Type 0} {t : Listing} {seed : ℕ} {move : ℕ → ℕ} {D : Type 0} {I : Item → Type 0} {E : End → Type 0} {f : A → B} {Q : A → Type 0}
    {end : End} → E end → Lawful t seed move D I E f Q (ends_with end) (ends_with end)
lawful_end {E = E} {end = end} h = record {
  from = λ streams. record {
    given = λ r is. absurd cc;
    ended = λ other is. (let same : end ≡ other = cc in subst E same h);
    follows = λ u new_seed answered. refl;
  };
  steady = λ quiet before r is. absurd cc;
}

-- an item of which I is known where something comes of it
pub lawful_asks_so : {A B : Type 0} {t : Listing} {seed : ℕ} {move : ℕ → ℕ} {D : Type 0} {I : Item → Type 0} {E : End → Type 0} {f : A → B} {Q : A → Type 0}
    (i : Item) {k : Answer i → Eval A} {l : Answer (moved_item move i) → Eval B} → is_use items.Seed i ≡ false →
    ((streams : List Stream) (r : A × List Stream) → result_of t seed (k (ask t seed i) streams) ≡ Ok r → I i) →
    Lawful t seed move D I E f Q (k (ask t seed i)) (l (moved_answer move i (ask t seed i))) →
    Lawful t seed move D I E f Q (asks i k) (asks (moved_item move i) l)
lawful_asks_so {t = t} {seed = seed} {move = move} {f = f} i {k} {l} other may rest = record {
  from = λ streams. record {
    given = λ r is. (let h = (rest.from streams).given r is in (h.0, (may streams r is, h.1), asks_drew streams r.1 i _ other h.2));
    ended = λ end is. (rest.from streams).ended end is;
    follows = λ u new_seed answered. subst
        (λ (x : Answer (moved_item move i)). result_of u new_seed (l x streams) ≡ result_with (and_streams f) (result_of t seed (k (ask t seed i) streams)))
        (sym (answered i)) ((rest.from streams).follows u new_seed answered);
  };
  steady = λ quiet before r is streams. rest.steady quiet before r is streams;
}

pub lawful_asks : {A B : Type 0} {t : Listing} {seed : ℕ} {move : ℕ → ℕ} {D : Type 0} {I : Item → Type 0} {E : End → Type 0} {f : A → B} {Q : A → Type 0}
    (i : Item) {k : Answer i → Eval A} {l : Answer (moved_item move i) → Eval B} → is_use items.Seed i ≡ false → I i →
    Lawful t seed move D I E f Q (k (ask t seed i)) (l (moved_answer move i (ask t seed i))) →
    Lawful t seed move D I E f Q (asks i k) (asks (moved_item move i) l)
lawful_asks i other may rest = lawful_asks_so i other (λ streams r is. may) rest

pub lawful_cond : {A B : Type 0} {t : Listing} {seed : ℕ} {move : ℕ → ℕ} {D : Type 0} {I : Item → Type 0} {E : End → Type 0} {f : A → B} {Q : A → Type 0}
    (b : Bool) {p p' : Eval A} {q q' : Eval B} → Lawful t seed move D I E f Q p q → Lawful t seed move D I E f Q p' q' →
    Lawful t seed move D I E f Q (cond b p p') (cond b q q')
lawful_cond true yes' no' = yes'
lawful_cond false yes' no' = no'

pub lawful_bind : {A B C Y : Type 0} {t : Listing} {seed : ℕ} {move : ℕ → ℕ} {D : Type 0} {I : Item → Type 0} {E : End → Type 0} {f : A → B} {g : C → Y}
    {Q : A → Type 0} {R : C → Type 0} {p : Eval A} {q : Eval B} {k : A → Eval C} (l : B → Eval Y) → Lawful t seed move D I E f Q p q →
    ((a : A) → Q a → Lawful t seed move D I E g R (k a) (l (f a))) → Lawful t seed move D I E g R (p ~> k) (q ~> l)
lawful_bind {t = t} {seed = seed} {I = I} {R = R} {p = p} {k = k} l first second = record {
  from = λ streams. prog_bind {R = Known I R streams} _ (first.from streams) (λ r is h. (let rest = (second r.0 h.0).from r.1 in record {
    given = λ c there. (let g = rest.given c there in (g.0, all_with I is _ h.1 g.1, both_drew streams r.1 c.1 is _ h.2 g.2));
    ended = λ end there. rest.ended end there;
    follows = λ u new_seed answered. rest.follows u new_seed answered;
  }));
  steady = λ quiet before r is streams.
      (let parts = bind_parts t seed p k before r is in
      let known = (first.from before).given parts.0 parts.1 in
      let one = first.steady quiet before parts.0 parts.1 streams in
      (bind_gives t seed (p streams) (λ b. k b.0 b.1) (parts.0.0, streams) one).0
      ∙ (second parts.0.0 known.0).steady quiet parts.0.1 r parts.2 streams);
}

-- an error, and a test at which it comes; what comes after the test may know that it does not hold
pub lawful_ends : {A B : Type 0} {t : Listing} {seed : ℕ} {move : ℕ → ℕ} {D : Type 0} {I : Item → Type 0} {f : A → B} {Q : A → Type 0} {stop : Stop} →
    Lawful t seed move D I IsError f Q (ends_with (ends.Error stop)) (ends_with (ends.Error stop))
lawful_ends = lawful_end tt

pub lawful_unless : {A B : Type 0} {t : Listing} {seed : ℕ} {move : ℕ → ℕ} {D : Type 0} {I : Item → Type 0} {f : A → B} {Q : A → Type 0}
    (b : Bool) (stop : Stop)
    {p : Eval A} {q : Eval B} → (b ≡ false → Lawful t seed move D I IsError f Q p q) →
    Lawful t seed move D I IsError f Q (stops_if b stop p) (stops_if b stop q)
lawful_unless true stop h = lawful_ends
lawful_unless false stop h = h refl

pub lawful_stops : {A B : Type 0} {t : Listing} {seed : ℕ} {move : ℕ → ℕ} {D : Type 0} {I : Item → Type 0} {f : A → B} {Q : A → Type 0}
    (b : Bool) (stop : Stop)
    {p : Eval A} {q : Eval B} → Lawful t seed move D I IsError f Q p q → Lawful t seed move D I IsError f Q (stops_if b stop p) (stops_if b stop q)
lawful_stops b stop h = lawful_unless b stop (λ is. h)

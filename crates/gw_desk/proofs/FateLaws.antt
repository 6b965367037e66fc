-- What later edits leave of a leg.
use Rattle.std.proofs.Common.{◌≡◌, ℕ, ◌+◌, ◌<◌, ◌≤◌, List, [], ◌∷◌, ◌++◌, length, take, drop, get_or, true, false, append_assoc, Bool, Some, refl, sym, ap, subst, ◌∙◌}
use Rattle.gw_meaning.specs.Listing.{Listing, seed_at}
use Rattle.gw_record.specs.Tape.{Tape, Records}
use Rattle.gw_meaning.specs.declared.edit.Edit.{Edit}
use Rattle.gw_edit.specs.Leading.{LeadsTo}
use mathlib.Core.Bool.{true≢false}
use Rattle.std.proofs.lemmas.List.{take_more, take_all, take-append-drop}
use Rattle.gw_desk.specs.Fates.{Lasts, Lives, IsDead}
use Rattle.gw_desk.specs.Surviving.{Passes}

-- a run that lives through edits, and one edit more
pub lives_more : (t u v : Listing) (es : List Edit) (e : Edit) (rep : ℕ) (r q s : Tape) → Lives t es rep r u q → Lasts u e v rep q s →
    Lives t (es ++ e ∷ []) rep r v s
lives_more t u v [] e rep r q s (at, is) lasts =
    (v, s, subst (λ x. Lasts x e v rep r s) at (subst (λ x. Lasts u e v rep x s) is lasts), (refl, refl))
lives_more t u v (f ∷ es) e rep r q s (w, p, first, rest) lasts = (w, p, first, lives_more w u v es e rep p q s rest lasts)

-- where it lives through edits, they lead to the version of which it is the run
pub lives_leads : (t w : Listing) (es : List Edit) (rep : ℕ) (r s : Tape) → Lives t es rep r w s → LeadsTo t es w
lives_leads t w [] rep r s (at, is) = at
lives_leads t w (e ∷ es) rep r s (u, q, lasts, rest) = (u, lasts.version, lives_leads u w es rep q s rest)

-- and it is still a record, of the replication's run there, with the same spacing and start
pub record IsStillRun (w : Listing) (rep : ℕ) (r s : Tape) : Type 0 where
  pub seed : ℕ
  pub with_seed : seed_at w rep ≡ Some seed
  pub records : Records w seed s
  pub every : s.every ≡ r.every
  pub start : s.start ≡ r.start

pub lives_records : (t w : Listing) (es : List Edit) (rep a : ℕ) (r s : Tape) → Lives t es rep r w s → seed_at t rep ≡ Some a → Records t a r →
    IsStillRun w rep r s
lives_records t w [] rep a r s (at, is) seed h =
    subst (λ x. IsStillRun x rep r s) (sym at) (subst (λ x. IsStillRun t rep r x) (sym is)
    (record { seed = a; with_seed = seed; records = h; every = refl; start = refl }))
lives_records t w (e ∷ es) rep a r s (u, q, lasts, rest) seed h =
    let records = lasts.rebased.records a lasts.seed lasts.version seed lasts.stays h in
    let k = lives_records u w es rep lasts.seed q s rest lasts.stays records in
    record {
      seed = k.seed;
      with_seed = k.with_seed;
      records = k.records;
      every = k.every ∙ lasts.rebased.every;
      start = k.start ∙ lasts.rebased.start;
    }

-- through no edit every run lives
pub lives_none : (t : Listing) (rep : ℕ) (r : Tape) → Lives t [] rep r t r
lives_none t rep r = (refl, refl)

-- it lives through the next one, too
pub lives_at : (t u v : Listing) (later : List Edit) (i rep : ℕ) (d : Edit) (r q s : Tape) → i < length later →
    Lives t (take i later) rep r u q → (lives : Bool) → Passes u (get_or later i d) rep q v s lives → lives ≡ true →
    Lives t (take (i + 1) later) rep r v s
lives_at t u v later i rep d r q s within lives false passes is = absurd (true≢false (sym is))
lives_at t u v later i rep d r q s within lives true passes is =
    subst (λ es. Lives t es rep r v s) (sym (take_more later i d within)) (lives_more t u v (take i later) (get_or later i d) rep r q s lives passes)

-- or dies of it
pub dead_at : (t u v : Listing) (later : List Edit) (i rep : ℕ) (d : Edit) (r q s : Tape) → i < length later →
    Lives t (take i later) rep r u q → (lives : Bool) → Passes u (get_or later i d) rep q v s lives → lives ≡ false →
    (seed : ℕ) → seed_at t rep ≡ Some seed → Records t seed r → IsDead t later rep r
dead_at t u v later i rep d r q s within lives true passes is seed with_seed h = absurd (true≢false is)
dead_at t u v later i rep d r q s within lives false passes is seed with_seed h =
    let k = lives_records t u (take i later) rep seed r q lives with_seed h in
    let dies = passes k.seed k.with_seed k.records in
    record {
      front = take i later;
      edit = get_or later i d;
      back = drop (i + 1) later;
      parts =
          sym (take-append-drop (i + 1) later) ∙ (ap (λ es. es ++ drop (i + 1) later) (take_more later i d within) ∙
          append_assoc (take i later) (get_or later i d ∷ []) (drop (i + 1) later));
      before = u;
      left = q;
      lives = lives;
      after = dies.0;
      dies = dies.1;
    }

-- a list that begins as a front does, as far as that goes, begins with it
pub front_of : {A : Type 0} (front all : List A) (n : ℕ) → length front ≤ n → take n front ≡ take n all → all ≡ front ++ drop n all
front_of front all n whole alike =
    let begins : take n all ≡ front = sym alike ∙ take_all n front whole in
    sym (take-append-drop n all) ∙ ap (λ xs. xs ++ drop n all) begins

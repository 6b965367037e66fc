-- What the making of missing steps leaves of the desk.
use Rattle.std.proofs.Common.{◌≡◌, ◌≢◌, ℕ, suc, ◌-◌, ◌<◌, ◌≤◌, ◌==◌, nat_lt, Bool, true, false, cond, List, [], ◌∷◌, length, get_or, set, Some, None, Result, Ok, Err, IfOk, OnErr, refl, sym, ap, subst, ◌∙◌, arith}
use Rattle.std.proofs.lemmas.Bool.Decides.{nat_tests}
use Rattle.std.proofs.lemmas.List.{set-get_or}
use Rattle.std.specs.List.{position_or_len}
use Rattle.std.proofs.lemmas.List.Quantifiers.{position-Some}
use Rattle.std.proofs.lemmas.List.Sums.{fails_before_first}
use Rattle.std.specs.declared.alloc.AllocError.{AllocError}
use Rattle.gw_meaning.specs.Listing.{Listing, seed_at}
use Rattle.gw_meaning.specs.Step.{step}
use Rattle.gw_record.specs.declared.reach.Reach.{Reach}
use Rattle.gw_record.specs.declared.reach.Reach.TheVariants as reaches
use Rattle.gw_record.specs.Tape.{Tape, Records, from_tip}
use Rattle.gw_record.specs.Extending.{tallied}
use Rattle.gw_record.specs.Reaching.{Reaches, AreWanted}
use Rattle.gw_desk.specs.declared.recording.Recording.{Recording}
use Rattle.gw_desk.specs.Looking.{IsOpen}
use Rattle.gw_desk.specs.Book.{Book, IsBook, run_in, place_in, IsRunOf, AreRuns, AreApart}
use Rattle.gw_desk.specs.Finishing.{Finishes, GoesOn}
use Rattle.gw_desk.specs.Peeking.{IsUnfinished}
use Rattle.gw_desk.specs.Legs.{IsBranchOf}
use Rattle.gw_desk.specs.declared.post.Post.{Post}
use Rattle.gw_desk.specs.declared.post.Post.TheVariants as posts
use Rattle.gw_desk.specs.Records.{RecordsOn, Continues, Offers}
use Rattle.gw_desk.proofs.Looks.{complete_there}
use Rattle.gw_desk.proofs.PeekLaws.{not_unfinished}
use Rattle.gw_desk.proofs.ApartLaws.{apart_set}
use Rattle.gw_desk.proofs.RunLaws.{run_in_at, run_in_set}

-- where the making of steps stopped the recorded steps decide
pub reach_shuts : (t : Listing) (seed k : ℕ) (r : Tape) (reach : Reach) → Records t seed r → 1 ≤ k → Reaches t seed k r reach → IsOpen t seed k r.moment → ⊥
reach_shuts t seed k r reaches.Complete h some enough o = complete_there t seed k r h some enough o.none
reach_shuts t seed k r (reaches.Ended end) h some (fewer, ends) o =
    let there : Ok o.state ≡ Ok r.tip = sym o.there ∙ h.tip in
    let same : o.state ≡ r.tip = cc in
    let both : Ok o.next ≡ Err end = sym o.goes ∙ (ap (λ s. step t seed s) same ∙ ends) in
    absurd cc
reach_shuts t seed k r reaches.Limit h some (fewer, limit, goes) o = let b = o.below in omega (arith, b, limit)

module _ (b : Book) (rep seed place : ℕ) (d : Recording) (new : Tape) (h : IsBook b) (is : seed_at b.version rep ≡ Some seed)
    (found : place_in b.runs rep ≡ Some place) (at : d ≡ get_or b.runs place d) where
  first : (place < length b.runs) × (((get_or b.runs place d).number == rep) ≡ true) × ((k : ℕ) → k < place → ((get_or b.runs k d).number == rep) ≡ false)
  first = position-Some (λ (r : Recording). r.number == rep) b.runs place d found

  pub old_run : run_in b.runs rep ≡ Some d.run
  old_run = run_in_at b.runs rep place d first.0 first.1 first.2 ∙ ap (λ (r : Recording). Some r.run) (sym at)

  pub old_records : Records b.version seed d.run × (d.run.every ≡ b.every) × (d.run.start ≡ 0)
  old_records = subst (λ o. IsRunOf b.version b.every (Some seed) o) old_run (subst (λ o. IsRunOf b.version b.every o (run_in b.runs rep)) is (h.runs rep))

  number : d.number ≡ rep
  number = let e : (d.number == rep) ≡ true = ap (λ (r : Recording). r.number == rep) at ∙ first.1 in grind (arith, nat_tests)

  abbrev pub changed : List Recording
  changed = set b.runs place (record { number = d.number; run = new })

  changed_in : (n : ℕ) → run_in changed n ≡ cond (rep == n) (Some new) (run_in b.runs n)
  changed_in n = run_in_set b.runs rep place d (record { number = d.number; run = new }) first.0 first.1 first.2 number n

  pub new_run : run_in changed rep ≡ Some new
  new_run = changed_in rep ∙ (let e : (rep == rep) ≡ true = grind (arith, nat_tests) in rw e refl)

  pub others_stay : (n : ℕ) → n ≢ rep → run_in changed n ≡ run_in b.runs n
  others_stay n other = changed_in n ∙ (let e : (rep == n) ≡ false = grind (arith, nat_tests, other) in rw e refl)

  pub new_runs : Records b.version seed new → new.every ≡ b.every → new.start ≡ 0 → AreRuns b.version b.every changed
  new_runs records every start n = subst (λ o. IsRunOf b.version b.every (seed_at b.version n) o) (sym (changed_in n)) (go (rep == n) refl) where
    go : (x : Bool) → (rep == n) ≡ x → IsRunOf b.version b.every (seed_at b.version n) (cond x (Some new) (run_in b.runs n))
    go true e =
        let same : rep ≡ n = grind (arith, nat_tests) in
        let with_seed : seed_at b.version n ≡ Some seed = ap (λ m. seed_at b.version m) (sym same) ∙ is in
        subst (λ o. IsRunOf b.version b.every o (Some new)) (sym with_seed) (records, every, start)
    go false e = h.runs n

  new_apart : AreApart changed
  new_apart = apart_set b.runs place d (record { number = d.number; run = new }) first.0 (ap (λ (r : Recording). r.number) at) h.apart

  pub still_book : (made : ℕ) → Records b.version seed new → new.every ≡ d.run.every → new.start ≡ d.run.start →
      IsBook (record b { runs = changed; made = made })
  still_book made records every start =
      record { some = h.some; few = h.few; numbered = h.numbered; leads = h.leads; runs = new_runs records (every ∙ old_records.1) (start ∙ old_records.2); apart = new_apart }

  -- the run from its tip on
  pub branch_is : (result : Result Tape AllocError) → IfOk result (λ branch. branch ≡ from_tip d.run) →
      IfOk result (λ branch. (t : Listing) (s : ℕ) → Records t s d.run → Records t s branch) → IfOk result (IsBranchOf b rep seed)
  branch_is (Ok branch) is_from records =
      record { run = d.run; there = old_run; from = is_from; records = records b.version seed old_records.0 }
  branch_is (Err e) is_from records = tt

  records_on : (left : Tape) → left.start ≤ d.run.moment → d.run.moment < left.moment → new.moment ≡ left.moment →
      RecordsOn b rep left (record b { runs = changed })
  records_on left from beyond moment = record {
    own = d.run;
    had = old_run;
    from = from;
    beyond = beyond;
    run = new;
    there = new_run;
    moment = moment;
    opening = refl;
    version = refl;
    every = refl;
    edits = refl;
    made = refl;
    others = others_stay;
  }

  unchanged : new ≡ d.run → record b { runs = changed } ≡ b
  unchanged same =
      let old : set b.runs place (record { number = d.number; run = new }) ≡ b.runs =
      ap (λ (r : Tape). set b.runs place (record { number = d.number; run = r })) same ∙
      (ap (λ (x : Recording). set b.runs place x) at ∙ set-get_or b.runs place d) in
      ap (λ (xs : List Recording). record b { runs = xs }) old

  offers : (left : Tape) (post : Post) → Continues d.run left post new → Offers b rep left post (record b { runs = changed })
  offers left posts.Posted (from, beyond, adopts) = records_on left from beyond (ap (λ (r : Tape). r.moment) adopts.is)
  offers left posts.Dropped (same, why) = (unchanged same, record { own = d.run; had = old_run; why = why })

  -- a run was offered
  pub offered : (left : Tape) (result : Result Post AllocError) → IfOk result (λ post. Continues d.run left post new) →
      IfOk result (λ post. Offers b rep left post (record b { runs = changed }))
  offered left (Ok post) h = offers left post h
  offered left (Err e) h = tt

  pub offered_in_vain : (result : Result Post AllocError) → OnErr result (new ≡ d.run) → OnErr result (record b { runs = changed } ≡ b)
  offered_in_vain (Ok post) h = tt
  offered_in_vain (Err e) h = unchanged h

  pub finishes : (k made : ℕ) → new.every ≡ d.run.every → new.start ≡ d.run.start → d.run.moment ≤ new.moment →
      AreWanted b.version seed k d.run.moment new.moment →
      made ≡ tallied b.made (new.moment - d.run.moment) → Finishes b rep k (record b { runs = changed; made = made })
  finishes k made every start grows wanted counted =
      record {
        opening = refl;
        version = refl;
        every = refl;
        edits = refl;
        others = others_stay;
        steps = λ s a with_seed recorded.
            let seeds : Some s ≡ Some seed = sym with_seed ∙ is in
            let same_seed : s ≡ seed = cc in
            let runs : Some a ≡ Some d.run = sym recorded ∙ old_run in
            let same_run : a ≡ d.run = cc in
            let P : ℕ → Tape → Type 0 = λ s a. GoesOn b rep k s a (record b { runs = changed; made = made }) in
            subst (λ s. P s a) (sym same_seed) (subst (λ a. P seed a) (sym same_run)
            (record { run = new; there = new_run; every = every; start = start; grows = grows; wanted = wanted; made = counted }));
      }

  pub reached : (k : ℕ) (reach : Reach) → Reaches b.version seed k new reach → (r : Tape) → run_in changed rep ≡ Some r → Reaches b.version seed k r reach
  reached k reach h r there =
      let runs : Some r ≡ Some new = sym there ∙ new_run in
      let same : r ≡ new = cc in
      subst (λ (a : Tape). Reaches b.version seed k a reach) (sym same) h

none_before : (rs : List Recording) (n : ℕ) → place_in rs n ≡ None → run_in rs n ≡ None
none_before rs n none = go rs (λ k d less. fails_before_first (λ (r : Recording). r.number == n) rs k d
    (over (nat_lt (position_or_len (λ (r : Recording). r.number == n) rs) (length rs)) refl none k less)) where
      over : (b : Bool) → nat_lt (position_or_len (λ (r : Recording). r.number == n) rs) (length rs) ≡ b →
          cond b (Some (position_or_len (λ (r : Recording). r.number == n) rs)) None ≡ None → (k : ℕ) → k < length rs →
          k < position_or_len (λ (r : Recording). r.number == n) rs
      over true e is = absurd cc
      over false e is = λ k less. grind (arith, nat_tests)

      go : (xs : List Recording) → ((k : ℕ) (d : Recording) → k < length xs → ((get_or xs k d).number == n) ≡ false) → run_in xs n ≡ None
      go [] h = refl
      go (x ∷ xs) h = let e : (x.number == n) ≡ false = h 0 x (omega arith) in rw e (go xs (λ k d less. h (suc k) d (omega (arith, less))))

-- the run of each replication is there
pub is_there : (b : Book) (rep seed : ℕ) → IsBook b → seed_at b.version rep ≡ Some seed → place_in b.runs rep ≡ None → ⊥
is_there b rep seed h is none =
    let there = subst (λ o. IsRunOf b.version b.every o (run_in b.runs rep)) is (h.runs rep) in
    subst (λ o. IsRunOf b.version b.every (Some seed) o) (none_before b.runs rep none) there

-- where the making of steps stopped the replication is not unfinished
pub stopped_shuts : (b : Book) (rep k seed : ℕ) (reach : Reach) → IsBook b → seed_at b.version rep ≡ Some seed → 1 ≤ k →
    ((r : Tape) → run_in b.runs rep ≡ Some r → Reaches b.version seed k r reach) → (n : ℕ) → IsUnfinished b rep k n → ⊥
stopped_shuts b rep k seed reach h is some reached n u =
    let of_run = subst (λ o. IsRunOf b.version b.every (Some seed) o) u.recorded
    (subst (λ o. IsRunOf b.version b.every o (run_in b.runs rep)) is (h.runs rep)) in
    not_unfinished b rep k seed u.run is u.recorded (reach_shuts b.version seed k u.run reach of_run.0 some (reached u.run u.recorded)) n u

-- what holds of each answer that is not out of memory
pub on_each : {A E : Type 0} (P Q : A → Type 0) (result : Result A E) → IfOk result P → ((a : A) → P a → Q a) → IfOk result Q
on_each P Q (Ok a) h f = f a h
on_each P Q (Err e) h f = tt

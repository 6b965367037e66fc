-- What an edit leaves of the recorded runs are runs of the edited version.
use Rattle.std.proofs.Common.{◌≡◌, ℕ, suc, ◌+◌, ◌<◌, ◌≤◌, ◌==◌, nat_eq, Bool, true, false, cond, List, [], ◌∷◌, ◌++◌, length, get_or, set, filter, is_some, get_or-set_same, get_or-set_other, Option, Some, None, refl, sym, ap, subst, ◌∙◌, arith}
use Rattle.std.specs.Option.{option_or}
use Rattle.std.proofs.lemmas.List.{get_or_default}
use Rattle.std.proofs.lemmas.Bool.Decides.{nat_tests}
use Rattle.gw_meaning.specs.declared.statement.Replication.{Replication}
use Rattle.gw_meaning.specs.Listing.{Listing, seed_at, seed_in}
use Rattle.gw_record.specs.Tape.{Tape, blank}
use Rattle.gw_meaning.specs.declared.edit.Edit.{Edit}
use Rattle.gw_edit.specs.Rebasing.{IsRebased}
use Rattle.gw_desk.specs.declared.recording.Recording.{Recording}
use Rattle.gw_desk.specs.Book.{run_in}
use Rattle.gw_desk.specs.Rebasing.{IsRebasedRecording, AreRebased, with_run, with_missing}

module _ (t : Listing) (e : Edit) (u : Listing) (old cur : List Recording) (i : ℕ) (x : Recording) (count : length cur ≡ length old) (within : i < length cur)
    (done : (k : ℕ) (d : Recording) → k < i → IsRebasedRecording t e u (get_or old k d) (get_or cur k d))
    (rest : (k : ℕ) (d : Recording) → i ≤ k → get_or cur k d ≡ get_or old k d) (y : Recording) (now : IsRebasedRecording t e u (get_or cur i y) x) where
  here : (d : Recording) → IsRebasedRecording t e u (get_or cur i d) x
  here d = subst (λ r. IsRebasedRecording t e u r x) (get_or_default cur i y d within) now

  pub one_more : (k : ℕ) (d : Recording) → k < i + 1 → IsRebasedRecording t e u (get_or old k d) (get_or (set cur i x) k d)
  one_more k d less = go (nat_eq k i) refl where
    go : (b : Bool) → nat_eq k i ≡ b → IsRebasedRecording t e u (get_or old k d) (get_or (set cur i x) k d)
    go true same =
        let at : k ≡ i = grind (arith, nat_tests) in
        let new : get_or (set cur i x) k d ≡ x = ap (λ n. get_or (set cur i x) n d) at ∙ get_or-set_same cur i x d within in
        let was : get_or old k d ≡ get_or cur i d = ap (λ n. get_or old n d) at ∙ sym (rest i d (omega arith)) in
        rw (new, was) (here d)
    go false other =
        let apart : k ≡ i → ⊥ = λ e. grind (arith, nat_tests) in
        rw (get_or-set_other cur i k x d apart) (done k d (grind (arith, nat_tests)))

pub rest_stays : (old cur : List Recording) (i : ℕ) (x : Recording) →
    ((k : ℕ) (d : Recording) → i ≤ k → get_or cur k d ≡ get_or old k d) →
    (k : ℕ) (d : Recording) → i + 1 ≤ k → get_or (set cur i x) k d ≡ get_or old k d
rest_stays old cur i x rest k d more = get_or-set_other cur i k x d (λ e. omega (arith, e, more)) ∙ rest k d (omega (arith, more))

-- what a run list with these runs gives for a number
abbrev pub IsRebasedOf : Listing → Edit → Listing → ℕ → Option Tape → Option Tape → Type 0
IsRebasedOf t e u number None None = Unit {0}
IsRebasedOf t e u number None (Some s) = ⊥
IsRebasedOf t e u number (Some r) None = ⊥
IsRebasedOf t e u number (Some r) (Some s) = r.start ≡ 0 → IsRebased t e u number r s

pub rebased_in : (t : Listing) (e : Edit) (u : Listing) (old new : List Recording) → AreRebased t e u old new → (n : ℕ) →
    IsRebasedOf t e u n (run_in old n) (run_in new n)
rebased_in t e u [] [] h n = tt
rebased_in t e u [] (x ∷ new) h n = absurd (let c = h.count in omega (arith, c))
rebased_in t e u (r ∷ old) [] h n = absurd (let c = h.count in omega (arith, c))
rebased_in t e u (r ∷ old) (x ∷ new) h n =
    let c = h.count in
    let first : IsRebasedRecording t e u r x = h.each 0 r (omega arith) in
    let rest = rebased_in t e u old new (record { count = omega (arith, c); each = λ k d within. h.each (suc k) d (omega (arith, within)) }) n in
    go (r.number == n) refl (x.number == n) refl first rest where
      go : (a : Bool) → (r.number == n) ≡ a → (b : Bool) → (x.number == n) ≡ b → IsRebasedRecording t e u r x →
          IsRebasedOf t e u n (run_in old n) (run_in new n) → IsRebasedOf t e u n (cond a (Some r.run) (run_in old n)) (cond b (Some x.run) (run_in new n))
      go true is true was first rest =
          let at : r.number ≡ n = grind (arith, nat_tests) in
          λ zero. subst (λ m. IsRebased t e u m r.run x.run) at (first.run zero)
      go false is false was first rest = rest
      go true is false was first rest = let same = first.number in absurd (grind (arith, nat_tests))
      go false is true was first rest = let same = first.number in absurd (grind (arith, nat_tests))

-- a list with one more run at its end
pub run_in_more : (runs : List Recording) (x : Recording) (n : ℕ) → run_in (runs ++ x ∷ []) n ≡ option_or (run_in runs n) (cond (x.number == n) (Some x.run) None)
run_in_more [] x n = refl
run_in_more (r ∷ runs) x n = go (r.number == n) (run_in_more runs x n) where
  go : (b : Bool) → run_in (runs ++ x ∷ []) n ≡ option_or (run_in runs n) (cond (x.number == n) (Some x.run) None) →
      cond b (Some r.run) (run_in (runs ++ x ∷ []) n) ≡ option_or (cond b (Some r.run) (run_in runs n)) (cond (x.number == n) (Some x.run) None)
  go true h = refl
  go false h = h

-- missing runs are there, and no others are added
abbrev pub missing_or : ℕ → Option ℕ → Option Tape → Option Tape
missing_or every seed (Some r) = Some r
missing_or every None None = None
missing_or every (Some seed) None = Some (blank every)

pub missing_in : (every : ℕ) (rs : List Replication) (runs : List Recording) (n : ℕ) →
    run_in (with_missing every rs runs) n ≡ missing_or every (seed_in rs n) (run_in runs n)
missing_in every [] runs n = go (run_in runs n) where
  go : (o : Option Tape) → o ≡ missing_or every None o
  go None = refl
  go (Some r) = refl
missing_in every (r ∷ rs) runs n = missing_in every rs (with_run every r.number (run_in runs r.number) runs) n ∙ by (run_in runs r.number) refl where
  by : (o : Option Tape) → run_in runs r.number ≡ o → missing_or every (seed_in rs n) (run_in (with_run every r.number o runs) n) ≡
      missing_or every (cond (r.number == n) (Some r.seed) (seed_in rs n)) (run_in runs n)
  by (Some s) is = at (r.number == n) refl where
    at : (b : Bool) → (r.number == n) ≡ b → missing_or every (seed_in rs n) (run_in runs n) ≡
        missing_or every (cond b (Some r.seed) (seed_in rs n)) (run_in runs n)
    at false e = refl
    at true e =
        let same : r.number ≡ n = grind (arith, nat_tests) in
        let found : run_in runs n ≡ Some s = ap (λ m. run_in runs m) (sym same) ∙ is in
        rw found refl
  by None is = ap (λ o. missing_or every (seed_in rs n) o) (run_in_more runs (record { number = r.number; run = blank every }) n) ∙
      at (r.number == n) refl (run_in runs n) refl where
        at : (b : Bool) → (r.number == n) ≡ b → (o : Option Tape) → run_in runs n ≡ o →
            missing_or every (seed_in rs n) (option_or o (cond b (Some (blank every)) None)) ≡ missing_or every (cond b (Some r.seed) (seed_in rs n)) o
        at b e (Some s) found = refl
        at true e None found = refl
        at false e None found = refl

-- of the runs those are left whose replication is there
pub left_in : (t : Listing) (runs : List Recording) (n : ℕ) →
    run_in (filter (λ (r : Recording). is_some (seed_at t r.number)) runs) n ≡ cond (is_some (seed_at t n)) (run_in runs n) None
left_in t [] n = go (is_some (seed_at t n)) where
  go : (b : Bool) → ◌≡◌ {A = Option Tape} None (cond b None None)
  go true = refl
  go false = refl
left_in t (r ∷ runs) n = at (r.number == n) refl (is_some (seed_at t r.number)) refl (left_in t runs n) where
  left : List Recording
  left = filter (λ (r : Recording). is_some (seed_at t r.number)) runs

  at : (b : Bool) → (r.number == n) ≡ b → (k : Bool) → is_some (seed_at t r.number) ≡ k →
      run_in (filter (λ (r : Recording). is_some (seed_at t r.number)) runs) n ≡ cond (is_some (seed_at t n)) (run_in runs n) None →
      run_in (cond k (r ∷ filter (λ (r : Recording). is_some (seed_at t r.number)) runs) (filter (λ (r : Recording). is_some (seed_at t r.number)) runs)) n ≡
      cond (is_some (seed_at t n)) (cond b (Some r.run) (run_in runs n)) None
  at true e true k h =
      let same : r.number ≡ n = grind (arith, nat_tests) in
      let there : is_some (seed_at t n) ≡ true = ap (λ m. is_some (seed_at t m)) (sym same) ∙ k in
      rw (e, there) refl
  at true e false k h =
      let same : r.number ≡ n = grind (arith, nat_tests) in
      let gone : is_some (seed_at t n) ≡ false = ap (λ m. is_some (seed_at t m)) (sym same) ∙ k in
      rw gone (rw gone at h)
  at false e true k h = rw e h
  at false e false k h = h

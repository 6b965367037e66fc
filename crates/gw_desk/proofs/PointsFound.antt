-- The search finds the point, step by step of the run.
use Rattle.std.proofs.Common.{◌≡◌, ℕ, zero, suc, ◌+◌, ◌<◌, ◌≤◌, ◌==◌, cond, nat_eq, Bool, true, false, Option, Some, None, Result, Ok, Err, inl, inr, refl, ap, sym, subst, ◌∙◌, arith}
use Rattle.std.proofs.lemmas.Bool.Decides.{nat_tests}
use Rattle.gw_expr.specs.declared.halt.End.{End}
use Rattle.gw_meaning.specs.declared.item.Outcome.{Outcome}
use Rattle.gw_meaning.specs.declared.item.Outcome.TheVariants as outcomes
use Rattle.gw_meaning.specs.Listing.{Listing}
use Rattle.gw_meaning.specs.Machine.{Machine, zero_state}
use Rattle.gw_meaning.specs.Step.{step, run}
use Rattle.gw_meaning.specs.Point.{complete, ended, IsFirst, outcome_of}
use Rattle.gw_meaning.proofs.Programs.{run_on}
use Rattle.gw_desk.specs.Finding.{Point, NoStart, TooLong, search, behind, at_end, with_outcome, verdict}
use Rattle.gw_desk.specs.Points.{Means}

-- nor are they complete at n
not_first : (t : Listing) (seed k n : ℕ) (s : Machine) → run t seed n ≡ Ok s → (s.complete ≡ k → ⊥) → IsFirst t seed k n → IsFirst t seed k (suc n)
not_first t seed k n s there other first m u below is = go (nat_eq m n) refl where
  go : (b : Bool) → nat_eq m n ≡ b → u.complete ≡ k → ⊥
  go true same done =
      let at : m ≡ n = grind (arith, nat_tests) in
      let found : Ok u ≡ Ok s = sym is ∙ (ap (λ i. run t seed i) at ∙ there) in
      let equal : u ≡ s = cc in
      other (ap (λ (v : Machine). v.complete) (sym equal) ∙ done)
  go false differs done =
      let less : m < n = grind (arith, nat_tests) in
      first m u less is done

-- the run ends in s
ends_so : (t : Listing) (seed k n : ℕ) (s : Machine) (end : End) → n ≤ t.limit → run t seed n ≡ Ok s → step t seed s ≡ Err end → (s.complete ≡ k → ⊥) →
    IsFirst t seed k n → Means t seed k (at_end k s end)
ends_so t seed k n s end within there ends incomplete first = go (s.complete + 1 == k) refl (outcome_of end) refl where
  go : (b : Bool) → (s.complete + 1 == k) ≡ b → (o : Option Outcome) → outcome_of end ≡ o → Means t seed k (cond b (with_outcome s o) NoStart)
  go true during (Some o) so = (n, ended end within there (grind (arith, nat_tests)) ends so)
  go true during None so =
      record { n = n; s = s; end = end; within = within; there = there; ends = ends; incomplete = incomplete; before = inr so; first = first }
  go false before o so = record {
    n = n;
    s = s;
    end = end;
    within = within;
    there = there;
    ends = ends;
    incomplete = incomplete;
    before =
        inl (λ e. grind (arith, nat_tests));
    first = first;
  }

-- the search from s on, of which the run made n steps
pub search_means : (t : Listing) (seed k : ℕ) → 1 ≤ k → (fuel n : ℕ) (s : Machine) → n + fuel ≡ t.limit → run t seed n ≡ Ok s → IsFirst t seed k n →
    Means t seed k (search t seed k fuel s)
search_means t seed k some zero n s sum there first = go (s.complete == k) refl (step t seed s) refl where
  go : (b : Bool) → (s.complete == k) ≡ b → (r : Result Machine End) → step t seed s ≡ r →
      Means t seed k (cond b (Point s outcomes.Complete) (behind k s (λ u. TooLong) r))
  go true done r is = (n, complete some (omega (arith, sum)) there (grind (arith, nat_tests)) first refl)
  go false other (Err end) is = ends_so t seed k n s end (omega (arith, sum)) there is (λ e. grind (arith, nat_tests)) first
  go false other (Ok u) is =
      let all : n ≡ t.limit = omega (arith, sum) in
      let P : ℕ → Type 0 = λ i. run t seed i ≡ Ok s in
      let Q : ℕ → Type 0 = λ i. IsFirst t seed k i in
      record { s = s; u = u; there = subst P all there; goes = is; incomplete = λ e. grind (arith, nat_tests); first = subst Q all first }
search_means t seed k some (suc fuel) n s sum there first =
    go (λ u more later. search_means t seed k some fuel (suc n) u (omega (arith, sum)) more later) (s.complete == k) refl (step t seed s) refl where
      go : ((u : Machine) → run t seed (suc n) ≡ Ok u → IsFirst t seed k (suc n) → Means t seed k (search t seed k fuel u)) →
          (b : Bool) → (s.complete == k) ≡ b →
          (r : Result Machine End) → step t seed s ≡ r → Means t seed k (cond b (Point s outcomes.Complete) (behind k s (search t seed k fuel) r))
      go rest true done r is = (n, complete some (omega (arith, sum)) there (grind (arith, nat_tests)) first refl)
      go rest false other (Err end) is = ends_so t seed k n s end (omega (arith, sum)) there is (λ e. grind (arith, nat_tests)) first
      go rest false other (Ok u) is =
          let apart : s.complete ≡ k → ⊥ = λ e. grind (arith, nat_tests) in
          rest u (run_on t seed n s there ∙ is) (not_first t seed k n s there apart first)

pub points_found : (t : Listing) (seed k : ℕ) → 1 ≤ k → Means t seed k (verdict t seed k)
points_found t seed k some = search_means t seed k some t.limit 0 zero_state (omega arith) refl (λ m u below is done. absurd (omega arith))

-- What the recorded steps tell is what the search from zero finds.
use Rattle.std.proofs.Common.{◌≡◌, ℕ, zero, suc, ◌+◌, ◌-◌, ◌<◌, ◌≤◌, ◌==◌, nat_le, Bool, true, false, cond, length, get_or, Option, Some, None, Ok, Err, inl, inr, refl, sym, ap, ◌∙◌, arith}
use Rattle.std.proofs.lemmas.Bool.Decides.{nat_tests}
use Rattle.std.proofs.lemmas.Option.{slice_get-get_or}
use Rattle.gw_expr.specs.declared.halt.End.{End}
use Rattle.gw_meaning.specs.declared.item.Outcome.{Outcome}
use Rattle.gw_meaning.specs.declared.item.Outcome.TheVariants as outcomes
use Rattle.gw_meaning.specs.Listing.{Listing}
use Rattle.gw_meaning.specs.Machine.{Machine, zero_state}
use Rattle.gw_meaning.specs.Step.{step, run}
use Rattle.gw_meaning.specs.Point.{outcome_of}
use Rattle.gw_meaning.proofs.Programs.{run_on}
use Rattle.gw_frame.proofs.ReadLaws.{run_before}
use Rattle.gw_record.specs.Tape.{Tape, Records, IsStartEnd}
use Rattle.gw_record.specs.Lookups.{IsEndOf}
use Rattle.gw_desk.specs.declared.look.Look.TheVariants as looks
use Rattle.gw_desk.specs.Finding.{Point, NoStart, TooLong, with_outcome, at_end, search, verdict}
use Rattle.gw_desk.specs.Ending.{seen_with, seen_at_end}
use Rattle.gw_desk.specs.Looking.{IsOpen, Sees}

-- the search comes to each moment before which k STARTs were never complete
pub search_from : (t : Listing) (seed k m f : ℕ) (s : Machine) → run t seed m ≡ Ok s →
    ((i : ℕ) (u : Machine) → i < m → run t seed i ≡ Ok u → u.complete ≡ k → ⊥) → m + f ≡ t.limit → verdict t seed k ≡ search t seed k f s
search_from t seed k zero f s is none sum =
    let start : Ok zero_state ≡ Ok s = is in
    let same : zero_state ≡ s = cc in
    let all : t.limit ≡ f = omega (arith, sum) in
    ap (λ n. search t seed k n zero_state) all ∙ ap (λ u. search t seed k f u) same
search_from t seed k (suc m) f s is none sum =
    let before = run_before t seed m s is in
    let p : Machine = before.0 in
    let goes : step t seed p ≡ Ok s = sym (run_on t seed m p before.1) ∙ is in
    let earlier : verdict t seed k ≡ search t seed k (suc f) p =
    search_from t seed k m (suc f) p before.1 (λ i u less. none i u (omega (arith, less))) (omega (arith, sum)) in
    earlier ∙ go p (p.complete == k) refl (none m p (omega arith) before.1) goes where
      go : (p : Machine) (b : Bool) → (p.complete == k) ≡ b → (p.complete ≡ k → ⊥) → step t seed p ≡ Ok s → search t seed k (suc f) p ≡ search t seed k f s
      go p true e other goes = absurd (other (grind (arith, nat_tests)))
      go p false e other goes = rw (e, goes) refl

module _ (t : Listing) (seed k : ℕ) (r : Tape) (h : Records t seed r) where
  steps_left : r.moment + (t.limit - r.moment) ≡ t.limit
  steps_left = let w = h.within in omega (arith, w)

  complete_now : (f : ℕ) (s : Machine) → s.complete ≡ k → search t seed k f s ≡ Point s outcomes.Complete
  complete_now zero s is = let e : (s.complete == k) ≡ true = grind (arith, nat_tests) in rw e refl
  complete_now (suc f) s is = let e : (s.complete == k) ≡ true = grind (arith, nat_tests) in rw e refl

  -- where k STARTs are complete at the tip, k were complete at a moment up to it
  pub complete_there : 1 ≤ k → k ≤ r.tip.complete → ((m : ℕ) (s : Machine) → m ≤ r.moment → run t seed m ≡ Ok s → s.complete ≡ k → ⊥) → ⊥
  complete_there some enough none = go (nat_le k (length r.ends)) refl where
    go : (b : Bool) → nat_le k (length r.ends) ≡ b → ⊥
    go true e =
        let at : k - 1 + 1 ≡ k = omega (arith, some) in
        let within : k - 1 < length r.ends = grind (arith, nat_tests) in
        let end = h.ends (k - 1) (get_or r.ends (k - 1) 0) (slice_get-get_or r.ends (k - 1) 0 within) in
        none (get_or r.ends (k - 1) 0) end.end.state end.below end.end.there (end.end.complete ∙ at)
    go false e =
        let one = h.tip_end in
        let all : r.tip.complete ≡ k = grind (arith, nat_tests) in
        none r.moment r.tip (omega arith) h.tip all

  -- the k-th START is complete at a recorded moment
  pub seen_complete : r.start ≡ 0 → (m : ℕ) → m ≤ r.moment → IsStartEnd t seed k m → Sees t seed k r (looks.Point m outcomes.Complete)
  seen_complete at_zero m low e =
      let w = h.within in
      let found = search_from t seed k m (t.limit - m) e.state e.there e.first (omega (arith, low, w)) in (
        record { from = omega (arith, at_zero); below = low; wanted = inr (inr (inr (k, e))) },
        (e.state, e.there, found ∙ complete_now (t.limit - m) e.state e.complete),
        λ o. o.none m e.state low e.there e.complete,
      )

  module _ (some : 1 ≤ k) (none : IsEndOf t seed r k None) where
    found : verdict t seed k ≡ search t seed k (t.limit - r.moment) r.tip
    found = search_from t seed k r.moment (t.limit - r.moment) r.tip h.tip (λ i u less is. none i u some (omega (arith, less)) is) steps_left

    apart : (r.tip.complete == k) ≡ false
    apart = go (r.tip.complete == k) refl where
      go : (b : Bool) → (r.tip.complete == k) ≡ b → b ≡ false
      go false e = refl
      go true e = absurd (none r.moment r.tip some (omega arith) h.tip (grind (arith, nat_tests)))

    ended_now : (f : ℕ) (end : End) → step t seed r.tip ≡ Err end → search t seed k f r.tip ≡ at_end k r.tip end
    ended_now zero end is = rw (apart, is) refl
    ended_now (suc f) end is = rw (apart, is) refl

    -- where the run ends it does not go on
    shut : (end : End) → step t seed r.tip ≡ Err end → IsOpen t seed k r.moment → ⊥
    shut end is o =
        let there : Ok o.state ≡ Ok r.tip = sym o.there ∙ h.tip in
        let same : o.state ≡ r.tip = cc in
        let both : Ok o.next ≡ Err end = sym o.goes ∙ (ap (λ s. step t seed s) same ∙ is) in
        absurd cc

    -- the run ends at the tip
    pub seen_ended : (end : End) → step t seed r.tip ≡ Err end → Sees t seed k r (seen_at_end r.moment r.tip.complete k end)
    seen_ended end is = go (r.tip.complete + 1 == k) (outcome_of end) (found ∙ ended_now (t.limit - r.moment) end is) where
      go : (b : Bool) (o : Option Outcome) → verdict t seed k ≡ cond b (with_outcome r.tip o) NoStart →
          Sees t seed k r (cond b (seen_with r.moment o) looks.NoStart)
      go false o e = (e, shut end is)
      go true None e = (e, shut end is)
      go true (Some o) e = (record { from = h.from; below = omega arith; wanted = inl refl }, (r.tip, h.tip, e), shut end is)

    -- the run goes on at the tip
    pub seen_open : (u : Machine) → step t seed r.tip ≡ Ok u → r.moment < t.limit → IsOpen t seed k r.moment
    seen_open u goes less = record { below = less; state = r.tip; next = u; there = h.tip; goes = goes; none = λ m s low is done. none m s some low is done }

    -- the step limit is reached
    pub seen_long : (u : Machine) → step t seed r.tip ≡ Ok u → t.limit ≤ r.moment → Sees t seed k r looks.TooLong
    seen_long u goes over =
        let f : t.limit - r.moment ≡ 0 = omega (arith, over) in
        let last : search t seed k 0 r.tip ≡ TooLong = rw (apart, goes) refl in
        (found ∙ (ap (λ n. search t seed k n r.tip) f ∙ last), λ o. let b = o.below in omega (arith, b, over))

-- The steps on the way to the end of a START.
use Rattle.std.proofs.Common.{◌≡◌, ℕ, suc, ◌+◌, ◌-◌, ◌<◌, ◌≤◌, nat_eq, Bool, true, false, Some, None, Result, Ok, Err, refl, sym, ap, ◌∙◌, arith}
use Rattle.std.proofs.lemmas.Bool.Decides.{nat_tests}
use Rattle.gw_expr.specs.declared.halt.End.{End}
use Rattle.gw_meaning.specs.Listing.{Listing}
use Rattle.gw_meaning.specs.Machine.{Machine, raised}
use Rattle.gw_meaning.specs.Step.{run}
use Rattle.gw_scan.specs.Stepping.{EndsAs}
use Rattle.gw_record.specs.Extending.{tallied}
use Rattle.gw_record.specs.Reaching.{AreWanted}

-- one more moment that a step was wanted from
pub wanted_more : (t : Listing) (seed k from to : ℕ) (s : Machine) → AreWanted t seed k from to → run t seed to ≡ Ok s → s.complete < k →
    AreWanted t seed k from (to + 1)
wanted_more t seed k from to s before there fewer m u low less is = go (nat_eq m to) refl where
  go : (b : Bool) → nat_eq m to ≡ b → u.complete < k
  go true e =
      let at : m ≡ to = grind (arith, nat_tests) in
      let found : Ok u ≡ Ok s = sym is ∙ (ap (λ n. run t seed n) at ∙ there) in
      let same : u ≡ s = cc in
      omega (arith, fewer, ap (λ (v : Machine). v.complete) same)
  go false e = before m u low (grind (arith, nat_tests)) is

-- one more step is counted
pub tallied_more : (tally from to : ℕ) → from ≤ to → raised (tallied tally (to - from)) ≡ tallied tally (to + 1 - from)
tallied_more tally from to low = let e : to + 1 - from ≡ suc (to - from) = omega (arith, low) in rw e refl

-- where no end is answered the run goes on
pub goes_on : (r : Result Machine End) → EndsAs r None → (u : Machine) × (r ≡ Ok u)
goes_on (Ok u) is = (u, refl)
goes_on (Err end) is = absurd cc

-- where an end is answered the run ends
pub ends_on : (r : Result Machine End) (end : End) → EndsAs r (Some end) → r ≡ Err end
ends_on (Ok u) end is = absurd cc
ends_on (Err e) end is = let same : e ≡ end = cc in ap (λ (x : End). Err x) same

use Rattle.std.proofs.Common.{◌≡◌, ◌<◌, ◌≤◌, ℕ, get_or, if◌then◌else◌, nat_lt}
use Rattle.gw_uses.specs.Steps.{never}
use Rattle.gw_uses.proofs.first_steps.FirstSteps.forget.Given as goal

abbrev pub invariant-loop-step : goal.invariant-loop-step
invariant-loop-step l = record {
  done :
      (k : ℕ) → k < l.step-index →
      get_or l.step-items k never ≡ if nat_lt (get_or l.fn.self k never) l.from then get_or l.fn.self k never else never;
  rest : (k : ℕ) → l.step-index ≤ k → get_or l.step-items k never ≡ get_or l.fn.self k never;
}

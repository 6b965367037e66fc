-- Where a report is taken of a run that ends at a moment. (Our own.)
use Rattle.std.specs.Prelude.{ℕ, ◌+◌, ◌==◌, Option, Some, None, if◌then◌else◌}
use Rattle.gw_expr.specs.declared.halt.End.{End}
use Rattle.gw_meaning.specs.declared.item.Outcome.{Outcome}
use Rattle.gw_meaning.specs.Point.{outcome_of}
use Rattle.gw_desk.specs.declared.look.Look.{Look}
use Rattle.gw_desk.specs.declared.look.Look.TheVariants as looks

-- there, where the end comes with the START under way
abbrev pub seen_with : ℕ → Option Outcome → Look
seen_with moment None = looks.NoStart
seen_with moment (Some outcome) = looks.Point moment outcome

abbrev pub seen_at_end : ℕ → ℕ → ℕ → End → Look
seen_at_end moment complete k end = if complete + 1 == k then seen_with moment (outcome_of end) else looks.NoStart

use Rattle.std.proofs.Common.{◌≤◌, ℕ, Option, sym, subst, rules, length, option_and_then}
use Rattle.gw_uses.specs.Steps.{known, IsLeastFrom}
use Rattle.gw_uses.proofs.LeastLaws.{least_from, least_beyond, rest_whole}
use Rattle.gw_uses.proofs.first_steps.FirstSteps.least_from.Goals as goal

pub returns-then-number-len : goal.returns-then-number-len
returns-then-number-len c =
    let over : length c.self.inside.steps.items ≤ c.args.number = search rules in
    rw (← c.self.view_is) (least_beyond c.self.inside.steps.items c.args.number over)

pub returns-in-Some : goal.returns-in-Some
returns-in-Some c =
    let ns = c.self.inside.steps.items in
    let within : c.args.number ≤ length ns = search rules in
    let found = rw (c.deref.ensures.value, rest_whole c.self.inside.steps.items c.args.number) at c.in-Some.ensures in
    let P : Option ℕ → Type 0 = λ o. IsLeastFrom c.self.inside.steps.items c.args.number (option_and_then known o) in
    rw (← c.self.view_is, c.known.ensures) (subst P (sym found) (least_from c.self.inside.steps.items c.args.number within))

pub returns-in-None : goal.returns-in-None
returns-in-None c =
    let within : c.args.number ≤ length c.self.inside.steps.items = search rules in
    let found = rw (c.deref.ensures.value, rest_whole c.self.inside.steps.items c.args.number) at c.in-None.ensures in
    let P : Option ℕ → Type 0 = λ o. IsLeastFrom c.self.inside.steps.items c.args.number (option_and_then known o) in
    rw (← c.self.view_is) (subst P (sym found) (least_from c.self.inside.steps.items c.args.number within))

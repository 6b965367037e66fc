use Rattle.std.proofs.Common.{◌≡◌, ◌<◌, Bool, MatchBool, is_some, subst, rules}
use Rattle.gw_meaning.specs.Machine.{Machine}
use Rattle.gw_meaning.specs.Step.{step}
use Rattle.gw_scan.specs.Stepping.{EndsAs}
use Rattle.gw_desk.specs.Legs.{IsAtEnd, GoesOn}
use Rattle.gw_desk.proofs.TakeLaws.{decided}
use Rattle.gw_desk.proofs.take.is_at_end.Goals as goal

pub returns : goal.returns
returns c =
    let t = c.args.version.now in
    let run = c.args.run.now in
    let below : run.moment < t.limit = search rules in
    let is : is_some c.in_ok-end_at.field-0 ≡ c.is_some.result = search rules in
    let looked = subst (λ (s : Machine). EndsAs (step t c.args.seed s) c.in_ok-end_at.field-0) c.state.ensures c.in_ok-end_at.ensures in
    subst (λ (b : Bool). MatchBool b (IsAtEnd t c.args.seed run) (GoesOn t c.args.seed run)) is
    (decided t c.args.seed run below c.in_ok-end_at.field-0 looked)

use Rattle.std.proofs.Common.{◌≡◌, ◌∙◌, Err, Ok, ap, rules}
use Rattle.gw_meaning.specs.Step.{step}
use Rattle.gw_asking.specs.Noted.{Noted}
use Rattle.gw_expr.specs.declared.halt.Halt.TheVariants as halts
use Rattle.gw_scan.proofs.StepLaws.{foretold, goes_on, ends_as}
use Rattle.gw_scan.proofs.steps.end_at.Goals as goal

pub returns-in-Ok : goal.returns-in-Ok
returns-in-Ok c =
    let t = c.args.version.now in
    let seed = c.args.seed in
    let s = c.args.state.now in
    let same = ap (λ (n : Noted). n.streams) c.new-notes.ensures ∙ c.streams.ensures in
    let (m, decided, none) = c.in-Ok.ensures in
    goes_on (step t seed s) _ (foretold t seed s (Ok m) c.new-notes.result c.go_on-decided.new.notes same decided)

pub returns-in-Err-End : goal.returns-in-Err-End
returns-in-Err-End c =
    let t = c.args.version.now in
    let seed = c.args.seed in
    let s = c.args.state.now in
    let same = ap (λ (n : Noted). n.streams) c.new-notes.ensures ∙ c.streams.ensures in
    let end = c.in-Err-End.end in
    let told : c.go_on-decided.result ≡ Err (halts.End end) = search rules in
    ends_as (step t seed s) end
    (foretold t seed s (Err (halts.End end)) c.new-notes.result c.go_on-decided.new.notes same (rw told at c.go_on-decided.ensures).0)

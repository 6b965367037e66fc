use Rattle.std.proofs.Common.{ap, sym, ◌∙◌}
use Rattle.gw_meaning.specs.Step.{least_time}
use Rattle.gw_chains.proofs.EventLaws.{since_all}
use Rattle.gw_chains.proofs.Leasts.{none_before_least}
use Rattle.gw_chains.proofs.full.FullBlock.new.Goals as goal

pub invariant_of-result : goal.invariant_of-result
invariant_of-result c =
    let es = c.args.block.value.items in
    let n = c.least-least.result in
    let is = c.least-least.ensures ∙ ap (λ b. least_time b.items) c.deref.ensures in
    is ∙ ap least_time (sym (since_all n es (none_before_least n es is)))

pub returns : goal.returns
returns c =
    let es = c.args.block.value.items in
    let n = c.least-least.result in
    since_all n es (none_before_least n es (c.least-least.ensures ∙ ap (λ b. least_time b.items) c.deref.ensures))

use Rattle.std.proofs.Common.{◌≡◌, ◌++◌, [], ap, sym, length, ◌∙◌}
use Rattle.gw_meaning.specs.Step.{least_time}
use Rattle.gw_chains.specs.Blocks.{all_items, time_of}
use Rattle.gw_chains.proofs.FutureLaws.{full_is, all_items_more}
use Rattle.gw_chains.proofs.Leasts.{least_both}
use Rattle.gw_chains.proofs.future.FutureChain.begin_block.Goals as goal

-- what was on the last block is on the full one, and nothing on the one after it
same_full : (c : goal.After-push_reserved) → c.new-in-Ok.result.items ≡ c.self.inside.last.items
same_full c = c.new-in-Ok.ensures ∙ ap (λ s. s.items) (c.in-Ok.ensures.ok ∙ c.replace-last.ensures.value)

items_are : (c : goal.After-push_reserved) →
    all_items c.push_reserved.new.self.items ++ c.replace-last.new.dest.items ≡ all_items c.self.inside.full.items ++ c.self.inside.last.items
items_are c =
    let fresh : c.replace-last.new.dest.items ≡ [] = ap (λ s. s.items) c.replace-last.ensures.after ∙ c.new.ensures in
    rw (c.push_reserved.ensures.items, c.reserve.ensures.items)
    (full_is c.self.inside.full.items c.new-in-Ok.result c.self.inside.last.items c.replace-last.new.dest.items (same_full c) fresh)

least_is : (c : goal.After-push_reserved) → time_of c.min-self-inside.result ≡ least_time (all_items c.push_reserved.new.self.items)
least_is c =
    let s = c.self.inside in
    rw (c.push_reserved.ensures.items, c.reserve.ensures.items)
    (ap time_of c.min-self-inside.ensures
    ∙ (least_both s.least c.least-least.result (all_items s.full.items) s.last.items c.self.invariant.2 c.least-least.ensures
    ∙ (ap (λ es. least_time (all_items s.full.items ++ es)) (sym (same_full c))
    ∙ sym (ap least_time (all_items_more s.full.items c.new-in-Ok.result)))))

pub invariant_of-self-in-Ok : goal.invariant_of-self-in-Ok
invariant_of-self-in-Ok c = (c.self.invariant.0 ∙ ap length (sym (items_are c)), c.self.invariant.1, least_is c)

pub returns-in-Ok : goal.returns-in-Ok
returns-in-Ok c = items_are c ∙ ap (λ s. s.items) c.self.view_is

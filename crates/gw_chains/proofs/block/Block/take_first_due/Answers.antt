use Rattle.std.proofs.Common.{◌≢◌, ◌-◌, ◌^◌, All, List, ℕ, filter, length, not, unwrap_or, ap, subst, sym, ◌∙◌}
use Rattle.gw_lanes.specs.Least.{least}
use Rattle.gw_meaning.specs.Changes.{due, is_due}
use Rattle.gw_meaning.specs.Step.{least_time}
use Rattle.gw_chains.proofs.BlockLaws.{first_in, none_there, contains_at, block_left, due_left, stay_left, len_left}
use Rattle.gw_chains.proofs.Leasts.{none_due_at}
use Rattle.gw_chains.proofs.block.Block.take_first_due.Goals as goal

pub returns-then-self-now-clause-none : goal.returns-then-self-now-clause-none
returns-then-self-now-clause-none c =
    let b = c.self.inside in
    let is = sym c.self.invariant.least ∙ ap (λ s. least_time s.items) c.self.view_is in
    none_due_at c.args.time b.least c.args.self.now.items is c.requires (λ same. c.if-self-now.true (same ∙ sym c.ticks-now.ensures.value))

pub returns-in_default-clause-none : goal.returns-in_default-clause-none
returns-in_default-clause-none c =
    let b = c.self.inside in
    let others : All (λ (other : ℕ). other ≢ c.args.time) b.times.items =
    subst (λ (ts : List ℕ). All (λ (other : ℕ). other ≢ c.args.time) ts) c.deref.ensures.value
    (subst (λ t. All (λ (other : ℕ). other ≢ t) c.deref.result.now) c.ticks-now.ensures.value c.in_default.ensures.nowhere) in
    ap (λ s. due c.args.time s.items) (sym c.self.view_is) ∙ none_there b.transactions c.args.time b.times.items b.keys.items others

pub remove-requires : goal.remove-requires
remove-requires c =
    let f = first_in c.ticks-now.ensures.value c.deref.ensures.value c.in-Some.ensures.found in
    contains_at c.self.invariant c.in-Some.index c.remove-key.result f.within c.remove-key.ensures.value

pub invariant_of-self : goal.invariant_of-self
invariant_of-self c =
    let new = c.least_of-self-inside.ensures ∙
    ap (λ ts. unwrap_or (least ts) (2 ^ 64 - 1)) (c.deref-2.ensures.value ∙ c.remove-self-inside.ensures.items) in
    rw (c.remove-self-inside.ensures.items, c.remove-key.ensures.items)
    (block_left c.remove.ensures.updates c.remove.ensures.value c.self.invariant c.args.time c.in-Some.index
    (first_in c.ticks-now.ensures.value c.deref.ensures.value c.in-Some.ensures.found) c.remove-key.ensures.value
    c.least_of-self-inside.result new)

pub returns-clause-due : goal.returns-clause-due
returns-clause-due c =
    ap (λ s. due c.args.time s.items) (sym c.self.view_is)
    ∙ rw (c.remove-self-inside.ensures.items, c.remove-key.ensures.items)
    (due_left c.remove.ensures.updates c.remove.ensures.value c.self.invariant c.args.time c.in-Some.index
    (first_in c.ticks-now.ensures.value c.deref.ensures.value c.in-Some.ensures.found) c.remove-key.ensures.value)

pub returns-clause-stay : goal.returns-clause-stay
returns-clause-stay c =
    rw (c.remove-self-inside.ensures.items, c.remove-key.ensures.items)
    (stay_left c.remove.ensures.updates c.remove.ensures.value c.self.invariant c.args.time c.in-Some.index
    (first_in c.ticks-now.ensures.value c.deref.ensures.value c.in-Some.ensures.found) c.remove-key.ensures.value)
    ∙ ap (λ s. filter (λ e. not (is_due c.args.time e)) s.items) c.self.view_is

pub returns-clause-len : goal.returns-clause-len
returns-clause-len c =
    rw (c.remove-self-inside.ensures.items, c.remove-key.ensures.items)
    (len_left c.remove.ensures.updates c.remove.ensures.value c.self.invariant c.args.time c.in-Some.index
    (first_in c.ticks-now.ensures.value c.deref.ensures.value c.in-Some.ensures.found) c.remove-key.ensures.value)
    ∙ ap (λ s. length s.items) c.self.view_is

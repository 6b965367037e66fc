use Rattle.std.proofs.Common.{ap, arith, filter, not, subst, sym, ◌∙◌}
use Rattle.gw_meaning.specs.Changes.{all_lined_up, due, is_due}
use Rattle.gw_chains.specs.Blocks.{all_items, IsNoneBefore}
use Rattle.gw_chains.proofs.EventLaws.{none_before, before_back, before_front}
use Rattle.gw_chains.proofs.FutureLaws.{stepped}
use Rattle.gw_chains.proofs.future.FutureChain.take_due.Goals as goal

pub take_from_full-self-inside-requires-clause-before : goal.take_from_full-self-inside-requires-clause-before
take_from_full-self-inside-requires-clause-before c =
    let t = c.args.time in
    let whole = subst (IsNoneBefore t) (sym (ap (λ s. s.items) c.self.view_is)) (none_before t c.args.self.now.items c.requires.least) in
    before_front t (all_items c.self.inside.full.items) c.self.inside.last.items whole

pub take_due-requires-clause-before : goal.take_due-requires-clause-before
take_due-requires-clause-before c =
    let t = c.args.time in
    let whole = subst (IsNoneBefore t) (sym (ap (λ s. s.items) c.self.view_is)) (none_before t c.args.self.now.items c.requires.least) in
    before_back t (all_items c.self.inside.full.items) c.self.inside.last.items whole

pub overflow_sub-self : goal.overflow_sub-self
overflow_sub-self c =
    let s = stepped c.args.time (all_items c.self.inside.full.items) c.self.inside.last.items (all_items c.take_from_full-self-inside.new.blocks.items)
    c.take_due.new.self.items c.args.current.now.items c.take_from_full-self-inside.new.current.items c.take_due.new.current.items
    c.take_from_full-self-inside.ensures.current c.take_from_full-self-inside.ensures.future c.take_due.ensures.current c.take_due.ensures.future in
    omega (arith, s.more, c.len-before.ensures.len, c.len.ensures.len)

pub overflow_sub-self-2 : goal.overflow_sub-self-2
overflow_sub-self-2 c =
    let s = stepped c.args.time (all_items c.self.inside.full.items) c.self.inside.last.items (all_items c.take_from_full-self-inside.new.blocks.items)
    c.take_due.new.self.items c.args.current.now.items c.take_from_full-self-inside.new.current.items c.take_due.new.current.items
    c.take_from_full-self-inside.ensures.current c.take_from_full-self-inside.ensures.future c.take_due.ensures.current c.take_due.ensures.future in
    omega (arith, s.counts, c.len-before.ensures.len, c.len.ensures.len, c.self.invariant.0)

pub invariant_of-self : goal.invariant_of-self
invariant_of-self c =
    let s = stepped c.args.time (all_items c.self.inside.full.items) c.self.inside.last.items (all_items c.take_from_full-self-inside.new.blocks.items)
    c.take_due.new.self.items c.args.current.now.items c.take_from_full-self-inside.new.current.items c.take_due.new.current.items
    c.take_from_full-self-inside.ensures.current c.take_from_full-self-inside.ensures.future c.take_due.ensures.current c.take_due.ensures.future in (
      omega (arith, s.counts, s.more, c.len-before.ensures.len, c.len.ensures.len, c.self.invariant.0),
      omega (arith, c.self.invariant.1),
      c.take_from_full-self-inside.ensures.least,
    )

pub returns-clause-current : goal.returns-clause-current
returns-clause-current c =
    let t = c.args.time in
    let s = stepped c.args.time (all_items c.self.inside.full.items) c.self.inside.last.items (all_items c.take_from_full-self-inside.new.blocks.items)
    c.take_due.new.self.items c.args.current.now.items c.take_from_full-self-inside.new.current.items c.take_due.new.current.items
    c.take_from_full-self-inside.ensures.current c.take_from_full-self-inside.ensures.future c.take_due.ensures.current c.take_due.ensures.future in
    s.come ∙ ap (λ v. all_lined_up (due t v.items) c.args.current.now.items) c.self.view_is

pub returns-clause-future : goal.returns-clause-future
returns-clause-future c =
    let t = c.args.time in
    let s = stepped c.args.time (all_items c.self.inside.full.items) c.self.inside.last.items (all_items c.take_from_full-self-inside.new.blocks.items)
    c.take_due.new.self.items c.args.current.now.items c.take_from_full-self-inside.new.current.items c.take_due.new.current.items
    c.take_from_full-self-inside.ensures.current c.take_from_full-self-inside.ensures.future c.take_due.ensures.current c.take_due.ensures.future in
    s.stay ∙ ap (λ v. filter (λ e. not (is_due t e)) v.items) c.self.view_is

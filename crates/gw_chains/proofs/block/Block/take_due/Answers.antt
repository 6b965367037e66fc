use Rattle.std.proofs.Common.{subst, sym, ◌∙◌}
use Rattle.gw_chains.specs.Blocks.{IsNoneBefore}
use Rattle.gw_chains.proofs.EventLaws.{none_leaves, before_stays, before_all}
use Rattle.gw_chains.proofs.block.Block.take_due.Goals as goal

pub take_first_due-requires : goal.take_first_due-requires
take_first_due-requires c =
    let t = c.args.time in
    let stay = before_stays t c.args.self.now.items c.requires.before in
    before_all t c.loop-x.self.items (subst (IsNoneBefore t) (sym c.loop-x.invariant.stay) stay)

pub returns-clause-future : goal.returns-clause-future
returns-clause-future c =
    sym (none_leaves c.args.time c.take_first_due.new.self.items c.in_default.ensures.none) ∙ (c.take_first_due.ensures.stay ∙ c.loop-x.invariant.stay)

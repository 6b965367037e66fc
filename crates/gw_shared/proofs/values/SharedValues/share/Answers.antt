use Rattle.std.proofs.Common.{length, ap, sym, ◌∙◌}
use Rattle.gw_shared.specs.Values.{block_values}
use Rattle.gw_shared.proofs.Laws.{same_parts}
use Rattle.gw_shared.proofs.Laid.{same_laid}
use Rattle.gw_shared.proofs.values.SharedValues.share.Goals as goal

pub invariant_of-self : goal.invariant_of-self
invariant_of-self g c =
    let bs = c.self.inside.blocks.items in
    let new = c.share_blocks.new.blocks.items in (
      c.self.invariant.0 ∙ ap length (sym (same_parts block_values new bs c.share_blocks.ensures)),
      same_laid block_values bs new c.share_blocks.ensures c.self.invariant.1,
    )

pub returns : goal.returns
returns g c =
    rw (← c.self.view_is) (same_parts block_values c.share_blocks.new.blocks.items c.self.inside.blocks.items c.share_blocks.ensures)

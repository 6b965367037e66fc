use Rattle.std.proofs.Common.{◌++◌, ◌∷◌, [], ap, ◌∙◌}
use Rattle.gw_shared.proofs.Laws.{one_more_taken}
use Rattle.gw_shared.proofs.list.SharedList.plain.Goals as goal

pub loop-index-preserved : goal.loop-index-preserved
loop-index-preserved g c =
    c.in_ok-push_back.ensures.items
    ∙ (ap (λ l. l ++ c.at.result.now ∷ []) c.loop-index.invariant ∙ one_more_taken c.args.self.now.items c.loop-index.index c.at.result.now c.at.ensures)

use Rattle.std.proofs.Common.{◌∷◌, ◌++◌, [], ap, ◌∙◌}
use Rattle.gw_shared.proofs.Laws.{one_more_taken}
use Rattle.gw_entities.proofs.values.in_one_piece.Goals as goal

pub loop-index-preserved : goal.loop-index-preserved
loop-index-preserved c =
    let x = c.at.result.now in
    c.in_ok-push.ensures.items ∙ (ap (λ l. l ++ x ∷ []) c.loop-index.invariant ∙ one_more_taken c.args.values.now.items c.loop-index.index x c.at.ensures)

use Rattle.std.proofs.Common.{◌≡◌, ◌++◌, ◌∷◌, ◌+◌, [], take, sym, ap, ◌∙◌, append_assoc}
use Rattle.std.proofs.lemmas.List.{take_more}
use Rattle.std.proofs.lemmas.Option.{slice_get_within, get_or_from_slice_get}
use Rattle.gw_chains.proofs.block.Block.append_to.Goals as goal

pub loop-index-preserved : goal.loop-index-preserved
loop-index-preserved c =
    let es = c.args.self.now.items in
    let i = c.loop-index.index in
    let x = c.event.result in
    let all = c.args.events.now.items in
    let more : take (i + 1) es ≡ take i es ++ x ∷ [] =
    take_more es i x (slice_get_within es i x c.event.ensures) ∙ ap (λ y. take i es ++ y ∷ []) (get_or_from_slice_get es i x x c.event.ensures) in
    c.in_ok-push.ensures.items ∙ (ap (λ es. es ++ x ∷ []) c.loop-index.invariant ∙ (append_assoc all (take i es) (x ∷ []) ∙ ap (λ es. all ++ es) (sym more)))

use Rattle.std.proofs.Common.{◌≡◌, ◌<◌, [], length, sym, ◌∙◌, rules}
use Rattle.std.proofs.lemmas.List.{nil_from_length}
use Rattle.gw_shared.proofs.Full as full
use Rattle.gw_shared.specs.Lists.{chunk_items}
use Rattle.gw_shared.proofs.Laws.{empty_out}
use Rattle.gw_shared.proofs.edits.drop_if_empty.Goals as goal

pub returns-in-Some-clause-items : goal.returns-in-Some-clause-items
returns-in-Some-clause-items g c =
    let x = c.index.result.now in
    let none : chunk_items x ≡ [] = nil_from_length (chunk_items x) (sym c.len.ensures.len ∙ c.if-len-eq0.true) in
    let within : c.args.at < length c.args.chunks.now.items = search rules in
    rw c.in-Some.ensures.items (empty_out chunk_items c.args.chunks.now.items c.args.at x within c.index.ensures none)

pub returns-in-Some-clause-full : goal.returns-in-Some-clause-full
returns-in-Some-clause-full g c = λ n h are. rw c.in-Some.ensures.items (full.remove_behind n c.args.at c.args.chunks.now.items are h)

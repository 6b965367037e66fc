use Rattle.std.proofs.Common.{rules, ◌≡◌, get_or, ap, sym, ◌∙◌}
use Rattle.gw_model.specs.Tables.{nowhere, place_in, block_found}
use Rattle.gw_model.proofs.Answering.{block_place, block_there}
use Rattle.gw_model.proofs.places.block_of.Goals as goal

pub block_at-requires : goal.block_at-requires
block_at-requires c =
    let lines = c.args.lines.now in
    let given : c.in-Some.place.now ≡ get_or c.args.table.now c.args.id nowhere = search rules in
    let same : c.in-Some.place.now ≡ place_in 0 0 lines c.args.id = given ∙ c.requires c.args.id in
    rw same (block_there lines c.args.id)

pub returns-in-Some : goal.returns-in-Some
returns-in-Some c =
    let lines = c.args.lines.now in
    let given : c.in-Some.place.now ≡ get_or c.args.table.now c.args.id nowhere = search rules in
    let same : c.in-Some.place.now ≡ place_in 0 0 lines c.args.id = given ∙ c.requires c.args.id in
    c.block_at.ensures ∙ ap (block_found lines) same ∙ sym (block_place lines c.args.id)

pub returns-in-None : goal.returns-in-None
returns-in-None c =
    let lines = c.args.lines.now in
    let given : nowhere ≡ get_or c.args.table.now c.args.id nowhere = search rules in
    ap (block_found lines) (given ∙ c.requires c.args.id) ∙ sym (block_place lines c.args.id)

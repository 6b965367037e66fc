use Rattle.std.proofs.Common.{rules, ◌≡◌, get_or, ap, sym, ◌∙◌}
use Rattle.gw_model.specs.Tables.{nowhere, position_if}
use Rattle.gw_model.specs.declared.places.Place.{Place}
use Rattle.gw_model.proofs.Answering.{position_place}
use Rattle.gw_model.proofs.version.Version.position.Goals as goal

pub returns : goal.returns
returns c =
    let given : c.position_of.result ≡ position_if (get_or c.self.inside.tabled.value.tables.places.items c.args.id nowhere).position = search rules in
    rw (← c.self.view_is) (given ∙ ap (λ (p : Place). position_if p.position) (c.self.invariant.answers.places c.args.id)
    ∙ sym (position_place 0 0 c.self.inside.tabled.value.lines.items c.args.id))

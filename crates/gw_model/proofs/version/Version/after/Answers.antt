use Rattle.std.proofs.Common.{rules, ◌≡◌, get_or, ap, sym, ◌∙◌}
use Rattle.gw_model.specs.Tables.{nowhere}
use Rattle.gw_model.specs.declared.places.Place.{Place}
use Rattle.gw_model.proofs.Answering.{after_place}
use Rattle.gw_model.proofs.version.Version.after.Goals as goal

pub returns : goal.returns
returns c =
    let given : c.after_of.result ≡ (get_or c.self.inside.tabled.value.tables.places.items c.args.id nowhere).after = search rules in
    rw (← c.self.view_is) (given ∙ ap (λ (p : Place). p.after) (c.self.invariant.answers.places c.args.id)
    ∙ sym (after_place 0 0 c.self.inside.tabled.value.lines.items c.args.id))

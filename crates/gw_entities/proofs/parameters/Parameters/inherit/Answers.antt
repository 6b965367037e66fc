use Rattle.std.proofs.Common.{◌≡◌, ap, sym, ◌∙◌}
use Rattle.gw_entities.specs.Owned.{all_of, said_by}
use Rattle.gw_meaning.specs.Parameters.{all_inherited, values_at}
use Rattle.gw_entities.specs.Keeping.{grouped}
use Rattle.gw_entities.proofs.ParameterLaws.{values_grouped}
use Rattle.gw_entities.proofs.parameters.Parameters.inherit.Goals as goal

pub returns-clause-ok : goal.returns-clause-ok
returns-clause-ok c =
    let es = c.self.inside.own.entries in
    let ks = c.self.inside.own.keys in
    let values = values_grouped c.args.from es c.self.invariant in
    let first = c.args.first in
    let count = c.args.count in
    let before = grouped c.reserve_known.new.self.entries in
    let told : said_by c.reserve_known.new.self.keys c.deref.result.now ≡ all_of c.args.from es =
    ap (λ l. said_by l c.deref.result.now) c.reserve_known.ensures.keys ∙ (ap (said_by ks) c.deref.ensures.value ∙ c.in_ok-values.ensures.said) in
    rw (← c.self.view_is)
    (c.give_all.ensures.given ∙
    (ap (λ vs. all_inherited count vs first before) (told ∙ sym values) ∙
    ap (λ l. all_inherited count (values_at (grouped es) c.args.from) first (grouped l)) c.reserve_known.ensures.entries))

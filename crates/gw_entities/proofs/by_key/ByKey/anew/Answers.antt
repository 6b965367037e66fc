use Rattle.std.proofs.Common.{ap₂, ◌∙◌}
use Rattle.std.specs.List.{zip}
use Rattle.gw_entities.proofs.Anew.{zip_anew}
use Rattle.gw_entities.proofs.by_key.ByKey.anew.Goals as goal

pub returns : goal.returns
returns g c =
    rw (← c.self.view_is)
    (ap₂ zip c.in_ok-keys.ensures c.in_ok-all_anew.ensures ∙
    zip_anew (λ v. g.V.Counted.anew c.args.clock v) c.self.inside.keys.keys c.self.inside.values.items)

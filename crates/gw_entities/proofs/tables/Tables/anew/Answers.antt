use Rattle.std.proofs.Common.{ℤ, List, [], ap, ap₂, map, ◌∙◌}
use Rattle.std.specs.List.{zip}
use Rattle.gw_entities.proofs.Anew.{zip_anew}
use Rattle.gw_entities.proofs.tables.Tables.anew.Goals as goal

pub returns : goal.returns
returns c =
    rw (← c.self.view_is)
    (ap₂ zip c.in_ok-keys.ensures (c.in_ok-as_many_empty.ensures ∙ ap (map (λ (v : List ℤ). [])) c.deref.ensures.value) ∙
    zip_anew (λ (v : List ℤ). []) c.self.inside.keys.keys c.self.inside.values.items)

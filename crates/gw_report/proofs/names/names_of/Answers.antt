use Rattle.std.proofs.Common.{ap, sym, ◌∙◌}
use Rattle.std.specs.List.{flat_map}
use Rattle.std.proofs.lemmas.List.{drop_all}
use Rattle.indexmap.specs.IndexSet.{insert_all}
use Rattle.gw_names.specs.Keys.{key_eq}
use Rattle.gw_report.specs.Names.{names_of, each_once}
use Rattle.gw_report.specs.NameKeys.{as_keys}
use Rattle.gw_report.proofs.Naming.{kept_once}
use Rattle.gw_report.proofs.names.names_of.Goals as goal

pub returns : goal.returns
returns c =
    let lines = c.lines-line-items.result.now in
    let done = drop_all c.loop-line.line-index lines c.loop-line-test.false in
    let all = sym (ap (λ ls. insert_all key_eq c.loop-line.names.keys (as_keys (flat_map names_of ls))) done) ∙ c.loop-line.invariant in
    all ∙ kept_once (flat_map names_of lines) ∙ ap (λ ls. as_keys (each_once (flat_map names_of ls))) c.lines-line-items.ensures.value

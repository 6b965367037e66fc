use Rattle.std.proofs.Common.{◌≡◌, [], drop}
use Rattle.std.specs.List.{flat_map}
use Rattle.indexmap.specs.IndexSet.{insert_all}
use Rattle.gw_names.specs.Keys.{key_eq}
use Rattle.gw_report.specs.Names.{names_of}
use Rattle.gw_report.specs.NameKeys.{as_keys}
use Rattle.gw_report.proofs.names.names_of.Given as goal

abbrev pub invariant-loop-line : goal.invariant-loop-line
invariant-loop-line l =
    insert_all key_eq l.names.keys (as_keys (flat_map names_of (drop l.line-index l.line-items)))
    ≡ insert_all key_eq [] (as_keys (flat_map names_of l.line-items))

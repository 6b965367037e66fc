use Rattle.std.proofs.Common.{◌≡◌, drop}
use Rattle.std.specs.List.{flat_map}
use Rattle.indexmap.specs.IndexSet.{insert_all}
use Rattle.gw_names.specs.Keys.{key_eq}
use Rattle.gw_report.specs.Names.{names_in_token}
use Rattle.gw_report.specs.NameKeys.{as_keys}
use Rattle.gw_report.proofs.names.add_tokens.Given as goal

abbrev pub invariant-loop-token : goal.invariant-loop-token
invariant-loop-token l =
    insert_all key_eq l.names.keys (as_keys (flat_map names_in_token (drop l.token-index l.tokens)))
    ≡ insert_all key_eq l.initial.names.keys (as_keys (flat_map names_in_token l.tokens))

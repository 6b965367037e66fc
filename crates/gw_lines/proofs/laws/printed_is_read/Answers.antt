use Rattle.gw_lines.proofs.Printed.{printed_spells, printed_edits, printed_models, models_are_spelled}
use Rattle.gw_lines.proofs.PrintedStorage.{storages_spell}
use Rattle.gw_lines.proofs.laws.printed_is_read.Goals as goal

pub returns : goal.returns
returns c =
    record { line = printed_spells; edit = printed_edits; model = printed_models; spelled = models_are_spelled; storage = storages_spell }

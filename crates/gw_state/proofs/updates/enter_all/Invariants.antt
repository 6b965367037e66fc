use Rattle.std.proofs.Common.{◌≡◌, drop}
use Rattle.gw_meaning.specs.Entities.{all_entered}
use Rattle.gw_state.proofs.updates.enter_all.Given as goal

abbrev pub invariant-loop-grant : goal.invariant-loop-grant
invariant-loop-grant l =
    all_entered (drop l.grant-index l.grants) l.clock l.storage ≡ all_entered l.grants l.clock l.initial.storage

use Rattle.std.proofs.Common.{◌≡◌, ◌+◌, length}
use Rattle.gw_io.specs.Model.{IsOtherLines}
use Rattle.gw_io.proofs.model.split_model.Given as goal

abbrev pub invariant-loop-model : goal.invariant-loop-model
invariant-loop-model g l = record {
  others : IsOtherLines l.model.items;
  taken : g.S.Source.took l.initial.source l.model.items l.source;
  spent : l.initial.budget ≡ l.budget + length l.model.items;
  uncounted : g.S.Source.failures l.source ≡ g.S.Source.failures l.initial.source;
}

abbrev pub decreases-loop-model : goal.decreases-loop-model
decreases-loop-model g l = l.budget

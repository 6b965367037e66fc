use Rattle.std.proofs.Common.{◌≡◌, ◌+◌, length}
use Rattle.gw_io.proofs.whole.read_all.Given as goal

abbrev pub invariant-loop-bytes : goal.invariant-loop-bytes
invariant-loop-bytes g l = record {
  taken : g.S.Source.took l.initial.source l.bytes.items l.source;
  spent : l.initial.budget ≡ l.budget + length l.bytes.items;
  uncounted : g.S.Source.failures l.source ≡ g.S.Source.failures l.initial.source;
}

abbrev pub decreases-loop-bytes : goal.decreases-loop-bytes
decreases-loop-bytes g l = l.budget

use Rattle.std.proofs.Common.{◌≡◌, ◌<◌, ℕ}
use Rattle.gw_bench.specs.Fronts.{known_at}
use Rattle.gw_bench.proofs.pass.Pass.meet.Given as goal

-- the notes before this number agree
abbrev pub invariant-notes : goal.invariant-notes
invariant-notes g l = (k : ℕ) → k < l.number → known_at l.self-inside.notes.items k ≡ known_at l.other-inside.notes.items k

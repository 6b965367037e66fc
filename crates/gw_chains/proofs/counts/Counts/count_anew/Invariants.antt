use Rattle.std.proofs.Common.{◌≡◌}
use Rattle.gw_meaning.specs.Changes.{count_anew}
use Rattle.gw_chains.proofs.AnewLaws.{partly}
use Rattle.gw_chains.proofs.counts.Counts.count_anew.Given as goal

abbrev pub invariant-loop-place : goal.invariant-loop-place
invariant-loop-place l = l.self-inside.table.entries ≡ partly count_anew l.initial.self-inside.table.entries l.place

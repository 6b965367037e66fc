use Rattle.std.proofs.Common.{◌≡◌, ◌≤◌, ◌+◌, length, map, drop}
use Rattle.gw_meaning.specs.Changes.{all_lined_up}
use Rattle.gw_retry.specs.declared.retry.Waiting.{Waiting}
use Rattle.gw_retry.proofs.waking.line_up_all.Given as goal

-- what is to come is what comes of all
abbrev pub invariant-loop-index : goal.invariant-loop-index
invariant-loop-index l = record {
  current : all_lined_up (map (λ (w : Waiting). w.transaction) (drop l.index l.going)) l.current.items ≡ all_lined_up
      (map (λ (w : Waiting). w.transaction) l.going) l.initial.current.items;
  room : length l.going ≤ l.current.room + l.index;
}

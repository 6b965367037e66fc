use Rattle.std.proofs.Common.{◌≡◌, take}
use Rattle.gw_uses.proofs.item_steps.ItemSteps.copy.Given as goal

abbrev pub invariant-loop-i : goal.invariant-loop-i
invariant-loop-i l = l.steps.entries ≡ take l.i l.self-inside.steps.entries

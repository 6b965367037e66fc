use Rattle.std.proofs.Common.{◌≡◌, take}
use Rattle.gw_uses.specs.Asks.{is_ask, least_in}
use Rattle.gw_uses.proofs.item_steps.ItemSteps.first_ask.Given as goal

abbrev pub invariant-loop-i : goal.invariant-loop-i
invariant-loop-i l = l.first ≡ least_in (is_ask l.name l.from l.to) (take l.i l.self)

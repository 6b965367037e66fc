use Rattle.std.proofs.Common.{take}
use Rattle.gw_script.specs.Answers.{Puts}
use Rattle.gw_script.proofs.queries.put_reports.Given as goal

abbrev pub invariant-loop-number : goal.invariant-loop-number
invariant-loop-number g l = Puts g.D.Keeper.does l.initial.keeper l.k (take l.number-index l.numbers) l.initial.text.items l.text.items l.keeper

use Rattle.std.proofs.Common.{List, [], Result, drop}
use Rattle.gw_meaning.specs.declared.moves.Arrival.{Arrival}
use Rattle.gw_meaning.specs.Step.{arrivals_prog}
use Rattle.gw_expr.specs.declared.halt.Halt.{Halt}
use Rattle.gw_asking.specs.Noted.{Noted}
use Rattle.gw_asking.specs.Deciding.{Decides}
use Rattle.gw_values.proofs.arriving.arrivals.Given as goal

-- what the rest comes to is what all comes to
abbrev pub invariant-loop-id : goal.invariant-loop-id
invariant-loop-id l =
    (r : Result (List Arrival) Halt) (all : Noted) →
    Decides l.context.run.version.now l.context.run.seed (arrivals_prog l.context.state.now l.context.asker.now (drop l.id-index l.ids) l.arrivals.items) r l.notes all →
    Decides l.context.run.version.now l.context.run.seed (arrivals_prog l.context.state.now l.context.asker.now l.ids []) r l.fn.notes all

use Rattle.std.proofs.Common.{ℕ, List, [], Option, Result, drop}
use Rattle.gw_meaning.specs.Step.{grants_prog}
use Rattle.gw_expr.specs.declared.halt.Halt.{Halt}
use Rattle.gw_asking.specs.Noted.{Noted}
use Rattle.gw_asking.specs.Deciding.{Decides}
use Rattle.gw_verbs.proofs.grants.grants_of_chain.Given as goal

-- what the rest comes to is what all come to
abbrev pub invariant-loop-i : goal.invariant-loop-i
invariant-loop-i l =
    (r : Result (List (Option ℕ)) Halt) (all : Noted) →
    Decides l.run.version.now l.run.seed (grants_prog l.name l.content l.grants.items (drop l.i l.chain.items)) r l.notes all →
    Decides l.run.version.now l.run.seed (grants_prog l.name l.fn.content [] l.chain.items) r l.fn.notes all

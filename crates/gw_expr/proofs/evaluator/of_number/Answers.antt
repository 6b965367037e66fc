use Rattle.gw_expr.specs.Worlds.{replied, failed}
use Rattle.gw_expr.proofs.Worlds.{exit_fault, goes_comes}
use Rattle.gw_expr.proofs.evaluator.of_number.Goals as goal

pub returns-in_err-number : goal.returns-in_err-number
returns-in_err-number g c = rw (exit_fault c.from_residual.ensures.1) (failed _ _ _ _ _ c.in_err-number.ensures)

pub returns : goal.returns
returns g c = replied _ _ _ _ _ _ _ tt c.in_ok-number.ensures (goes_comes _ c.number_given.ensures)

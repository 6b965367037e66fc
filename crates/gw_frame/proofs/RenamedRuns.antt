-- The run of a version with its ids renamed.
use Rattle.std.proofs.Common.{◌≡◌, ℕ, Result, Ok, Err, refl, ◌∙◌}
use Rattle.gw_expr.specs.declared.halt.End.{End}
use Rattle.gw_meaning.specs.Machine.{Machine}
use Rattle.gw_meaning.specs.Step.{step, run}
use Rattle.gw_frame.specs.Moved.{moved_machine, moved_result}
use Rattle.gw_frame.specs.Renamed.{RenamedStep, RenamedRun}
use Rattle.gw_frame.proofs.Lawful.{result_with}
use Rattle.gw_frame.proofs.DecidedValues.{Twins}
use Rattle.gw_frame.proofs.Decided.{step_lawful, run_lawful}
use Rattle.gw_frame.proofs.Renaming.{renamed_answers}

-- a result with its state renamed
renamed_result : (move : ℕ → ℕ) (r : Result Machine End) → result_with (moved_machine move) r ≡ moved_result move r
renamed_result move (Ok s) = refl
renamed_result move (Err end) = refl

pub renamed_step : RenamedStep
renamed_step move t u seed s r =
    let twins : Twins = record { version = t; seed = seed; state = s; move = move; renames = r.is_move } in
    (step_lawful twins).follows u seed (renamed_answers move t u seed r) ∙ renamed_result move (step t seed s)

pub renamed_run : RenamedRun
renamed_run move t u seed n r =
    (run_lawful t seed move r.is_move n).follows u seed (renamed_answers move t u seed r) ∙ renamed_result move (run t seed n)

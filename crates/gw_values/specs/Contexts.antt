-- What a function that asks in a context came to. (Our own.)
use Rattle.std.specs.Prelude.{Result}
use Rattle.gw_expr.specs.declared.halt.Halt.{Halt}
use Rattle.gw_meaning.specs.declared.asker.Asker.{Asker}
use Rattle.gw_meaning.specs.Machine.{Machine}
use Rattle.gw_meaning.specs.Evaluation.{Eval}
use Rattle.gw_asking.specs.Noted.{Noted}
use Rattle.gw_asking.specs.Deciding.{Decides}
use Rattle.gw_values.specs.declared.context.Context.{Context}

-- what the evaluation gives for the state that replies and for whoever asks
abbrev pub DecidesIn : {A : Type 0} → Context → (Machine → Asker → Eval A) → Result A Halt → Noted → Noted → Type 0
DecidesIn context p = Decides context.run.version.now context.run.seed (p context.state.now context.asker.now)

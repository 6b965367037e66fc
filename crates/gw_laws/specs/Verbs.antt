-- Each verb of a block is evaluated. (Our own.)
use Rattle.std.specs.Prelude.{◌≡◌, Bool, List, Some, Ok}
use Rattle.gw_names.specs.declared.verb.BlockVerb.{BlockVerb}
use Rattle.gw_meaning.specs.declared.auxiliary.Auxiliary.{Auxiliary}
use Rattle.gw_meaning.specs.declared.statement.Block.{Block}
use Rattle.gw_meaning.specs.declared.transaction.Transaction.{Transaction}
use Rattle.gw_meaning.specs.declared.moves.Change.{Change}
use Rattle.gw_meaning.specs.declared.moves.Fate.{Fate}
use Rattle.gw_meaning.specs.declared.moves.Move.TheVariants as moves
use Rattle.gw_meaning.specs.Listing.{Listing}
use Rattle.gw_meaning.specs.Machine.{Machine}
use Rattle.gw_meaning.specs.Questions.{result_of}
use Rattle.gw_meaning.specs.Step.{meet_prog}
use Rattle.gw_lines.specs.declared.form.Form.{Form}
use Rattle.gw_lines.specs.Forms.{forms_of_block}

-- there is a block of the verb that some transaction can enter in some state, where some version answers what is asked:
-- its evaluation comes to an entry
pub record CanBeEntered (verb : BlockVerb) : Type 0 where
  pub version : Listing
  pub block : Block
  pub state : Machine
  pub transaction : Transaction
  pub change : Change
  pub fate : Fate
  pub of_verb : block.verb ≡ verb
  pub enters : result_of version 1 (meet_prog state transaction 1 (Some block) state.streams) ≡
      Ok (moves.Enter 1 change fate, state.streams)

abbrev pub EachVerbIsEvaluated : Type 0
EachVerbIsEvaluated =
    (verb : BlockVerb) (beside : Auxiliary) (given : Bool) (forms : List Form) →
    forms_of_block verb beside given ≡ Some forms → CanBeEntered verb

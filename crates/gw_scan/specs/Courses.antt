-- What a course makes of the move that a step decides. (Our own.)
use Rattle.std.specs.Prelude.{◌≡◌, ℕ, List, Option, Some, None, Result, Ok, Err}
use Rattle.gw_expr.specs.declared.halt.End.TheVariants as ends
use Rattle.gw_expr.specs.declared.stop.Stop.TheVariants.{NoNextBlock}
use Rattle.gw_expr.specs.declared.halt.Halt.{Halt}
use Rattle.gw_expr.specs.declared.halt.Halt.TheVariants as halts
use Rattle.gw_streams.specs.declared.stream.Stream.{Stream}
use Rattle.gw_meaning.specs.declared.moves.Move.{Move}
use Rattle.gw_meaning.specs.declared.statement.Block.{Block}
use Rattle.gw_meaning.specs.declared.transaction.Transaction.{Transaction}
use Rattle.gw_meaning.specs.Listing.{Listing}
use Rattle.gw_meaning.specs.Machine.{Machine}
use Rattle.gw_meaning.specs.Questions.{result_of}
use Rattle.gw_meaning.specs.Evaluation.{Eval, ends_with}
use Rattle.gw_meaning.specs.Step.{meet_prog, move_prog}
use Rattle.gw_asking.specs.Noted.{Noted}
use Rattle.gw_asking.specs.Deciding.{Decides}
use Rattle.gw_state.specs.Making.{IsMade}

-- what was decided, if a move, can be made
abbrev pub CanBeMade : Machine → Result Move Halt → Type 0
CanBeMade s (Ok m) = IsMade s m
CanBeMade s (Err halt) = Unit {0}

-- what was decided is taken; where none was, or memory is refused, nothing changes
abbrev pub Taken : {S : Type 0} → (Move → List Stream → S → S → Type 0) → Result Move Halt → List Stream → Result (Unit {0}) Halt → S → S → Type 0
Taken makes (Ok m) streams (Ok u) before after = makes m streams before after
Taken makes (Ok m) streams (Err halt) before after = (halt ≡ halts.Memory) × (after ≡ before)
Taken makes (Err halt) streams (Ok u) before after = ⊥
Taken makes (Err halt) streams (Err other) before after = (other ≡ halt) × (after ≡ before)

-- the move to which an evaluation comes is taken, with the streams after its draws; where it comes to none, nothing
-- changes
abbrev pub Goes : {S : Type 0} → (Move → List Stream → S → S → Type 0) → Listing → ℕ → Eval Move → Result (Unit {0}) Halt → S → S → Noted → Noted → Type 0
Goes makes t seed p (Ok u) before after old new =
    (m : Move) × Decides t seed p (Ok m) old new × makes m new.streams before after
Goes makes t seed p (Err halt) before after old new = Decides t seed p (Err halt) old new × (after ≡ before)

-- a block is met by who is active
abbrev pub met_by : Machine → Option Transaction → ℕ → Block → Eval Move
met_by s None id b = ends_with (ends.Error NoNextBlock)
met_by s (Some x) id b = meet_prog s x id (Some b)

-- the step of a state comes to what comes of this evaluation
abbrev pub IsNext : Listing → ℕ → Machine → Eval Move → Type 0
IsNext t seed s p = (streams : List Stream) → result_of t seed (move_prog s s.remaining streams) ≡ result_of t seed (p streams)

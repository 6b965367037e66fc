-- What a step of the code came to, against the step of the definitions.
use Rattle.std.specs.Prelude.{◌≡◌, ℕ, List, Option, Some, None, Result, Ok, Err}
use Rattle.gw_expr.specs.declared.halt.End.{End}
use Rattle.gw_meaning.specs.declared.item.Item.{Item}
use Rattle.gw_asking.specs.Noted.{Noted, Reads, Forgets}
use Rattle.gw_meaning.specs.declared.moves.Move.{Move}
use Rattle.gw_meaning.specs.Listing.{Listing}
use Rattle.gw_meaning.specs.Machine.{Machine, raised}
use Rattle.gw_meaning.specs.Changes.{decided}
use Rattle.gw_meaning.specs.Evaluation.{Eval}
use Rattle.gw_asking.specs.Deciding.{Decides}
use Rattle.gw_expr.specs.declared.halt.Halt.{Halt}
use Rattle.gw_expr.specs.declared.halt.Halt.TheVariants as halts
use Rattle.gw_scan.specs.declared.steps.Turn.{Turn}
use Rattle.gw_scan.specs.declared.steps.Turn.TheVariants as turns

-- moved where the definition goes, to its state; ended where it ends, with nothing changed
abbrev pub Steps : Result Machine End → Turn → Machine → Machine → Type 0
Steps r turns.Moved old new = r ≡ Ok new
Steps r (turns.Ended end) old new = (r ≡ Err end) × (new ≡ old)

-- a step that moved is counted, and no other
abbrev pub Counts : Turn → ℕ → ℕ → Type 0
Counts turns.Moved old new = new ≡ raised old
Counts (turns.Ended end) old new = new ≡ old

-- the items of a step that moved are noted, and none of one that ended
abbrev pub Follows : Turn → List Item → Noted → Noted → Type 0
Follows turns.Moved items old new = Reads old items new
Follows (turns.Ended end) items old new = Forgets old.step old.streams old new

-- the move to which an evaluation comes is made, with the streams after its draws; where it comes to none, nothing
-- changes
abbrev pub Acts : Listing → ℕ → Eval Move → Result (Unit {0}) Halt → Machine → Machine → Noted → Noted → Type 0
Acts t seed p (Ok u) before after old new =
    (m : Move) × Decides t seed p (Ok m) old new × (after ≡ decided before m new.streams)
Acts t seed p (Err halt) before after old new = Decides t seed p (Err halt) old new × (after ≡ before)

-- no step was made: the run ends here, or out of memory
abbrev pub Halts : {E : Type 0} → Halt → Result Turn E → Type 0
Halts (halts.End end) (Ok turn) = turn ≡ turns.Ended end
Halts halts.Memory (Err error) = Unit {0}
Halts halt result = ⊥

-- the end of the definition, or none where it goes
abbrev pub EndsAs : Result Machine End → Option End → Type 0
EndsAs (Ok s) o = o ≡ None
EndsAs (Err end) o = o ≡ Some end

-- What an evaluation of operands is replied to in a state, for whoever asks, and what is then noted. (Our own.)
use Rattle.std.specs.Prelude.{◌≡◌, ℕ, Result, Ok, Err}
use Rattle.gw_expr.specs.declared.halt.Halt.{Halt}
use Rattle.gw_expr.specs.declared.halt.Halt.TheVariants as halts
use Rattle.gw_expr.specs.Evaluation.{Question, NumberOf, AttributeOf, PartOf, VariableOf, FunctionOf, Reply}
use Rattle.gw_meaning.specs.declared.asker.Asker.{Asker}
use Rattle.gw_meaning.specs.declared.item.Item.{Item}
use Rattle.gw_meaning.specs.declared.item.Asked.TheVariants as asking
use Rattle.gw_meaning.specs.declared.item.Item.TheVariants as items
use Rattle.gw_meaning.specs.Evaluation.{reply_prog}
use Rattle.gw_meaning.specs.Listing.{Listing}
use Rattle.gw_meaning.specs.Machine.{Machine}
use Rattle.gw_asking.specs.Deciding.{Decides}
use Rattle.gw_asking.specs.Noted.{Noted, Asks}
use Rattle.gw_values.specs.declared.seen.Seen.{Seen}

-- a question that definitions reply to is noted, whatever they reply; where memory is refused, nothing is
abbrev pub Marks : {A : Type 0} → Item → Noted → Result A Halt → Noted → Type 0
Marks item old (Ok reply) new = Asks old item new
Marks item old (Err halts.Memory) new = new ≡ old
Marks item old (Err (halts.End end)) new = ⊥

-- the reply and the notes are those of the question's meaning; what definitions reply is left open
abbrev pub Replied : Listing → ℕ → Machine → Asker → (question : Question) → Noted → Result (Reply question) Halt →
    Noted → Type 0
Replied t seed s q (NumberOf name) old result new =
    Decides t seed (reply_prog s q (NumberOf name)) result old new
Replied t seed s q (AttributeOf class of) old result new =
    Decides t seed (reply_prog s q (AttributeOf class of)) result old new
Replied t seed s q (PartOf of) old result new = Decides t seed (reply_prog s q (PartOf of)) result old new
Replied t seed s q (VariableOf name) old result new = Marks (items.Named asking.Variable name) old result new
Replied t seed s q (FunctionOf name) old result new = Marks (items.Named asking.Function name) old result new

-- where it is evaluated, and where it is noted, are the same
abbrev pub IsStill : Seen → Seen → Type 0
IsStill old new = (new.context ≡ old.context) × (new.notes.ghost_name ≡ old.notes.ghost_name)

-- what a question is replied to, of what is seen
abbrev pub Replies : (question : Question) → Seen → Result (Reply question) Halt → Seen → Type 0
Replies question old result new =
    Replied old.context.run.version.now old.context.run.seed old.context.state.now old.context.asker.now question old.notes.now result
    new.notes.now × IsStill old new

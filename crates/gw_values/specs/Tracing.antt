-- What an evaluation that is traced is replied to in a state: besides the value of an attribute, what it reads that a block
-- may write. (Our own.)
use Rattle.std.specs.Prelude.{◌≡◌, ℕ, ℤ, List, Option, Result, Ok, Err}
use Rattle.std.specs.Option.{option_to_list}
use Rattle.gw_names.specs.declared.class.Class.{Class}
use Rattle.gw_expr.specs.declared.halt.Halt.{Halt}
use Rattle.gw_expr.specs.declared.attribute.Subject.{Subject}
use Rattle.gw_expr.specs.Evaluation.{Question, AttributeOf, Reply}
use Rattle.gw_meaning.specs.declared.asker.Asker.{Asker}
use Rattle.gw_meaning.specs.declared.watched.Watched.{Watched}
use Rattle.gw_meaning.specs.Evaluation.{Eval, gives, attribute_prog, watched_prog, ◌~>◌}
use Rattle.gw_meaning.specs.Listing.{Listing}
use Rattle.gw_meaning.specs.Machine.{Machine}
use Rattle.gw_meaning.specs.Watching.{with_all_watched}
use Rattle.gw_asking.specs.Deciding.{Decides}
use Rattle.gw_asking.specs.Noted.{Noted}
use Rattle.gw_values.specs.Seeing.{Replied, IsStill}
use Rattle.gw_values.specs.declared.traced.Traced.{Traced}

-- the value of an attribute, and what it reads after what was read before
abbrev pub attribute_traced : Machine → Asker → List Watched → Class → Subject → Eval (ℤ × List Watched)
attribute_traced s q read class of = watched_prog class of ~> (λ more. attribute_prog s q class of ~>
    (λ value. gives (value, with_all_watched read more)))

-- a result beside what was read
abbrev pub with_read : {A : Type 0} → Result A Halt → List Watched → Result (A × List Watched) Halt
with_read (Ok a) read = Ok (a, read)
with_read (Err halt) read = Err halt

-- at most one thing as a list
abbrev pub listed : Result (Option Watched) Halt → Result (List Watched) Halt
listed (Ok thing) = Ok (option_to_list thing)
listed (Err halt) = Err halt

-- the reply, the notes and what was read are those of the question's meaning
abbrev pub TracedReplied : Listing → ℕ → Machine → Asker → (question : Question) → Noted × List Watched →
    Result (Reply question) Halt → Noted × List Watched → Type 0
TracedReplied t seed s q (AttributeOf class of) old result new =
    Decides t seed (attribute_traced s q old.1 class of) (with_read result new.1) old.0 new.0
TracedReplied t seed s q question old result new = Replied t seed s q question old.0 result new.0 × (new.1 ≡ old.1)

-- what is seen, and where it is kept what was read, are the same
abbrev pub IsTracedStill : Traced → Traced → Type 0
IsTracedStill old new = IsStill old.seen new.seen × (new.read.ghost_name ≡ old.read.ghost_name)

-- what a question is replied to, of what is seen
abbrev pub TracedReplies : (question : Question) → Traced → Result (Reply question) Halt → Traced → Type 0
TracedReplies question old result new =
    TracedReplied old.seen.context.run.version.now old.seen.context.run.seed old.seen.context.state.now old.seen.context.asker.now question
    (old.seen.notes.now, old.read.now.items) result (new.seen.notes.now, new.read.now.items)
    × IsTracedStill old new

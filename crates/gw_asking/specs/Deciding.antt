-- What a function that asks came to, against the evaluation that it stands for.
use Rattle.std.specs.Prelude.{◌≡◌, ℕ, Result, Ok, Err}
use Rattle.gw_expr.specs.declared.halt.Halt.{Halt}
use Rattle.gw_expr.specs.declared.halt.Halt.TheVariants as halts
use Rattle.gw_meaning.specs.Listing.{Listing}
use Rattle.gw_meaning.specs.Questions.{result_of, items_of}
use Rattle.gw_meaning.specs.Evaluation.{Eval, gives, ends_with}
use Rattle.gw_asking.specs.Noted.{Noted, Reads, Keeps}

-- the result, the questions and the streams after the draws are the evaluation's; only a refused growth leaves them
-- open, and it keeps what was noted of earlier steps
abbrev pub Decides : {A : Type 0} → Listing → ℕ → Eval A → Result A Halt → Noted → Noted → Type 0
Decides t seed p (Ok a) old new =
    (result_of t seed (p old.streams) ≡ Ok (a, new.streams)) × Reads old (items_of t seed (p old.streams)) new
Decides t seed p (Err (halts.End end)) old new =
    (result_of t seed (p old.streams) ≡ Err end) × Reads old (items_of t seed (p old.streams)) new
Decides t seed p (Err halts.Memory) old new = Keeps old new

-- the same, of an evaluation that neither asks nor draws; only a refused growth leaves it open
abbrev pub Comes : {A : Type 0} → Eval A → Result A Halt → Type 0
Comes p (Ok a) = p ≡ gives a
Comes p (Err (halts.End end)) = p ≡ ends_with end
Comes p (Err halts.Memory) = Unit {0}

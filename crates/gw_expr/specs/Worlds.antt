-- What an evaluation comes to where somebody replies. (Our own.)
use Rattle.std.specs.Prelude.{◌≡◌, ℕ, List, Option, Result, Ok, Err}
use Rattle.gw_expr.specs.declared.halt.Halt.{Halt}
use Rattle.gw_expr.specs.declared.halt.End.TheVariants as ends
use Rattle.gw_expr.specs.declared.halt.Halt.TheVariants as halts
use Rattle.gw_expr.specs.declared.function.Function.{Function}
use Rattle.gw_expr.specs.declared.stop.Stop.{Stop}
use Rattle.gw_expr.specs.Evaluation.{Question, NumberOf, AttributeOf, PartOf, VariableOf, FunctionOf, Reply, Evaluation, Yields, Stops, Wants}
use Rattle.gw_expr.specs.Term.{Term}

-- a reply is what definitions say, where it is theirs to say
abbrev pub Says : (List ℕ → Option Term) → (List ℕ → Option Function) → (q : Question) → Reply q → Type 0
Says variable function (NumberOf name) reply = Unit {0}
Says variable function (AttributeOf class of) reply = Unit {0}
Says variable function (PartOf of) reply = Unit {0}
Says variable function (VariableOf name) reply = reply ≡ variable name
Says variable function (FunctionOf name) reply = reply ≡ function name

-- what the world says to a question whose reply definitions give: it refuses to note it, or may go on with any reply
abbrev pub with_reply : {A : Type 0} → A → Result (Unit {0}) Halt → Result A Halt
with_reply reply (Ok noted) = Ok reply
with_reply reply (Err fault) = Err fault

-- an evaluation, with the world before and after it, came to this result: each of its questions got a reply that the
-- definitions say and the world may give, up to the first that got none. A refused growth alone leaves the rest open
pub data Evaluates {W : Type 0} (says : (q : Question) → Reply q → Type 0)
    (replies : (q : Question) → W → Result (Reply q) Halt → W → Type 0) {A : Type 0}
    : Evaluation A → Result A Halt → W → W → Type 0 where
  yields : (a : A) (world : W) → Evaluates says replies (Yields a) (Ok a) world world
  stops : (stop : Stop) (world : W) → Evaluates says replies (Stops stop) (Err (halts.End (ends.Error stop))) world world
  refused : (p : Evaluation A) (world : W) → Evaluates says replies p (Err halts.Memory) world world
  replied : (q : Question) (k : Reply q → Evaluation A) (reply : Reply q) (r : Result A Halt) (old between new : W) →
      says q reply → replies q old (Ok reply) between → Evaluates says replies (k reply) r between new →
      Evaluates says replies (Wants q k) r old new
  failed : (q : Question) (k : Reply q → Evaluation A) (fault : Halt) (old new : W) →
      replies q old (Err fault) new → Evaluates says replies (Wants q k) (Err fault) old new

-- the same, of an evaluation that asks for nothing and wants no memory
abbrev pub Comes : {A : Type 0} → Evaluation A → Result A Halt → Type 0
Comes p (Ok a) = p ≡ Yields a
Comes p (Err (halts.End (ends.Error stop))) = p ≡ Stops stop
Comes p (Err halt) = ⊥

-- the result of a function that changes a value in place, with the value that stands there after it
abbrev pub in_place : {A : Type 0} → Result (Unit {0}) Halt → A → Result A Halt
in_place (Ok done) a = Ok a
in_place (Err fault) a = Err fault

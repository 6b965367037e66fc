-- A step does not get the version: it asks it. A program of questions gives a result, ends the run, or asks and goes on
-- with the answer; what it read is just what it asked. (Our own.)
use Rattle.std.specs.Prelude.{ℕ, ℤ, Bool, List, [], ◌∷◌, Option, Result, Ok, Err, nat_le}
use Rattle.gw_expr.specs.Term.{Term}
use Rattle.gw_expr.specs.declared.function.Function.{Function}
use Rattle.gw_meaning.specs.declared.item.Item.{Item}
use Rattle.gw_meaning.specs.declared.item.Asked.TheVariants as asking
use Rattle.gw_meaning.specs.declared.item.Item.TheVariants as items
use Rattle.gw_expr.specs.declared.halt.End.{End}
use Rattle.gw_meaning.specs.declared.statement.Block.{Block}
use Rattle.gw_meaning.specs.declared.statement.Command.{Command}
use Rattle.gw_meaning.specs.Listing.{Listing, block_at, after_at, label_at, capacity_at, number_at, variable_at, function_at, argument_at, generates_in, command_at}

-- what a question is answered with
abbrev pub Answer : Item → Type 0
Answer (items.Block id) = Option Block
Answer (items.After id) = Option ℕ
Answer (items.Named asking.Label name) = Option ℕ
Answer (items.Named asking.Number name) = Option ℤ
Answer (items.Named (asking.Fits units) name) = Bool
Answer (items.Named asking.Storage name) = ℕ
Answer (items.Named asking.Variable name) = Option Term
Answer (items.Named asking.Function name) = Option Function
Answer (items.Named asking.Table name) = Option Term
Answer items.Generates = List ℕ
Answer (items.Cmd i) = Option Command
Answer items.Seed = ℕ
Answer (items.Within time) = Bool

-- what a version and a seed answer
abbrev pub ask : Listing → ℕ → (i : Item) → Answer i
ask t seed (items.Block id) = block_at t id
ask t seed (items.After id) = after_at t id
ask t seed (items.Named asking.Label name) = label_at t name
ask t seed (items.Named asking.Number name) = number_at t name
ask t seed (items.Named (asking.Fits units) name) = nat_le units (capacity_at t name)
ask t seed (items.Named asking.Storage name) = capacity_at t name
ask t seed (items.Named asking.Variable name) = variable_at t name
ask t seed (items.Named asking.Function name) = function_at t name
ask t seed (items.Named asking.Table name) = argument_at t name
ask t seed items.Generates = generates_in t.lines
ask t seed (items.Cmd i) = command_at t i
ask t seed items.Seed = seed
ask t seed (items.Within time) = nat_le time t.horizon

-- a program of questions
pub data Prog (A : Type 0) : Type 0 where
  Gives : A → Prog A
  Ends : End → Prog A
  Asks : (i : Item) → (Answer i → Prog A) → Prog A

-- what it comes to
abbrev pub result_of : {A : Type 0} → Listing → ℕ → Prog A → Result A End
result_of t seed (Gives a) = Ok a
result_of t seed (Ends end) = Err end
result_of t seed (Asks i k) = result_of t seed (k (ask t seed i))

-- the questions that it asked, in order
abbrev pub items_of : {A : Type 0} → Listing → ℕ → Prog A → List Item
items_of t seed (Gives a) = []
items_of t seed (Ends end) = []
items_of t seed (Asks i k) = i ∷ items_of t seed (k (ask t seed i))

-- one program, and with its result another
infixl 10 ◌>>=◌
abbrev pub ◌>>=◌ : {A B : Type 0} → Prog A → (A → Prog B) → Prog B
(Gives a) >>= f = f a
(Ends end) >>= f = Ends end
(Asks i k) >>= f = Asks i (λ x. k x >>= f)

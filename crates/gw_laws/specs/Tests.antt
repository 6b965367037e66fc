-- What the operator of a TEST says of two values. (Manual.)
use Rattle.std.specs.Prelude.{◌≡◌, ◌≢◌, ◌↔◌, ℕ, ℤ, ◌≤ℤ◌, List, true, codes, IsSome}
use Rattle.gw_names.specs.declared.verb.BlockVerb.TheVariants as blocks
use Rattle.gw_names.specs.declared.verb.Verb.TheVariants as verbs
use Rattle.gw_meaning.specs.declared.statement.Block.{Block}
use Rattle.gw_meaning.specs.declared.statement.Body.TheVariants as bodies
use Rattle.gw_meaning.specs.declared.statement.Statement.{Statement}
use Rattle.gw_meaning.specs.Step.{holds}
use Rattle.gw_lines.specs.Auxiliaries.{operator_of}
use Rattle.gw_lines.specs.Classes.{word_of}
use Rattle.gw_lines.specs.Spelling.{Spells}

-- the relation of one number to another that a word says
pub data Relates : List ℕ → ℤ → ℤ → Type 0 where
  equal : (a b : ℤ) → a ≡ b → Relates (codes "E") a b
  not_equal : (a b : ℤ) → a ≢ b → Relates (codes "NE") a b
  greater : (a b : ℤ) → (a ≤ℤ b → ⊥) → Relates (codes "G") a b
  greater_or_equal : (a b : ℤ) → b ≤ℤ a → Relates (codes "GE") a b
  less : (a b : ℤ) → (b ≤ℤ a → ⊥) → Relates (codes "L") a b
  less_or_equal : (a b : ℤ) → a ≤ℤ b → Relates (codes "LE") a b

-- a TEST that is read holds of two values just where the word at the front of its listed operands says so
abbrev pub HoldsAsItSays : Type 0
HoldsAsItSays =
    (line : List ℕ) (s : Statement) (block : Block) → Spells line s → s.body ≡ bodies.Block block →
    block.verb ≡ blocks.Test → (a b : ℤ) → (holds block.auxiliary a b ≡ true) ↔ Relates (word_of s.operands) a b

-- and each of these words is an operator of a TEST
abbrev pub EachIsAnOperator : Type 0
EachIsAnOperator =
    (word : List ℕ) (a b : ℤ) → Relates word a b → IsSome (operator_of (verbs.Block blocks.Test) word)

-- What the further lines of a FUNCTION spell: relations by cases on the text, apart from how they are read. (Manual:
-- the pairs. Our own: the greatest numbers, where a line ends.)
use Rattle.std.specs.Prelude.{ℕ, ℤ, pos, neg_ℤ, ◌*◌, ◌<◌, ◌≤◌, ◌≡◌, true, false, List, [], ◌∷◌, ◌++◌, length}
use Rattle.gw_names.specs.Words.{upper_of}
use Rattle.gw_expr.specs.declared.function.Function.{Function}
use Rattle.gw_expr.specs.declared.function.Point.{Point}
use Rattle.gw_meaning.specs.declared.statement.Definition.TheVariants as definitions
use Rattle.gw_meaning.specs.declared.statement.Body.TheVariants as bodies
use Rattle.gw_meaning.specs.declared.statement.Statement.{Statement}
use Rattle.gw_lines.specs.declared.fault.LineFault.{LineFault}
use Rattle.gw_lines.specs.declared.fault.LineFault.TheVariants as faults
use Rattle.gw_lines.specs.Classes.{are_plain}
use Rattle.gw_lines.specs.Lines.{is_remark}
use Rattle.gw_lines.specs.Pairs.{wants_pairs, may_follow}
use Rattle.gw_lines.specs.Spelling.{Number, Fraction, Written, Cut, Spells}

-- a number without a sign, in millionths
pub data Decimal : List ℕ → ℕ → Type 0 where
  without_point : (text : List ℕ) (n : ℕ) → Number 1000000000 text n → Decimal text (n * 1000000)
  with_point : (text : List ℕ) (n : ℕ) → Fraction 1000000000000000 text n → Decimal text n

-- a number, in millionths
pub data Coordinate : List ℕ → ℤ → Type 0 where
  not_negative : (text : List ℕ) (n : ℕ) → Decimal text n → Coordinate text (pos n)
  negative : (text : List ℕ) (n : ℕ) → Decimal text n → Coordinate (45 ∷ text) (neg_ℤ (pos n))

-- a pair, and the point that it is
pub data Pair : List ℕ → Point → Type 0 where
  a_pair : (x y : List ℕ) (p : Point) → Coordinate x p.x → Coordinate y p.y → Pair (x ++ 44 ∷ y) p

-- pairs with `/` between, and after the last or not; the points before them, and those with theirs. Each may stand
-- after those before it: there is room for it, and its x is above the last one's
pub data Pairs : ℕ → List Point → List ℕ → List Point → Type 0 where
  last_pair : (count : ℕ) (points : List Point) (text : List ℕ) (p : Point) → Pair text p
      → may_follow count points p ≡ true → Pairs count points text (points ++ p ∷ [])
  ended_pair : (count : ℕ) (points : List Point) (text : List ℕ) (p : Point) → Pair text p
      → may_follow count points p ≡ true → Pairs count points (text ++ 47 ∷ []) (points ++ p ∷ [])
  more_pairs : (count : ℕ) (points : List Point) (text : List ℕ) (p : Point) (others : List ℕ) (all : List Point)
      → Pair text p → may_follow count points p ≡ true → Pairs count (points ++ p ∷ []) others all
      → Pairs count points (text ++ 47 ∷ others) all

-- a line that has no statement: a blank one or a comment, not too long
pub record IsRemark (line : List ℕ) : Type 0 where
  pub code : List ℕ
  pub cut : Cut line code
  pub remark : is_remark code ≡ true

-- a line that has more than a comment, not too long, and what is kept of it as of an operand list
pub record HasText (line text : List ℕ) : Type 0 where
  pub code : List ℕ
  pub cut : Cut line code
  pub is_text : is_remark code ≡ false
  pub kept : List ℕ
  pub written : Written code kept
  pub upper : text ≡ upper_of kept

-- a line's pairs make of a statement another: a FUNCTION with their points after its own, whose operands are listed
-- with `|` and the pairs after them
pub record HasPairs (s : Statement) (line : List ℕ) (t : Statement) : Type 0 where
  pub text : List ℕ
  pub has_text : HasText line text
  pub plain : are_plain text ≡ true
  pub function : Function
  pub is_function : s.body ≡ bodies.Definition (definitions.Function function)
  pub points : List Point
  pub pairs : Pairs function.count function.points text points
  pub is : t ≡ record {
    label = s.label;
    body = bodies.Definition (definitions.Function (record function { points = points }));
    operands = s.operands ++ 124 ∷ text;
  }

-- the lines after a statement's first one make of it a statement that wants no pairs; the last of them has pairs
pub data Completes : Statement → List (List ℕ) → Statement → Type 0 where
  complete : (s : Statement) → wants_pairs s ≡ false → Completes s [] s
  past_remark : (s : Statement) (line : List ℕ) (lines : List (List ℕ)) (t : Statement) → wants_pairs s ≡ true
      → IsRemark line → Completes s lines t → Completes s (line ∷ lines) t
  past_pairs : (s : Statement) (line : List ℕ) (lines : List (List ℕ)) (more t : Statement) → wants_pairs s ≡ true
      → HasPairs s line more → Completes more lines t → Completes s (line ∷ lines) t

-- further lines may be a FUNCTION's pairs with some count, from 1 to 1,000: they complete a FUNCTION of that count
-- which has no points yet
pub record MayBePairs (lines : List (List ℕ)) : Type 0 where
  pub function : Function
  pub none_yet : function.points ≡ []
  pub least : 1 ≤ function.count
  pub most : function.count ≤ 1000
  pub first : Statement
  pub is_function : first.body ≡ bodies.Definition (definitions.Function function)
  pub whole : Statement
  pub completes : Completes first lines whole

-- lines spell a statement: the first of them its label, its verb and its operands, the others a FUNCTION's pairs
pub data SpellsLines : List (List ℕ) → Statement → Type 0 where
  spells_lines : (line : List ℕ) (further : List (List ℕ)) (s t : Statement) → Spells line s → Completes s further t
      → SpellsLines (line ∷ further) t

-- the first fault of a line that is to have pairs and is no comment
pub data PairsFault : Statement → List ℕ → LineFault → Type 0 where
  too_long : (s : Statement) (line : List ℕ) → 250 < length line → PairsFault s line faults.TooLong
  wrong_byte : (s : Statement) (line text : List ℕ) → HasText line text → are_plain text ≡ false
      → PairsFault s line faults.BadByte
  bad_pairs : (s : Statement) (line text : List ℕ) → HasText line text → are_plain text ≡ true
      → ((t : Statement) → HasPairs s line t → ⊥) → PairsFault s line faults.BadPairs

-- What stands beside the operands of a verb: the operator in front of them, or the sign after the first of them, which
-- is the last byte of that operand, where another stands before it. (Manual; that a sign alone is none is our own.)
use Rattle.std.specs.Prelude.{◌≡◌, ℕ, ◌-◌, ◌==◌, not, Bool, true, false, List, [], ◌∷◌, ◌++◌, length, take, find, Option, Some, None, slice_get, nat_lt, if◌then◌else◌, codes}
use Rattle.std.specs.Str.{bytes_eq}
use Rattle.gw_names.specs.declared.verb.BlockVerb.TheVariants as blocks
use Rattle.gw_names.specs.declared.verb.Verb.{Verb}
use Rattle.gw_names.specs.declared.verb.Verb.TheVariants as verbs
use Rattle.gw_meaning.specs.declared.auxiliary.Auxiliary.{Auxiliary}
use Rattle.gw_meaning.specs.declared.auxiliary.Auxiliary.TheVariants as auxiliaries
use Rattle.gw_meaning.specs.declared.auxiliary.Condition.TheVariants as conditions
use Rattle.gw_meaning.specs.declared.auxiliary.Switching.TheVariants as switchings
use Rattle.gw_meaning.specs.declared.statement.Body.{Body}
use Rattle.gw_meaning.specs.declared.statement.Body.TheVariants as bodies
use Rattle.gw_lines.specs.declared.class.Class.TheVariants as class
use Rattle.gw_lines.specs.Classes.{front_of, rest_of, word_of, behind_word}
use Rattle.gw_lines.specs.Parts.{parts_of}

-- ---- the operator

-- the operators of each verb: a verb that has none takes no operator
abbrev pub operators : Verb → List Auxiliary
operators (verbs.Block blocks.Test) = auxiliaries.Equal ∷ auxiliaries.NotEqual ∷ auxiliaries.Greater ∷
    auxiliaries.GreaterOrEqual ∷ auxiliaries.Less ∷ auxiliaries.LessOrEqual ∷ []
operators (verbs.Block blocks.Gate) = auxiliaries.Gate conditions.InUse ∷ auxiliaries.Gate conditions.NotInUse ∷
    auxiliaries.Gate conditions.IsSet ∷ auxiliaries.Gate conditions.IsReset ∷ auxiliaries.Gate conditions.Empty ∷
    auxiliaries.Gate conditions.NotEmpty ∷ auxiliaries.Gate conditions.Full ∷
    auxiliaries.Gate conditions.NotFull ∷ []
operators (verbs.Block blocks.Logic) = auxiliaries.Logic switchings.Set ∷ auxiliaries.Logic switchings.Reset ∷
    auxiliaries.Logic switchings.Invert ∷ []
operators verb = []

-- the word of an operator, in upper case
abbrev pub operator_word : Auxiliary → List ℕ
operator_word auxiliaries.Equal = codes "E"
operator_word auxiliaries.NotEqual = codes "NE"
operator_word auxiliaries.Greater = codes "G"
operator_word auxiliaries.GreaterOrEqual = codes "GE"
operator_word auxiliaries.Less = codes "L"
operator_word auxiliaries.LessOrEqual = codes "LE"
operator_word (auxiliaries.Gate conditions.InUse) = codes "U"
operator_word (auxiliaries.Gate conditions.NotInUse) = codes "NU"
operator_word (auxiliaries.Gate conditions.IsSet) = codes "LS"
operator_word (auxiliaries.Gate conditions.IsReset) = codes "LR"
operator_word (auxiliaries.Gate conditions.Empty) = codes "SE"
operator_word (auxiliaries.Gate conditions.NotEmpty) = codes "SNE"
operator_word (auxiliaries.Gate conditions.Full) = codes "SF"
operator_word (auxiliaries.Gate conditions.NotFull) = codes "SNF"
operator_word (auxiliaries.Logic switchings.Set) = codes "S"
operator_word (auxiliaries.Logic switchings.Reset) = codes "R"
operator_word (auxiliaries.Logic switchings.Invert) = codes "I"
operator_word auxiliary = []

-- the verbs that take an operator
abbrev pub takes_operator : Verb → Bool
takes_operator verb = not (length (operators verb) == 0)

-- the operator of the verb with this word, in upper case, if it has one
unfoldable pub operator_of : Verb → List ℕ → Option Auxiliary
operator_of verb word = find (λ o. bytes_eq (operator_word o) word) (operators verb)

-- ---- the sign

-- the verbs that take a sign
abbrev pub takes_sign : Verb → Bool
takes_sign (verbs.Block blocks.Assign) = true
takes_sign (verbs.Block blocks.Savevalue) = true
takes_sign verb = false

-- the last byte of an operand, where another stands before it
abbrev pub last_byte : List ℕ → Option ℕ
last_byte part = if nat_lt 1 (length part) then slice_get part (length part - 1) else None

-- the sign that a byte is
abbrev pub sign_in : Option ℕ → Auxiliary
sign_in None = auxiliaries.Absent
sign_in (Some b) = if b == 43 then auxiliaries.Plus else if b == 45 then auxiliaries.Minus else auxiliaries.Absent

-- the sign after the first operand of a list
abbrev pub sign_of : Verb → List ℕ → Auxiliary
sign_of verb text = if takes_sign verb then sign_in (last_byte (front_of class.Operand text)) else auxiliaries.Absent

-- the list without its sign
abbrev pub cut_off : List ℕ → List ℕ → List ℕ
cut_off part others = take (length part - 1) part ++ others

abbrev pub without_sign : Auxiliary → List ℕ → List ℕ
without_sign auxiliaries.Plus text = cut_off (front_of class.Operand text) (rest_of class.Operand text)
without_sign auxiliaries.Minus text = cut_off (front_of class.Operand text) (rest_of class.Operand text)
without_sign sign text = text

-- ---- either

-- what stands beside a verb's operands in a text: the operator, if the word at the front is one of the verb's, or the
-- sign, which may be absent
abbrev pub auxiliary_of : Verb → List ℕ → Option Auxiliary
auxiliary_of verb text = if takes_operator verb then operator_of verb (word_of text) else Some (sign_of verb text)

-- the operand list without it
abbrev pub bare_of : Verb → List ℕ → List ℕ
bare_of verb text = if takes_operator verb then behind_word text else without_sign (sign_of verb text) text

-- what stands between the commas of a verb's operands
abbrev pub bare_parts : Verb → List ℕ → List (List ℕ)
bare_parts verb text = parts_of (bare_of verb text)

-- a block has what stands beside its operands, and no other statement has such a thing
abbrev pub HasAuxiliary : Body → Auxiliary → Type 0
HasAuxiliary (bodies.Block block) auxiliary = block.auxiliary ≡ auxiliary
HasAuxiliary body auxiliary = Unit {0}

-- Operands that were read, by their places and by what they are. (The operand table of the profile.)
use Rattle.std.specs.Prelude.{ℕ, ℤ, zero, suc, Bool, false, List, [], ◌∷◌, Option, Some, None, option_and_then, is_none, nat_lt}
use Rattle.gw_names.specs.declared.verb.DefinitionVerb.TheVariants as definition_verbs
use Rattle.gw_names.specs.declared.verb.Verb.{Verb}
use Rattle.gw_names.specs.declared.verb.Verb.TheVariants as verbs
use Rattle.gw_expr.specs.declared.atom.Atom.TheVariants as atoms
use Rattle.gw_expr.specs.Term.{Term}
use Rattle.gw_expr.specs.declared.expr.Expr.TheVariants.{Value}
use Rattle.gw_expr.specs.declared.function.FunctionType.{FunctionType}
use Rattle.gw_meaning.specs.Classes.{Scale, scale_of}
use Rattle.gw_lines.specs.declared.operand.Operand.{Operand}
use Rattle.gw_lines.specs.declared.operand.Operand.TheVariants as operands
use Rattle.gw_lines.specs.Parts.{others_of}

-- an operand as a value
abbrev pub value_in : Option Operand → Option Term
value_in (Some (operands.Value term)) = Some term
value_in operand = None

-- an operand as a whole number
abbrev pub whole_in : Option Operand → Option ℕ
whole_in (Some (operands.Whole n)) = Some n
whole_in operand = None

-- an operand as a FUNCTION's type and its number of points
abbrev pub points_in : Option Operand → Option (FunctionType × ℕ)
points_in (Some (operands.Points kind count)) = Some (kind, count)
points_in operand = None

-- an operand as a constant
abbrev pub constant_of : Term → Option ℤ
constant_of (Value (atoms.Constant z)) = Some z
constant_of term = None

abbrev pub constant_in : Option Operand → Option ℤ
constant_in operand = option_and_then constant_of (value_in operand)

-- the operand that stands first
abbrev pub first_of : List (Option Operand) → Option Operand
first_of [] = None
first_of (operand ∷ os) = operand

-- the operand at a place, from 0
abbrev pub place : List (Option Operand) → ℕ → Option Operand
place os zero = first_of os
place os (suc n) = place (others_of os) n

-- the classes of a TABLE that three operands make, if they make some
abbrev pub scale_with : Option ℤ → Option ℕ → Option ℕ → Option Scale
scale_with (Some first) (Some width) (Some count) = scale_of first width count
scale_with first width count = None

abbrev pub classes_in : List (Option Operand) → Option Scale
classes_in (first ∷ (width ∷ (count ∷ os))) = scale_with (constant_in first) (whole_in width) (whole_in count)
classes_in os = None

-- whether so many classes are unlawful: they are fewer than two, or some limit is no value
abbrev pub is_misfit : Option ℤ → Option ℕ → Option ℕ → Bool
is_misfit first width None = false
is_misfit (Some first) (Some width) (Some count) = is_none (scale_of first width count)
is_misfit first width (Some count) = nat_lt count 2

abbrev pub are_misfits : List (Option Operand) → Bool
are_misfits (argument ∷ (first ∷ (width ∷ (count ∷ os)))) =
    is_misfit (constant_in first) (whole_in width) (whole_in count)
are_misfits os = false

-- whether the fourth operand, which is lawful by itself, does not go with those before it: of a TABLE it is the number
-- of the classes
abbrev pub misfits : Verb → List (Option Operand) → Bool
misfits (verbs.Definition definition_verbs.Table) os = are_misfits os
misfits verb os = false

-- What an operand comes to. An evaluation asks for what it wants, and goes on with the reply. (Manual: operands,
-- VARIABLEs and FUNCTIONs. Our own: whole numbers, the order of questions, and how deep definitions may nest.)
use Rattle.std.specs.Prelude.{ℕ, zero, suc, ℤ, Bool, true, false, List, [], ◌∷◌, Option, Some, None, Result, Ok, Err, if◌then◌else◌}
use Rattle.gw_nums.specs.declared.val.ArithmeticFault.{ArithmeticFault}
use Rattle.gw_nums.specs.declared.val.ArithmeticFault.TheVariants as arithmetic_faults
use Rattle.gw_nums.specs.Millionths.{of_value, whole}
use Rattle.gw_nums.specs.Range.{negated}
use Rattle.gw_names.specs.declared.class.Class.{Class}
use Rattle.gw_names.specs.declared.class.Class.TheVariants as class
use Rattle.gw_expr.specs.declared.attribute.Subject.{Subject}
use Rattle.gw_expr.specs.declared.attribute.Subject.TheVariants as subjects
use Rattle.gw_expr.specs.declared.atom.Atom.{Atom}
use Rattle.gw_expr.specs.declared.atom.Atom.TheVariants as atoms
use Rattle.gw_expr.specs.declared.function.Function.{Function}
use Rattle.gw_expr.specs.declared.stop.Stop.{Stop}
use Rattle.gw_expr.specs.declared.stop.Stop.TheVariants.{Range, VariableDepth, ZeroDivisor}
use Rattle.gw_expr.specs.declared.token.Operator.{Operator}
use Rattle.gw_expr.specs.declared.token.Token.{Token}
use Rattle.gw_expr.specs.declared.token.Token.TheVariants as tokens
use Rattle.gw_expr.specs.Arithmetic.{applied}
use Rattle.gw_expr.specs.Expressions.{Expression, Single, Opposite, Both}
use Rattle.gw_expr.specs.Functions.{curve}
use Rattle.gw_expr.specs.Term.{Term}
use Rattle.gw_expr.specs.declared.expr.Expr.TheVariants.{Value, Computed}

-- what may be asked for: the number that a name stands for; an attribute other than that of a VARIABLE or of a
-- FUNCTION; a random number as a part of a million; the expression of a VARIABLE; a FUNCTION
pub data Question : Type 0 where
  NumberOf : List ℕ → Question
  AttributeOf : Class → Subject → Question
  PartOf : Subject → Question
  VariableOf : List ℕ → Question
  FunctionOf : List ℕ → Question

-- what the reply is
abbrev pub Reply : Question → Type 0
Reply (NumberOf name) = Option ℤ
Reply (AttributeOf class of) = ℤ
Reply (PartOf of) = ℤ
Reply (VariableOf name) = Option Term
Reply (FunctionOf name) = Option Function

-- an evaluation has a result, stops, or wants something and goes on with the reply
pub data Evaluation (A : Type 0) : Type 0 where
  Yields : A → Evaluation A
  Stops : Stop → Evaluation A
  Wants : (q : Question) → (Reply q → Evaluation A) → Evaluation A

-- one evaluation, and with its result another
infixl 10 ◌⟫◌
abbrev pub ◌⟫◌ : {A B : Type 0} → Evaluation A → (A → Evaluation B) → Evaluation B
(Yields a) ⟫ f = f a
(Stops stop) ⟫ f = Stops stop
(Wants q k) ⟫ f = Wants q (λ x. k x ⟫ f)

-- the number that a name stands for, where it stands for one
abbrev pub number_given : Option ℤ → Evaluation ℤ
number_given None = Stops Range
number_given (Some n) = Yields n

-- what definitions come to where an expression evaluates them: the VARIABLE of each name, and the FUNCTION of each name
-- in millionths
pub record Definitions : Type 0 where
  pub variable : List ℕ → Evaluation ℤ
  pub function : List ℕ → Evaluation ℤ

-- what the attribute of a VARIABLE comes to
abbrev pub is_of_variable : Class → Bool
is_of_variable class.V = true
is_of_variable class = false

abbrev pub of_variable : Definitions → Subject → Evaluation ℤ
of_variable defined (subjects.Name name) = defined.variable name
of_variable defined subject = Stops Range

-- what the attribute of a FUNCTION comes to: in millionths, and as the greatest value that is not above that
abbrev pub is_of_function : Class → Bool
is_of_function class.Fn = true
is_of_function class = false

abbrev pub of_function : Definitions → Subject → Evaluation ℤ
of_function defined (subjects.Name name) = defined.function name
of_function defined subject = Stops Range

abbrev pub whole_of_function : Definitions → Subject → Evaluation ℤ
whole_of_function defined of = of_function defined of ⟫ (λ y. Yields (whole y))

-- the value of an attribute
abbrev pub value_of_attribute : Definitions → Class → Subject → Evaluation ℤ
value_of_attribute defined class of =
    if is_of_variable class then of_variable defined of
    else (if is_of_function class then whole_of_function defined of else Wants (AttributeOf class of) (λ v. Yields v))

-- the value of a constant, of a name that stands for a number, or of an attribute
unfoldable pub value_of_atom : Definitions → Atom → Evaluation ℤ
value_of_atom defined (atoms.Constant value) = Yields value
value_of_atom defined (atoms.Number name) = Wants (NumberOf name) number_given
value_of_atom defined (atoms.Attribute class of) = value_of_attribute defined class of

-- what an operator comes to: a value, or the stop that says why there is none
abbrev pub arithmetic : Result ℤ ArithmeticFault → Evaluation ℤ
arithmetic (Ok z) = Yields z
arithmetic (Err arithmetic_faults.Range) = Stops Range
arithmetic (Err arithmetic_faults.ZeroDivisor) = Stops ZeroDivisor

-- the value of an expression: of two operands the left one comes first
abbrev pub value_of_expression : Definitions → Expression → Evaluation ℤ
value_of_expression defined (Single atom) = value_of_atom defined atom
value_of_expression defined (Opposite e) = value_of_expression defined e ⟫ (λ v. Yields (negated v))
value_of_expression defined (Both operator left right) =
    value_of_expression defined left
    ⟫ (λ a. value_of_expression defined right ⟫ (λ b. arithmetic (applied operator a b)))

-- An expression is kept in postfix order, and evaluated by the values that wait for their operator, the last one first:
-- this comes to the value of the expression.

-- the last value with the other sign, and what an operator makes of the last two; no expression lacks them
abbrev pub negated_last : List ℤ → Evaluation (List ℤ)
negated_last [] = Stops Range
negated_last (v ∷ values) = Yields (negated v ∷ values)

abbrev pub applied_last : Operator → List ℤ → Evaluation (List ℤ)
applied_last operator [] = Stops Range
applied_last operator (b ∷ []) = Stops Range
applied_last operator (b ∷ a ∷ values) = arithmetic (applied operator a b) ⟫ (λ v. Yields (v ∷ values))

-- what a part of an expression makes of the values that wait
abbrev pub after_token : Definitions → Token → List ℤ → Evaluation (List ℤ)
after_token defined (tokens.Value atom) values = value_of_atom defined atom ⟫ (λ v. Yields (v ∷ values))
after_token defined tokens.Negated values = negated_last values
after_token defined (tokens.Applied operator) values = applied_last operator values

abbrev pub after_tokens : Definitions → List Token → List ℤ → Evaluation (List ℤ)
after_tokens defined [] values = Yields values
after_tokens defined (t ∷ ts) values = after_token defined t values ⟫ (λ more. after_tokens defined ts more)

-- the value that is left
abbrev pub last_value : List ℤ → Evaluation ℤ
last_value [] = Stops Range
last_value (v ∷ values) = Yields v

-- the value of an operand, by what definitions come to; an entity, a label, a fraction and a definition have none, and
-- no form lets one stand for a value
unfoldable pub value_by : Definitions → Term → Evaluation ℤ
value_by defined (Value atom) = value_of_atom defined atom
value_by defined (Computed ts) = after_tokens defined ts [] ⟫ last_value
value_by defined term = Stops Range

-- the value of the expression of a VARIABLE, where there is one
abbrev pub expression_given : (Term → Evaluation ℤ) → Option Term → Evaluation ℤ
expression_given value None = Stops Range
expression_given value (Some expression) = value expression

-- the stream of the random number that is the whole operand, if it is one
abbrev pub is_random : Class → Bool
is_random class.Rn = true
is_random class = false

abbrev pub random_of : Term → Option Subject
random_of (Value (atoms.Attribute class of)) = if is_random class then Some of else None
random_of term = None

-- the argument of a FUNCTION, in millionths: such a random number as a part of a million, and else a value
abbrev pub argument_with : Definitions → Term → Option Subject → Evaluation ℤ
argument_with defined argument None = value_by defined argument ⟫ (λ v. Yields (of_value v))
argument_with defined argument (Some of) = Wants (PartOf of) (λ x. Yields x)

unfoldable pub argument_by : Definitions → Term → Evaluation ℤ
argument_by defined argument = argument_with defined argument (random_of argument)

-- what a FUNCTION comes to at its argument, where there is one and it has a point
abbrev pub point_found : Option ℤ → Evaluation ℤ
point_found None = Stops Range
point_found (Some y) = Yields y

abbrev pub function_given : (Term → Evaluation ℤ) → Option Function → Evaluation ℤ
function_given argument None = Stops Range
function_given argument (Some f) = argument f.argument ⟫ (λ x. point_found (curve f x))

-- what the definition of a name comes to: a VARIABLE's expression or a FUNCTION is asked for and evaluated at that
-- moment, for whoever asks. So many may nest here, this one counted; one more stops before it is asked for
unfoldable pub definitions_within : ℕ → Definitions
definitions_within zero = record {
  variable = λ name. Stops VariableDepth;
  function = λ name. Stops VariableDepth;
}
definitions_within (suc depth) = record {
  variable = λ name. Wants (VariableOf name) (expression_given (value_by (definitions_within depth)));
  function = λ name. Wants (FunctionOf name) (function_given (argument_by (definitions_within depth)));
}

-- how many VARIABLEs and FUNCTIONs may nest
abbrev pub DEEPEST : ℕ
DEEPEST = 32

-- the value of an operand
unfoldable pub value_of : Term → Evaluation ℤ
value_of operand = value_by (definitions_within DEEPEST) operand

-- what the FUNCTION that an attribute names comes to, in millionths
unfoldable pub function_of : Subject → Evaluation ℤ
function_of of = of_function (definitions_within DEEPEST) of

-- An expression of constants comes to one result.
use Rattle.std.proofs.Common.{◌≡◌, ℤ, Result, Ok, Err, refl}
use Rattle.gw_nums.specs.declared.val.ArithmeticFault.{ArithmeticFault}
use Rattle.gw_nums.specs.declared.val.ArithmeticFault.TheVariants as arithmetic_faults
use Rattle.gw_nums.specs.Range.{negated}
use Rattle.gw_expr.specs.Arithmetic.{applied}
use Rattle.gw_expr.specs.Expressions.{Single, Opposite, Both}
use Rattle.gw_expr.specs.declared.atom.Atom.TheVariants as atoms
use Rattle.gw_expr.specs.declared.stop.Stop.{Stop}
use Rattle.gw_expr.specs.declared.stop.Stop.TheVariants as stops
use Rattle.gw_expr.specs.Evaluation.{Evaluation, ◌⟫◌, Definitions, value_of_atom, arithmetic}
use Rattle.gw_expr.specs.Laws.{comes_to, ConstantsHangOnNothing}

-- an evaluation comes to one result, whatever the definitions come to
abbrev Settled : (Definitions → Evaluation ℤ) → Type 0
Settled p = (r : Result ℤ Stop) × ((defined : Definitions) → p defined ≡ comes_to r)

-- one evaluation and then another, which hangs on what the first gives alone
settled_then : (p : Definitions → Evaluation ℤ) (f : Definitions → ℤ → Evaluation ℤ) → Settled p →
    ((z : ℤ) → Settled (λ defined. f defined z)) → Settled (λ defined. p defined ⟫ f defined)
settled_then p f (Ok z, first) second = ((second z).0, λ defined. rw (first defined) ((second z).1 defined))
settled_then p f (Err stop, first) second = (Err stop, λ defined. rw (first defined))

settled_arithmetic : (r : Result ℤ ArithmeticFault) → Settled (λ defined. arithmetic r)
settled_arithmetic (Ok z) = (Ok z, λ defined. refl)
settled_arithmetic (Err arithmetic_faults.Range) = (Err stops.Range, λ defined. refl)
settled_arithmetic (Err arithmetic_faults.ZeroDivisor) = (Err stops.ZeroDivisor, λ defined. refl)

pub constants_settle : ConstantsHangOnNothing
unfolding value_of_atom
constants_settle (Single (atoms.Constant z)) is = (Ok z, λ defined. refl)
constants_settle (Single (atoms.Number name)) is = absurd is
constants_settle (Single (atoms.Attribute class of)) is = absurd is
constants_settle (Opposite e) is = settled_then _ _ (constants_settle e is) (λ z. (Ok (negated z), λ defined. refl))
constants_settle (Both operator left right) is =
    settled_then _ _ (constants_settle left is.0) (λ a. settled_then _ _ (constants_settle right is.1) (λ b. settled_arithmetic (applied operator a b)))

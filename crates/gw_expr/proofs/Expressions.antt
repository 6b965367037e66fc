-- An expression in postfix order has the value of the expression.
use Rattle.std.proofs.Common.{◌≡◌, ℤ, List, [], ◌∷◌, ◌++◌, refl, append_assoc, append-nil}
use Rattle.gw_expr.specs.declared.token.Token.{Token}
use Rattle.gw_expr.specs.Evaluation.{Reply, Evaluation, Yields, Stops, Wants, ◌⟫◌, Definitions, after_tokens, DEEPEST, value_by, definitions_within, value_of, value_of_expression}
use Rattle.gw_expr.specs.Expressions.{Expression, Single, Opposite, Both, postfix}
use Rattle.gw_expr.specs.declared.expr.Expr.TheVariants.{Computed}

-- one evaluation, then another, then a third
pub then_assoc : {A B C : Type 0} (p : Evaluation A) (f : A → Evaluation B) (g : B → Evaluation C) → ((p ⟫ f) ⟫ g) ≡ (p ⟫ (λ a. f a ⟫ g))
then_assoc (Yields a) f g = refl
then_assoc (Stops stop) f g = refl
then_assoc (Wants q k) f g = simp (λ (x : Reply q). then_assoc (k x) f g)

-- one evaluation, and then its own result
then_yields : {A : Type 0} (p : Evaluation A) → (p ⟫ (λ a. Yields a)) ≡ p
then_yields (Yields a) = refl
then_yields (Stops stop) = refl
then_yields (Wants q k) = simp (λ (x : Reply q). then_yields (k x))

module _ (defined : Definitions) where
  -- parts, and others after them
  pub parts_then : (ts us : List Token) (values : List ℤ) → after_tokens defined (ts ++ us) values ≡
      (after_tokens defined ts values ⟫ (λ more. after_tokens defined us more))
  parts_then [] us values = refl
  parts_then (t ∷ ts) us values = simp (then_assoc, parts_then ts us)

  -- an expression in postfix order, and the rest after it
  expression_then : (e : Expression) (us : List Token) (values : List ℤ) →
      after_tokens defined (postfix e ++ us) values ≡ (value_of_expression defined e ⟫ (λ v. after_tokens defined us (v ∷ values)))
  expression_then (Single atom) us values = simp then_assoc
  expression_then (Opposite e) us values = simp (append_assoc, then_assoc, expression_then e)
  expression_then (Both operator left right) us values = simp (append_assoc, then_assoc, expression_then left, expression_then right)

  pub nested_value : (e : Expression) → value_by defined (Computed (postfix e)) ≡ value_of_expression defined e
  unfolding value_by
  nested_value e = rw (← append-nil (postfix e), expression_then e, then_assoc, then_yields)

pub expression_value : (e : Expression) → value_of (Computed (postfix e)) ≡ value_of_expression (definitions_within DEEPEST) e
unfolding value_of
expression_value = nested_value (definitions_within DEEPEST)

-- Evaluations one after the other, and the exit of a function that evaluates.
use Rattle.std.proofs.Common.{◌≡◌, Result, Ok, Err, IsErrAnd, ap}
use Rattle.gw_expr.specs.declared.halt.Halt.{Halt}
use Rattle.gw_expr.specs.declared.halt.End.TheVariants as ends
use Rattle.gw_expr.specs.declared.halt.Halt.TheVariants as halts
use Rattle.gw_expr.specs.Evaluation.{Question, Reply, Evaluation, Yields, Wants, ◌⟫◌}
use Rattle.gw_expr.specs.Worlds.{Evaluates, yields, stops, refused, replied, failed, Comes}

-- the exit by `?` with a fault
pub exit_fault : {A : Type 0} {r : Result A Halt} {fault : Halt} → IsErrAnd r (λ e. e ≡ fault) → r ≡ Err fault
exit_fault {r = Ok a} is = absurd is
exit_fault {r = Err e} is = ap (λ f. Err f) is

module _ {W : Type 0} {says : (q : Question) → Reply q → Type 0} {replies : (q : Question) → W → Result (Reply q) Halt → W → Type 0} where
  -- the same evaluation under another name
  pub evaluates_as : {A : Type 0} {p q : Evaluation A} {r : Result A Halt} {xs ys : W} → q ≡ p → Evaluates says replies p r xs ys →
      Evaluates says replies q r xs ys
  evaluates_as same h = rw same h

  -- one evaluation gave a, and then the other came to r
  pub then_goes : {A B : Type 0} {p : Evaluation A} {a : A} {r : Result B Halt} {xs ys zs : W} (k : A → Evaluation B) →
      Evaluates says replies p (Ok a) xs ys → Evaluates says replies (k a) r ys zs → Evaluates says replies (p ⟫ k) r xs zs
  then_goes k (yields a world) second = second
  then_goes k (replied q f reply x old between new said there rest) second = replied q _ reply _ old between _ said there (then_goes k rest second)

  -- one evaluation came to a fault, and so did both
  pub then_fails : {A B : Type 0} {p : Evaluation A} {fault : Halt} {xs ys : W} (k : A → Evaluation B) →
      Evaluates says replies p (Err fault) xs ys → Evaluates says replies (p ⟫ k) (Err fault) xs ys
  then_fails k (stops stop world) = stops stop world
  then_fails k (refused p world) = refused _ world
  then_fails k (replied q f reply x old between new said there rest) = replied q _ reply _ old between new said there (then_fails k rest)
  then_fails k (failed q f fault old new there) = failed q _ fault old new there

  -- what asks for nothing
  pub goes_comes : {A : Type 0} {p : Evaluation A} (r : Result A Halt) {xs : W} → Comes p r → Evaluates says replies p r xs xs
  goes_comes (Ok a) is = evaluates_as is (yields a _)
  goes_comes (Err (halts.End (ends.Error stop))) is = evaluates_as is (stops stop _)
  goes_comes (Err (halts.End ends.CommandsDone)) is = absurd is
  goes_comes (Err (halts.End ends.Horizon)) is = absurd is
  goes_comes (Err (halts.End ends.Dry)) is = absurd is
  goes_comes (Err halts.Memory) is = absurd is

  -- what a question got is all that is wanted
  pub goes_asked : {q : Question} (r : Result (Reply q) Halt) {xs ys : W} → ((reply : Reply q) → says q reply) → replies q xs r ys →
      Evaluates says replies (Wants q (λ reply. Yields reply)) r xs ys
  goes_asked (Ok reply) said there = replied _ _ reply _ _ _ _ (said reply) there (yields reply _)
  goes_asked (Err fault) said there = failed _ _ fault _ _ there

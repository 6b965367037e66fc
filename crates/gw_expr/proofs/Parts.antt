-- What the parts of an expression come to, one after the other.
use Rattle.std.proofs.Common.{◌≡◌, ℕ, ◌+◌, ◌<◌, ◌≤◌, ℤ, List, ◌∷◌, take, drop, get_or, length, Result, Ok, Err}
use Rattle.std.proofs.lemmas.List.{take_more, drop_more, take_all, take-append-drop}
use Rattle.gw_expr.specs.declared.atom.Atom.{Atom}
use Rattle.gw_expr.specs.declared.halt.Halt.{Halt}
use Rattle.gw_expr.specs.declared.token.Token.{Token}
use Rattle.gw_expr.specs.declared.token.Token.TheVariants as tokens
use Rattle.gw_expr.specs.Evaluation.{Question, Reply, Definitions, value_of_atom, after_token, after_tokens, last_value, ◌⟫◌}
use Rattle.gw_expr.specs.Worlds.{Evaluates, Comes, yields}
use Rattle.gw_expr.proofs.Expressions.{parts_then, then_assoc}
use Rattle.gw_expr.proofs.Worlds.{then_goes, then_fails, goes_comes}

module _ {W : Type 0} {says : (q : Question) → Reply q → Type 0} {replies : (q : Question) → W → Result (Reply q) Halt → W → Type 0}
    (defined : Definitions) (values : List ℤ) where
  -- a part is a value, which goes in front of those that wait
  pub value_goes : {t : Token} {atom : Atom} {more : List ℤ} {v : ℤ} {xs ys : W} → t ≡ tokens.Value atom → more ≡ v ∷ values →
      Evaluates says replies (value_of_atom defined atom) (Ok v) xs ys → Evaluates says replies (after_token defined t values) (Ok more) xs ys
  value_goes is waits h = rw (is, waits) (then_goes _ h (yields _ _))

  -- it has no value
  pub value_fails : {t : Token} {atom : Atom} {fault : Halt} {xs ys : W} → t ≡ tokens.Value atom →
      Evaluates says replies (value_of_atom defined atom) (Err fault) xs ys → Evaluates says replies (after_token defined t values) (Err fault) xs ys
  value_fails is h = rw is (then_fails _ h)

-- of the few values that waited, the first i parts made these
pub record HaveLeft {W : Type 0} (says : (q : Question) → Reply q → Type 0) (replies : (q : Question) → W → Result (Reply q) Halt → W → Type 0)
    (defined : Definitions) (ts : List Token) (few : List ℤ) (xs : W) (i : ℕ) (values : List ℤ) (ys : W) : Type 0 where
  pub so_far : Evaluates says replies (after_tokens defined (take i ts) few) (Ok values) xs ys

module _ {W : Type 0} {says : (q : Question) → Reply q → Type 0} {replies : (q : Question) → W → Result (Reply q) Halt → W → Type 0}
    {defined : Definitions} {ts : List Token} {few values : List ℤ} {xs ys : W} {i : ℕ} (left : HaveLeft says replies defined ts few xs i values ys) where
  -- what those after them come to is what all come to
  pub rest_goes : {r : Result ℤ Halt} {zs : W} → Evaluates says replies (after_tokens defined (drop i ts) values ⟫ last_value) r ys zs →
      Evaluates says replies (after_tokens defined ts few ⟫ last_value) r xs zs
  rest_goes h = rw (← take-append-drop i ts, parts_then, then_assoc) (then_goes _ left.so_far h)

  -- the next part fails
  pub part_fails : {t : Token} {fault : Halt} {zs : W} → i < length ts → t ≡ get_or ts i t →
      Evaluates says replies (after_token defined t values) (Err fault) ys zs →
      Evaluates says replies (after_tokens defined ts few ⟫ last_value) (Err fault) xs zs
  part_fails {t} there is h = rest_goes (rw (drop_more ts i t there, ← is) (then_fails _ (then_fails _ h)))

  -- it leaves other values
  pub part_goes : {t : Token} {more : List ℤ} {zs : W} → i < length ts → t ≡ get_or ts i t →
      Evaluates says replies (after_token defined t values) (Ok more) ys zs → HaveLeft says replies defined ts few xs (i + 1) more zs
  part_goes {t} there is h =
      record { so_far = rw (take_more ts i t there, ← is, parts_then) (then_goes _ left.so_far (then_goes _ h (yields _ _))) }

  -- there is no next part
  pub parts_end : {r : Result ℤ Halt} → length ts ≤ i → Comes (last_value values) r →
      Evaluates says replies (after_tokens defined ts few ⟫ last_value) r xs ys
  parts_end all is = then_goes _ (rw take_all at left.so_far) (goes_comes _ is)

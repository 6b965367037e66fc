-- A list that a test parts in two, halved at a place.
use Rattle.std.proofs.Common.{◌≡◌, ℕ, ◌+◌, ◌<◌, ◌≤◌, Bool, true, false, List, length, get_or, slice_get, Some, refl, sym, ap, ◌∙◌, arith}
use mathlib.Core.Bool.{true≢false}
use Rattle.std.specs.List.{AllWithin}
use Rattle.std.specs.List.Sorted.{IsPartitionedBy}
use Rattle.std.proofs.lemmas.Option.{slice_get_within, get_or_from_slice_get}

module _ {X : Type 0} (p : X → Bool) (xs : List X) (parts : IsPartitionedBy p xs) (i : ℕ) (x : X) (at : slice_get xs i ≡ Some x) where
  here : (d : X) → get_or xs i d ≡ x
  here d = get_or_from_slice_get xs i x d at

  -- where it passes there, it passes up to there
  pub passes_until : p x ≡ true → AllWithin (λ (y : X). p y ≡ true) xs 0 (i + 1)
  passes_until good = λ k d from to. parts k i d (omega (arith, to)) (slice_get_within xs i x at) (ap p (here d) ∙ good)

  -- where it fails there, it fails from there on
  pub fails_from : p x ≡ false → AllWithin (λ (y : X). p y ≡ false) xs i (length xs)
  fails_from bad = λ k d from to. go (p (get_or xs k d)) k d refl from to where
    go : (b : Bool) → (k : ℕ) (d : X) → p (get_or xs k d) ≡ b → i ≤ k → k < length xs → p (get_or xs k d) ≡ false
    go false k d e from to = e
    go true k d e from to = absurd (true≢false (sym (parts i k d from to e) ∙ (ap p (here d) ∙ bad)))

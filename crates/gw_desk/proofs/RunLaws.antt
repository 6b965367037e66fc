-- The recorded runs by their replications' numbers, and one of them with another run.
use Rattle.std.proofs.Common.{◌≡◌, ℕ, zero, suc, ◌<◌, ◌==◌, Bool, true, false, cond, List, [], ◌∷◌, length, get_or, set, Some, refl, arith}
use Rattle.std.proofs.lemmas.Bool.Decides.{nat_tests}
use Rattle.gw_desk.specs.declared.recording.Recording.{Recording}
use Rattle.gw_desk.specs.Book.{run_in}

-- the first with the number
pub run_in_at : (runs : List Recording) (number i : ℕ) (d : Recording) → i < length runs → ((get_or runs i d).number == number) ≡ true →
    ((k : ℕ) → k < i → ((get_or runs k d).number == number) ≡ false) → run_in runs number ≡ Some (get_or runs i d).run
run_in_at [] number i d within here before = absurd (omega (arith, within))
run_in_at (r ∷ rs) number zero d within here before = rw here refl
run_in_at (r ∷ rs) number (suc i) d within here before =
    let other : (r.number == number) ≡ false = before 0 (omega arith) in
    rw other (run_in_at rs number i d (omega (arith, within)) here (λ k less. before (suc k) (omega (arith, less))))

-- with another run there
pub run_in_set : (runs : List Recording) (number i : ℕ) (d new : Recording) → i < length runs → ((get_or runs i d).number == number) ≡ true →
    ((k : ℕ) → k < i → ((get_or runs k d).number == number) ≡ false) → new.number ≡ number → (n : ℕ) →
    run_in (set runs i new) n ≡ cond (number == n) (Some new.run) (run_in runs n)
run_in_set [] number i d new within here before same n = absurd (omega (arith, within))
run_in_set (r ∷ rs) number zero d new within here before same n = go (number == n) refl where
  go : (b : Bool) → (number == n) ≡ b → cond (new.number == n) (Some new.run) (run_in rs n) ≡
      cond b (Some new.run) (cond (r.number == n) (Some r.run) (run_in rs n))
  go true e = let at : (new.number == n) ≡ true = grind (arith, nat_tests) in rw at refl
  go false e =
      let a : (new.number == n) ≡ false = grind (arith, nat_tests) in
      let b : (r.number == n) ≡ false = grind (arith, nat_tests) in
      rw (a, b) refl
run_in_set (r ∷ rs) number (suc i) d new within here before same n =
    let other : (r.number == number) ≡ false = before 0 (omega arith) in
    let rest = run_in_set rs number i d new (omega (arith, within)) here (λ k less. before (suc k) (omega (arith, less))) same n in
    go (r.number == n) refl (number == n) refl other rest where
      go : (a : Bool) → (r.number == n) ≡ a → (b : Bool) → (number == n) ≡ b → (r.number == number) ≡ false →
          run_in (set rs i new) n ≡ cond b (Some new.run) (run_in rs n) →
          cond a (Some r.run) (run_in (set rs i new) n) ≡ cond b (Some new.run) (cond a (Some r.run) (run_in rs n))
      go true e true f other rest = absurd (grind (arith, nat_tests))
      go true e false f other rest = refl
      go false e true f other rest = rest
      go false e false f other rest = rest

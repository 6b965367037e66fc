-- The seed of a replication where another one has another seed, is added or is dropped.
use Rattle.std.proofs.Common.{◌≡◌, ℕ, Bool, true, false, cond, not, List, [], ◌∷◌, ◌++◌, Some, None, ◌==◌, refl, ap, sym, subst, ⊎_elim}
use Rattle.std.proofs.lemmas.Bool.{cases_Bool, eqb-true}
use Rattle.gw_meaning.specs.declared.statement.Replication.{Replication}
use Rattle.gw_meaning.specs.Listing.{seed_in}
use Rattle.gw_edit.specs.Applied.{reseeded, without_number}

-- one is added after
pub seed_in_front : (rs more : List Replication) (number seed : ℕ) → seed_in rs number ≡ Some seed → seed_in (rs ++ more) number ≡ Some seed
seed_in_front [] more number seed h = absurd cc
seed_in_front (r ∷ rs) more number seed h =
    (elim (r.number == number) as (λ b. cond b (Some r.seed) (seed_in rs number) ≡ Some seed → cond b (Some r.seed) (seed_in (rs ++ more) number) ≡ Some seed)
    [ true ↦ λ here. here | false ↦ λ rest. seed_in_front rs more number seed rest ]) h

-- one has another seed: the others have theirs
pub seed_reseeded : (rs : List Replication) (number seed other : ℕ) → (number == other) ≡ false → seed_in (reseeded number seed rs) other ≡ seed_in rs other
seed_reseeded [] number seed other apart = refl
seed_reseeded (r ∷ rs) number seed other apart = go (r.number == number) refl (seed_reseeded rs number seed other apart) where
  go : (b : Bool) → (r.number == number) ≡ b → seed_in (reseeded number seed rs) other ≡ seed_in rs other →
      seed_in (cond b (record { number = number; seed = seed }) r ∷ reseeded number seed rs) other ≡ cond (r.number == other) (Some r.seed) (seed_in rs other)
  go true same rest =
      let not_here : (r.number == other) ≡ false = subst (λ (n : ℕ). (n == other) ≡ false) (sym (eqb-true r.number number same)) apart in
      rw (apart, not_here) rest
  go false differs rest = ap (λ o. cond (r.number == other) (Some r.seed) o) rest

-- one is dropped: its number has no seed, and the others have theirs
pub seed_gone : (rs : List Replication) (number : ℕ) → seed_in (without_number number rs) number ≡ None
seed_gone [] number = refl
seed_gone (r ∷ rs) number =
    ⊎_elim
    (λ (same : (r.number == number) ≡ true).
    subst (λ (b : Bool). seed_in (cond (not b) (r ∷ without_number number rs) (without_number number rs)) number ≡ None) (sym same) (seed_gone rs number))
    (λ (other : (r.number == number) ≡ false).
    subst (λ (b : Bool). seed_in (cond (not b) (r ∷ without_number number rs) (without_number number rs)) number ≡ None) (sym other)
    (subst (λ (b : Bool). cond b (Some r.seed) (seed_in (without_number number rs) number) ≡ None) (sym other) (seed_gone rs number)))
    (cases_Bool (r.number == number))

pub seed_left : (rs : List Replication) (gone number : ℕ) → (gone == number) ≡ false → seed_in (without_number gone rs) number ≡ seed_in rs number
seed_left [] gone number other = refl
seed_left (r ∷ rs) gone number other =
    ⊎_elim
    (λ (same : (r.number == gone) ≡ true).
    let apart : (r.number == number) ≡ false = subst (λ (n : ℕ). (n == number) ≡ false) (sym (eqb-true r.number gone same)) other in
    subst (λ (b : Bool). seed_in (cond (not b) (r ∷ without_number gone rs) (without_number gone rs)) number ≡ seed_in (r ∷ rs) number) (sym same)
    (subst (λ (b : Bool). seed_in (without_number gone rs) number ≡ cond b (Some r.seed) (seed_in rs number)) (sym apart) (seed_left rs gone number other)))
    (λ (kept : (r.number == gone) ≡ false).
    subst (λ (b : Bool). seed_in (cond (not b) (r ∷ without_number gone rs) (without_number gone rs)) number ≡ seed_in (r ∷ rs) number) (sym kept)
    (ap (λ o. cond (r.number == number) (Some r.seed) o) (seed_left rs gone number other)))
    (cases_Bool (r.number == gone))

pub seed_without : (rs : List Replication) (gone number a b : ℕ) → seed_in rs number ≡ Some a → seed_in (without_number gone rs) number ≡ Some b → b ≡ a
seed_without rs gone number a b was is =
    ⊎_elim
    (λ (same : (gone == number) ≡ true).
    let none : seed_in (without_number number rs) number ≡ None = seed_gone rs number in
    let some : seed_in (without_number number rs) number ≡ Some b =
    subst (λ (n : ℕ). seed_in (without_number n rs) number ≡ Some b) (eqb-true gone number same) is in
    absurd cc)
    (λ (other : (gone == number) ≡ false).
    let left : seed_in (without_number gone rs) number ≡ seed_in rs number = seed_left rs gone number other in
    cc)
    (cases_Bool (gone == number))

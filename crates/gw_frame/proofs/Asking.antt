-- A program of questions depends only on the answers.
use Rattle.std.proofs.Common.{◌≡◌, ℕ, ◌∷◌, refl, ap, ap₂}
use Rattle.std.specs.List.{AllByRecursion}
use Rattle.std.proofs.lemmas.List.Elements.{recursion_from_All}
use Rattle.gw_meaning.specs.Listing.{Listing}
use Rattle.gw_meaning.specs.Questions.{ask, Prog, Gives, Ends, Asks, result_of, items_of}
use Rattle.gw_meaning.specs.Step.{step_prog, run_prog, items_if_moved}
use Rattle.gw_frame.specs.Alike.{SameAnswer, AnswersAlike, UnseenEdit, UnseenStep}

-- each answer asked for is the same
asks_alike : {A : Type 0} (t : Listing) (seed : ℕ) (u : Listing) (new_seed : ℕ) (p : Prog A) →
    AllByRecursion (SameAnswer t seed u new_seed) (items_of t seed p) → (result_of u new_seed p ≡ result_of t seed p) ×
    (items_of u new_seed p ≡ items_of t seed p)
asks_alike t seed u new_seed (Gives a) h = (refl, refl)
asks_alike t seed u new_seed (Ends end) h = (refl, refl)
asks_alike t seed u new_seed (Asks i k) h =
    let rest = asks_alike t seed u new_seed (k (ask t seed i)) h.1 in
    rw h.0 (rest.0, ap (λ is. i ∷ is) rest.1)

-- a program that is answered alike comes to the same and asks the same
pub same_answers : {A : Type 0} (t : Listing) (seed : ℕ) (u : Listing) (new_seed : ℕ) (p : Prog A) → AnswersAlike t seed u new_seed (items_of t seed p) →
    (result_of u new_seed p ≡ result_of t seed p) × (items_of u new_seed p ≡ items_of t seed p)
same_answers t seed u new_seed p h = asks_alike t seed u new_seed p (recursion_from_All (SameAnswer t seed u new_seed) (items_of t seed p) h)

pub unseen_edit : UnseenEdit
unseen_edit t seed u new_seed n h = same_answers t seed u new_seed (run_prog n) h

pub unseen_step : UnseenStep
unseen_step t seed u new_seed s h =
    let same = same_answers t seed u new_seed (step_prog s) h in
    (same.0, same.1, ap₂ items_if_moved same.0 same.1)

-- What it is for two versions, each with its seed, to answer a question alike; and the law that a run depends only on
-- what it asked. (Our own.)
use Rattle.std.specs.Prelude.{◌≡◌, ℕ, List, All}
use Rattle.gw_meaning.specs.declared.item.Item.{Item}
use Rattle.gw_meaning.specs.Listing.{Listing}
use Rattle.gw_meaning.specs.Machine.{Machine}
use Rattle.gw_meaning.specs.Questions.{ask, items_of}
use Rattle.gw_meaning.specs.Step.{step, step_prog, step_items, run, run_prog}

-- the second version answers a question as the first does
abbrev pub SameAnswer : Listing → ℕ → Listing → ℕ → Item → Type 0
SameAnswer t seed u new_seed i = ask u new_seed i ≡ ask t seed i

-- it answers each of these questions as the first does
abbrev pub AnswersAlike : Listing → ℕ → Listing → ℕ → List Item → Type 0
AnswersAlike t seed u new_seed asked = All (SameAnswer t seed u new_seed) asked

-- a version that answers alike all that a run asks has the same run, and is asked the same
abbrev pub UnseenEdit : Type 0
UnseenEdit =
    (t : Listing) (seed : ℕ) (u : Listing) (new_seed n : ℕ) →
    AnswersAlike t seed u new_seed (items_of t seed (run_prog n)) →
    (run u new_seed n ≡ run t seed n) × (items_of u new_seed (run_prog n) ≡ items_of t seed (run_prog n))

-- the same of one step from any state: it comes to the same, asks the same and reads the same
abbrev pub UnseenStep : Type 0
UnseenStep =
    (t : Listing) (seed : ℕ) (u : Listing) (new_seed : ℕ) (s : Machine) →
    AnswersAlike t seed u new_seed (items_of t seed (step_prog s)) →
    (step u new_seed s ≡ step t seed s) × (items_of u new_seed (step_prog s) ≡ items_of t seed (step_prog s)) ×
    (step_items u new_seed s ≡ step_items t seed s)

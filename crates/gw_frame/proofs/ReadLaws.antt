-- The run, step by step: what it asked, and what a version does that answers alike.
use Rattle.std.proofs.Common.{◌≡◌, ℕ, zero, suc, List, ◌++◌, Result, Ok, Err, refl, ap, sym, subst, ◌∙◌, arith, below_more}
use Rattle.gw_meaning.specs.declared.item.Item.{Item}
use Rattle.gw_expr.specs.declared.halt.End.{End}
use Rattle.gw_meaning.specs.Listing.{Listing}
use Rattle.gw_meaning.specs.Machine.{Machine}
use Rattle.gw_meaning.specs.Questions.{items_of}
use Rattle.gw_meaning.specs.Step.{step, step_prog, step_items, items_if_moved, run, run_prog}
use Rattle.gw_frame.specs.Alike.{AnswersAlike}
use Rattle.gw_meaning.specs.Reads.{read_from, reads}
use Rattle.gw_frame.specs.Reads.{reads_below, RunAsksItsReads, UnseenStepReads, UnseenReads}
use Rattle.gw_meaning.proofs.Programs.{bind_gives, bind_ends, run_on}
use Rattle.gw_frame.proofs.Asking.{same_answers}

-- a run of one step more came to a state before
pub run_before : (t : Listing) (seed n : ℕ) (v : Machine) → run t seed (suc n) ≡ Ok v → (s : Machine) × (run t seed n ≡ Ok s)
run_before t seed n v is = go (run t seed n) refl where
  go : (r : Result Machine End) → run t seed n ≡ r → (s : Machine) × (run t seed n ≡ Ok s)
  go (Ok s) there = (s, there)
  go (Err end) there = absurd (let whole : Err end ≡ Ok v = sym (bind_ends t seed (run_prog n) step_prog end there).0 ∙ is in cc)

-- a step that comes to a state reads what it asks
pub step_reads : (t : Listing) (seed : ℕ) (s v : Machine) → step t seed s ≡ Ok v → step_items t seed s ≡ items_of t seed (step_prog s)
step_reads t seed s v is = ap (λ r. items_if_moved r (items_of t seed (step_prog s))) is

-- what step n reads, by the state before it
pub reads_there : (t : Listing) (seed n : ℕ) (s : Machine) → run t seed n ≡ Ok s → reads t seed n ≡ step_items t seed s
reads_there t seed n s there = ap (read_from t seed) there

pub run_asks_its_reads : RunAsksItsReads
run_asks_its_reads t seed zero s there = refl
run_asks_its_reads t seed (suc n) v is =
    let before = run_before t seed n v is in
    let goes : step t seed before.0 ≡ Ok v = sym (run_on t seed n before.0 before.1) ∙ is in
    let last : items_of t seed (step_prog before.0) ≡ reads t seed n = sym (step_reads t seed before.0 v goes) ∙ sym (reads_there t seed n before.0 before.1) in
    (bind_gives t seed (run_prog n) step_prog before.0 before.1).1 ∙
    (ap (λ is. is ++ items_of t seed (step_prog before.0)) (run_asks_its_reads t seed n before.0 before.1) ∙ ap (λ is. reads_below t seed n ++ is) last)

pub unseen_step_reads : UnseenStepReads
unseen_step_reads t seed u new_seed s v goes h =
    let F : List Item → Type 0 = λ is. AnswersAlike t seed u new_seed is in
    let same = same_answers t seed u new_seed (step_prog s) (subst F (step_reads t seed s v goes) h) in
    let there : step u new_seed s ≡ Ok v = same.0 ∙ goes in
    (there, step_reads u new_seed s v there ∙ (same.1 ∙ sym (step_reads t seed s v goes)))

pub unseen_reads : UnseenReads
unseen_reads t seed u new_seed zero s there h = (there, λ j below. absurd (omega arith))
unseen_reads t seed u new_seed (suc n) v is h =
    let before = run_before t seed n v is in
    let s : Machine = before.0 in
    let there : run t seed n ≡ Ok s = before.1 in
    let goes : step t seed s ≡ Ok v = sym (run_on t seed n s there) ∙ is in
    let earlier = unseen_reads t seed u new_seed n s there (λ j below. h j (omega arith)) in
    let F : List Item → Type 0 = λ is. AnswersAlike t seed u new_seed is in
    let last = unseen_step_reads t seed u new_seed s v goes (subst F (reads_there t seed n s there) (h n (omega arith))) in
    let here : reads u new_seed n ≡ reads t seed n = reads_there u new_seed n s earlier.0 ∙ (last.1 ∙ sym (reads_there t seed n s there)) in
    (run_on u new_seed n s earlier.0 ∙ last.0, λ j below. below_more (λ i. reads u new_seed i ≡ reads t seed i) n earlier.1 here j (omega arith))

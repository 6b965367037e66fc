-- What the recorded steps answer is the answer of the run from zero.
use Rattle.std.proofs.Common.{◌≡◌, ℕ, ◌≤◌, ◌==◌, nat_lt, false, List, length, Some, None, inl, inr, refl, sym, ap, subst, ◌∙◌, arith}
use Rattle.std.proofs.lemmas.Bool.Decides.{nat_tests}
use Rattle.gw_meaning.specs.declared.item.Outcome.{Outcome}
use Rattle.gw_meaning.specs.Listing.{Listing, seed_at, starts}
use Rattle.gw_meaning.specs.Machine.{Machine}
use Rattle.gw_report.specs.Report.{text_of}
use Rattle.gw_record.specs.Tape.{Tape, Records}
use Rattle.gw_desk.specs.declared.answer.Answer.{Answer}
use Rattle.gw_desk.specs.declared.answer.Answer.TheVariants as answers
use Rattle.gw_desk.specs.Finding.{Point, verdict}
use Rattle.gw_desk.specs.Looking.{IsOpen}
use Rattle.gw_desk.specs.Replies.{told, answer_of, answer_with}
use Rattle.gw_desk.specs.Book.{Book, IsBook, run_in, IsRunOf}
use Rattle.gw_desk.specs.Peeking.{IsUnfinished, Peeks, IsAnswer}

-- the answer for a START that there is
pub answer_is : (t : Listing) (edits rep k seed : ℕ) → seed_at t rep ≡ Some seed → 1 ≤ k → k ≤ starts t →
    answer_of t edits rep k ≡ told t edits rep k (verdict t seed k)
answer_is t edits rep k seed is some there =
    let none : (k == 0) ≡ false = grind (arith, nat_tests) in
    let few : nat_lt (starts t) k ≡ false = grind (arith, nat_tests) in
    ap (λ o. answer_with t edits rep k o) is ∙ rw (none, few) refl

-- what decides is not unfinished
pub not_unfinished : (b : Book) (rep k seed : ℕ) (r : Tape) → seed_at b.version rep ≡ Some seed → run_in b.runs rep ≡ Some r →
    (IsOpen b.version seed k r.moment → ⊥) → (n : ℕ) → IsUnfinished b rep k n → ⊥
not_unfinished b rep k seed r is recorded shut n u =
    let seeds : Some u.seed ≡ Some seed = sym u.with_seed ∙ is in
    let same_seed : u.seed ≡ seed = cc in
    let runs : Some u.run ≡ Some r = sym u.recorded ∙ recorded in
    let same_run : u.run ≡ r = cc in
    let at : n ≡ r.moment = u.steps ∙ ap (λ (x : Tape). x.moment) same_run in
    shut (subst (λ m. IsOpen b.version seed k m) at (subst (λ s. IsOpen b.version s k n) same_seed u.undecided))

-- the run of a replication is there, and is the version's
module _ (b : Book) (rep seed : ℕ) (h : IsBook b) (is : seed_at b.version rep ≡ Some seed) where
  of_run : IsRunOf b.version b.every (Some seed) (run_in b.runs rep)
  of_run = subst (λ o. IsRunOf b.version b.every o (run_in b.runs rep)) is (h.runs rep)

  pub run_there : run_in b.runs rep ≡ None → ⊥
  run_there none = subst (λ o. IsRunOf b.version b.every (Some seed) o) none of_run

  pub run_records : (r : Tape) → run_in b.runs rep ≡ Some r → Records b.version seed r × (r.every ≡ b.every) × (r.start ≡ 0)
  run_records r there = subst (λ o. IsRunOf b.version b.every (Some seed) o) there of_run

-- the report at a point
pub told_there : (t : Listing) (edits rep k seed : ℕ) (s : Machine) (o : Outcome) → seed_at t rep ≡ Some seed → 1 ≤ k → k ≤ starts t →
    verdict t seed k ≡ Point s o →
    answer_of t edits rep k ≡ answers.Ready (record { edits = edits; replication = rep; start = k; text = text_of t rep k s o })
told_there t edits rep k seed s o is some there found =
    answer_is t edits rep k seed is some there ∙ ap (λ v. told t edits rep k v) found

pub peeks_ready : (b : Book) (rep k seed : ℕ) (r : Tape) (text : List ℕ) → seed_at b.version rep ≡ Some seed → run_in b.runs rep ≡ Some r →
    (IsOpen b.version seed k r.moment → ⊥) →
    answer_of b.version (length b.edits) rep k ≡
    answers.Ready (record { edits = length b.edits; replication = rep; start = k; text = text }) →
    Peeks b rep k (answers.Ready (record { edits = length b.edits; replication = rep; start = k; text = text }))
peeks_ready b rep k seed r text is recorded shut answer = (sym answer, not_unfinished b rep k seed r is recorded shut)

-- where the recorded steps decide the answer is that of the run from zero, or out of memory
pub peeks_answer : (b : Book) (rep k : ℕ) (answer : Answer) → Peeks b rep k answer → ((n : ℕ) → IsUnfinished b rep k n → ⊥) →
    IsAnswer (answer_of b.version (length b.edits) rep k) answer
peeks_answer b rep k (answers.Unfinished n) h shut = absurd (shut n h)
peeks_answer b rep k answers.Memory h shut = inr refl
peeks_answer b rep k (answers.Ready report) h shut = inl h.0
peeks_answer b rep k answers.NoStart h shut = inl h.0
peeks_answer b rep k answers.TooLong h shut = inl h.0
peeks_answer b rep k answers.NoReplication h shut = inl h.0

use Rattle.std.proofs.Common.{◌≡◌, ◌≤◌, ℕ, Some, sym, ◌∙◌, ap, subst, arith}
use Rattle.std.proofs.lemmas.Grind.{common_steps}
use Rattle.gw_meaning.specs.Listing.{Listing, seed_at}
use Rattle.gw_desk.specs.Book.{Book}
use Rattle.gw_desk.specs.Peeking.{IsUnfinished}
use Rattle.gw_desk.proofs.FinishLaws.{stopped_shuts}
use Rattle.gw_desk.proofs.PeekLaws.{peeks_answer}
use Rattle.gw_desk.proofs.desk.Desk.finish.Goals as goal

pub returns-in_default-clause-answer : goal.returns-in_default-clause-answer
returns-in_default-clause-answer c = grind (arith, common_steps)

pub returns-in_default-clause-steps : goal.returns-in_default-clause-steps
returns-in_default-clause-steps c = grind (arith, common_steps)

pub returns-in_default-clause-decided : goal.returns-in_default-clause-decided
returns-in_default-clause-decided c = grind (arith, common_steps)

pub returns-then-k-eq0-clause-answer : goal.returns-then-k-eq0-clause-answer
returns-then-k-eq0-clause-answer c = grind (arith, common_steps)

pub returns-then-k-eq0-clause-decided : goal.returns-then-k-eq0-clause-decided
returns-then-k-eq0-clause-decided c = grind (arith, common_steps)

pub make_steps-requires-clause-seed : goal.make_steps-requires-clause-seed
make_steps-requires-clause-seed c = grind (arith, common_steps)

pub make_steps-requires-clause-some : goal.make_steps-requires-clause-some
make_steps-requires-clause-some c = grind (arith, common_steps)

pub answer_reach-requires-clause-some : goal.answer_reach-requires-clause-some
answer_reach-requires-clause-some c = grind (arith, common_steps)

pub answer_reach-requires-clause-there : goal.answer_reach-requires-clause-there
answer_reach-requires-clause-there c = grind (arith, common_steps)

pub answer_reach-requires-clause-seed : goal.answer_reach-requires-clause-seed
answer_reach-requires-clause-seed c = grind (arith, common_steps)

pub answer_reach-requires-clause-reached : goal.answer_reach-requires-clause-reached
answer_reach-requires-clause-reached c = grind (arith, common_steps)

-- what stopped the steps decides
shut : (c : goal.After-answer_reach) (n : ℕ) → IsUnfinished c.make_steps.new.self c.args.rep c.args.k n → ⊥
shut c =
    let HasSeed : Book → Type 0 = λ b. Some c.in-Some.seed ≡ seed_at b.version c.args.rep in
    let old = subst HasSeed c.self.view_is c.in-Some.ensures.value in
    let with_seed = ap (λ (t : Listing). seed_at t c.args.rep) c.make_steps.ensures.steps.version ∙ sym old in
    let some : 1 ≤ c.args.k = omega arith in
    stopped_shuts c.make_steps.new.self c.args.rep c.args.k c.in-Some.seed c.in-Ok.reach c.make_steps.ensures.desk with_seed some c.in-Ok.ensures.reached

pub returns-in-Ok-clause-answer : goal.returns-in-Ok-clause-answer
returns-in-Ok-clause-answer c =
    let steps = c.make_steps.ensures.steps in
    rw (steps.version, steps.edits) at (peeks_answer c.make_steps.new.self c.args.rep c.args.k c.answer_reach.result c.answer_reach.ensures.peeks (shut c))

pub returns-in-Ok-clause-decided : goal.returns-in-Ok-clause-decided
returns-in-Ok-clause-decided c = λ other. rw c.answer_reach.ensures.same (shut c)

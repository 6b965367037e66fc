use Rattle.std.proofs.Common.{◌≡◌, Some, refl, subst, rules}
use Rattle.gw_meaning.specs.Listing.{seed_at}
use Rattle.gw_desk.specs.Book.{Book, run_in}
use Rattle.gw_desk.specs.Legs.{IsAtEnd, GoesOn}
use Rattle.gw_desk.proofs.TakeLaws.{over, is_leg, taken}
use Rattle.gw_desk.proofs.desk.Desk.take.Goals as goal

pub returns-then-branch-clause-takes : goal.returns-then-branch-clause-takes
returns-then-branch-clause-takes c =
    let b = c.args.self.now in
    let run = c.in-Some-run.run'.now in
    let with_seed : seed_at b.version c.args.rep ≡ Some c.in-Some.seed = search rules in
    let there : run_in b.runs c.args.rep ≡ Some run = search rules in
    let ends = rw c.if-branch.true at c.in_ok-is_at_end.ensures in
    over b c.args.rep c.in-Some.seed run with_seed there (subst (λ (x : Book). IsAtEnd x.version c.in-Some.seed run) c.self.view_is ends)

pub invariant_of-result : goal.invariant_of-result
invariant_of-result c =
    let b = c.args.self.now in
    let run = c.in-Some-run.run'.now in
    let with_seed : seed_at b.version c.args.rep ≡ Some c.in-Some.seed = search rules in
    let there : run_in b.runs c.args.rep ≡ Some run = search rules in
    is_leg b c.args.rep c.in-Some.seed run with_seed there c.lemma_is_book.ensures c.in_ok-run.run' (search rules) _ (search rules) (search rules) (search rules)
    (search rules) (search rules) (search rules)

pub returns-clause-takes : goal.returns-clause-takes
returns-clause-takes c =
    let b = c.args.self.now in
    let run = c.in-Some-run.run'.now in
    let with_seed : seed_at b.version c.args.rep ≡ Some c.in-Some.seed = search rules in
    let there : run_in b.runs c.args.rep ≡ Some run = search rules in
    let on = rw c.if-branch.false at c.in_ok-is_at_end.ensures in
    taken b c.args.rep c.in-Some.seed run with_seed there c.lemma_is_book.ensures (subst (λ (x : Book). GoesOn x.version c.in-Some.seed run) c.self.view_is on) c.in_ok-run.run'
    (search rules) _ (search rules) (search rules) (search rules) refl refl refl (search rules)

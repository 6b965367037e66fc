use Rattle.std.proofs.Common.{◌≡◌, Some, sym, subst, ◌∙◌, rules}
use Rattle.gw_record.specs.Tape.{Tape}
use Rattle.gw_desk.specs.Book.{run_in}
use Rattle.gw_desk.specs.Looking.{Sees}
use Rattle.gw_desk.proofs.desk.Desk.peek.Goals as goal

pub answer_look-requires-clause-sees : goal.answer_look-requires-clause-sees
answer_look-requires-clause-sees c = λ r there.
    let b = c.args.self.now in
    let run = c.in-Some-run.run'.now in
    let looked : Sees b.version c.in-Some.seed c.args.k run c.in-Ok.look = search rules in
    let found : run_in b.runs c.args.rep ≡ Some run = search rules in
    let both : Some run ≡ Some r = sym found ∙ there in
    let same : run ≡ r = cc in
    subst (λ (x : Tape). Sees b.version c.in-Some.seed c.args.k x c.in-Ok.look) same looked

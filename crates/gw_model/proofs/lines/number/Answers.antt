use Rattle.std.proofs.Common.{rules, ◌≡◌, ◌+◌, length, ap, ◌∙◌, arith, ◌++◌, ◌∷◌, []}
use Rattle.gw_model.proofs.Numbering.{numbered_more, length-numbered}
use Rattle.gw_model.proofs.lines.number.Goals as goal

pub loop-statement-preserved : goal.loop-statement-preserved
loop-statement-preserved c =
    let n : length c.loop-statement.lines.items ≡ length c.loop-statement.yielded =
    ap length c.loop-statement.invariant ∙ length-numbered 1 c.loop-statement.yielded in
    let pushed : c.put.new.made.items ≡ c.loop-statement.lines.items ++ record { number = c.len.result + 1; statement = c.in-Some.statement } ∷ [] =
    search rules in
    let number : c.len.result + 1 ≡ 1 + length c.loop-statement.yielded = omega (arith, n, c.len.ensures, c.loop-statement.lines.ok) in
    rw (pushed, c.loop-statement.invariant, numbered_more 1 c.loop-statement.yielded c.in-Some.statement (c.len.result + 1) number)

use Rattle.std.proofs.Common.{◌≡◌, ◌+◌, ◌<◌, ◌++◌, ◌∷◌, [], length, take, drop, get_or, ap, sym, ◌∙◌, arith}
use Rattle.std.specs.Prelude.{codes}
use Rattle.std.proofs.lemmas.List.{take_more, take-append-drop}
use Rattle.std.proofs.lemmas.Grind.{common_steps}
use Rattle.gw_script.specs.Answers.{MakesSome}
use Rattle.gw_script.proofs.Reporting.{puts_none, puts_more, makes_more, on_err}
use Rattle.gw_script.proofs.queries.put_reports.Goals as goal

pub loop-number-init : goal.loop-number-init
loop-number-init g c = puts_none g.D.Keeper.does c.args.keeper.now c.args.k c.args.text.now.items

pub returns-in_err-put_one-clause-err : goal.returns-in_err-put_one-clause-err
returns-in_err-put_one-clause-err g c =
    let numbers = c.args.numbers.now in
    let i = c.loop-number.number-index in
    let within : i < length numbers = omega arith in
    let parts : numbers ≡ (take i numbers ++ get_or numbers i 0 ∷ []) ++ drop (i + 1) numbers =
    sym (take-append-drop (i + 1) numbers) ∙ ap (λ t. t ++ drop (i + 1) numbers) (take_more numbers i 0 within) in
    on_err c.from_residual.result (MakesSome g.D.Keeper.does c.args.keeper.now c.args.k numbers c.put_one.new.keeper)
    (makes_more g.D.Keeper.does c.args.k c.args.keeper.now c.loop-number.keeper c.put_one.new.keeper (take i numbers) numbers (drop (i + 1) numbers)
    (get_or numbers i 0) c.args.text.now.items c.loop-number.text.items (codes "memory\n") parts c.loop-number.invariant c.in_err-put_one.ensures.err)

pub loop-number-preserved : goal.loop-number-preserved
loop-number-preserved g c =
    let numbers = c.args.numbers.now in
    let i = c.loop-number.number-index in
    let within : i < length numbers = omega arith in
    puts_more g.D.Keeper.does c.args.k c.args.keeper.now c.loop-number.keeper c.put_one.new.keeper (take i numbers) (take (i + 1) numbers) (get_or numbers i 0)
    c.args.text.now.items c.loop-number.text.items c.put_one.new.text.items (take_more numbers i 0 within)
    c.loop-number.invariant c.in_ok-put_one.ensures.ok

pub returns-clause-ok : goal.returns-clause-ok
returns-clause-ok g c = grind (arith, common_steps)

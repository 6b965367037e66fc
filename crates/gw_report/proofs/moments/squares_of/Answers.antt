use Rattle.std.proofs.Common.{◌≡◌, pos, get_or, arith, rules}
use Rattle.std.proofs.lemmas.List.Sums.{sum_by_more}
use Rattle.gw_report.specs.Tables.{square}
use Rattle.gw_report.proofs.Averages.{square_within}
use Rattle.gw_report.proofs.moments.squares_of.Goals as goal

pub loop-number-preserved : goal.loop-number-preserved
loop-number-preserved c =
    let zs = c.args.numbers.now in
    let i = c.loop-number.number-index in
    let z = get_or zs i (pos 0) in
    let squared : c.from-squares.result ≡ square z = search rules in
    let within = square_within z (c.requires.values i c.loop-number-test.true) in
    let more = sum_by_more square zs i (pos 0) c.loop-number-test.true in
    record {
      value = omega (arith, more, squared, c.loop-number.invariant.value);
      bound = omega (arith, within, squared, c.loop-number.invariant.bound);
    }

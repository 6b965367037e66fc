use Rattle.std.proofs.Common.{◌≡◌, length, decimal, arith, rules}
use Rattle.gw_report.proofs.Laying.{digits_laid}
use Rattle.gw_report.proofs.laid.lay_number.Goals as goal

pub returns : goal.returns
returns c =
    let same : length c.write_digits.new.buf ≡ length c.args.line.now = search rules in
    let start = c.write_digits.ensures.start in
    let fits = c.requires.fits in
    digits_laid c.args.line.now c.write_digits.new.buf (decimal c.args.number) c.args.from c.write_digits.result c.args.end
    (omega (arith, start, fits)) start (omega arith) c.requires.blank c.write_digits.ensures.written c.write_digits.ensures.before same

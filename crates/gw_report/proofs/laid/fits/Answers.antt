use Rattle.std.proofs.Common.{◌<◌, subst, arith}
use Rattle.std.proofs.lemmas.Fmt.{length-decimal-le}
use Rattle.std.proofs.lemmas.Bool.{OnTrue_from, ltb-true}
use Rattle.gw_report.proofs.laid.fits.Goals as goal

pub returns-in-Some : goal.returns-in-Some
returns-in-Some c =
    OnTrue_from _ _ (λ below.
    let least : c.args.number < c.in-Some.power = ltb-true c.args.number c.in-Some.power below in
    length-decimal-le c.args.width c.args.number c.in-Some.ensures.0 (subst (λ p. c.args.number < p) c.in-Some.ensures.1 least) (omega arith))

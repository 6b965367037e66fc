use Rattle.std.proofs.Common.{◌≡◌, ◌+◌, [], drop, sym, ap, ◌∙◌, arith}
use Rattle.std.proofs.lemmas.List.{drop_all}
use Rattle.gw_meaning.specs.Records.{capped}
use Rattle.gw_meaning.specs.Step.{all_granted}
use Rattle.gw_verbs.proofs.grants.all_granted.Goals as goal

pub returns : goal.returns
returns c =
    let grants = c.args.grants.now in
    let done : drop c.loop-grant.grant-index grants ≡ [] = drop_all c.loop-grant.grant-index grants c.loop-grant-test.false in
    let whole : capped (c.loop-grant.sum + 0) ≡ capped (all_granted grants) =
    ap (λ ss. capped (c.loop-grant.sum + all_granted ss)) (sym done) ∙ c.loop-grant.invariant.rest in
    let fits = c.loop-grant.invariant.fits in
    let same : capped (c.loop-grant.sum + 0) ≡ c.loop-grant.sum = grind (arith, fits) in
    sym same ∙ whole

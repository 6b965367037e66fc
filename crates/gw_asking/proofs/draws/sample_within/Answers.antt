use Rattle.std.proofs.Common.{◌≡◌, ℕ, zero, suc, ℤ, false, ◌==◌, Ok, Err, refl, rules}
use Rattle.gw_expr.specs.declared.stop.Stop.TheVariants.{Range}
use Rattle.gw_expr.specs.declared.halt.End.TheVariants as ends
use Rattle.gw_meaning.specs.Evaluation.{Eval, gives, ends_with, draw, in_range, spread, sample_within, ◌~>◌}
use Rattle.gw_expr.specs.declared.halt.Halt.TheVariants as halts
use Rattle.gw_asking.proofs.Binding.{decides_whole, decides_comes}
use Rattle.gw_asking.proofs.draws.sample_within.Goals as goal

drawn : (mean : ℤ) (range : ℕ) → (range == 0) ≡ false → sample_within mean range ≡ (draw 1 ~> (λ x. in_range (spread mean range x)))
drawn mean zero h = absurd cc
drawn mean (suc n) h = refl

pub returns-in-Some : goal.returns-in-Some
returns-in-Some c =
    let t = c.args.run.version.now in
    let seed = c.args.run.seed in
    let rest : ℕ → Eval ℤ = λ x. in_range (spread c.args.mean c.args.range x) in
    let some : (c.args.range == 0) ≡ false = search rules in
    let here : rest c.in_ok-number.number ≡ gives c.in-Some.time = search rules in
    decides_whole t seed (draw 1) rest _ c.in_ok-number.number (Ok c.in-Some.time) c.args.notes.now c.draw.new.notes c.draw.new.notes
    (drawn c.args.mean c.args.range some) c.in_ok-number.ensures
    (decides_comes t seed (rest c.in_ok-number.number) (Ok c.in-Some.time) c.draw.new.notes here)

pub returns-in-None : goal.returns-in-None
returns-in-None c =
    let t = c.args.run.version.now in
    let seed = c.args.run.seed in
    let rest : ℕ → Eval ℤ = λ x. in_range (spread c.args.mean c.args.range x) in
    let some : (c.args.range == 0) ≡ false = search rules in
    let here : rest c.in_ok-number.number ≡ ends_with (ends.Error Range) = search rules in
    rw c.stop.ensures
    (decides_whole t seed (draw 1) rest _ c.in_ok-number.number (Err (halts.End (ends.Error Range))) c.args.notes.now c.draw.new.notes c.draw.new.notes
    (drawn c.args.mean c.args.range some) c.in_ok-number.ensures
    (decides_comes t seed (rest c.in_ok-number.number) (Err (halts.End (ends.Error Range))) c.draw.new.notes here))

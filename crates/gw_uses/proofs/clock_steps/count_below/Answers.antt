use Rattle.std.proofs.Common.{◌≡◌, ◌<◌, ltb, true, false, arith, rules}
use Rattle.std.proofs.lemmas.List.Sorted.{IsPartitionedBy-ltb}
use Rattle.gw_uses.specs.declared.clock_steps.ClockStep.{ClockStep}
use Rattle.gw_uses.proofs.Halves.{passes_until, fails_from}
use Rattle.gw_uses.proofs.clock_steps.count_below.Goals as goal

pub loop-low-preserved-then-s-step : goal.loop-low-preserved-then-s-step
loop-low-preserved-then-s-step c =
    let steps = c.args.steps.now in
    let parts = IsPartitionedBy-ltb (λ (s : ClockStep). s.step) steps c.args.step c.requires in
    let less : c.loop-low.low < c.loop-low.high = search rules in
    let passes : ltb c.at-s.result.now.step c.args.step ≡ true = search rules in
    record {
      order = omega (arith, less);
      within = c.loop-low.invariant.within;
      early = passes_until (λ (s : ClockStep). ltb s.step c.args.step) steps parts _ c.at-s.result.now c.at-s.ensures passes;
      late = c.loop-low.invariant.late;
    }

pub loop-low-preserved : goal.loop-low-preserved
loop-low-preserved c =
    let steps = c.args.steps.now in
    let parts = IsPartitionedBy-ltb (λ (s : ClockStep). s.step) steps c.args.step c.requires in
    let less : c.loop-low.low < c.loop-low.high = search rules in
    let within = c.loop-low.invariant.within in
    let fails : ltb c.at-s.result.now.step c.args.step ≡ false = search rules in
    record {
      order = omega arith;
      within = omega (arith, less, within);
      early = c.loop-low.invariant.early;
      late = fails_from (λ (s : ClockStep). ltb s.step c.args.step) steps parts _ c.at-s.result.now c.at-s.ensures fails;
    }

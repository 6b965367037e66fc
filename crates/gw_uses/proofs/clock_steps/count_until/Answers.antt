use Rattle.std.proofs.Common.{◌≡◌, ◌<◌, leb, true, false, arith, rules}
use Rattle.std.proofs.lemmas.List.Sorted.{IsPartitionedBy-leb}
use Rattle.gw_uses.specs.declared.clock_steps.ClockStep.{ClockStep}
use Rattle.gw_uses.proofs.Halves.{passes_until, fails_from}
use Rattle.gw_uses.proofs.clock_steps.count_until.Goals as goal

pub loop-low-preserved-then-le : goal.loop-low-preserved-then-le
loop-low-preserved-then-le c =
    let steps = c.args.steps.now in
    let parts = IsPartitionedBy-leb (λ (s : ClockStep). s.time) steps c.args.time c.requires in
    let less : c.loop-low.low < c.loop-low.high = search rules in
    let passes : leb c.at-s.result.now.time c.args.time ≡ true = search rules in
    record {
      order = omega (arith, less);
      within = c.loop-low.invariant.within;
      early = passes_until (λ (s : ClockStep). leb s.time c.args.time) steps parts _ c.at-s.result.now c.at-s.ensures passes;
      late = c.loop-low.invariant.late;
    }

pub loop-low-preserved : goal.loop-low-preserved
loop-low-preserved c =
    let steps = c.args.steps.now in
    let parts = IsPartitionedBy-leb (λ (s : ClockStep). s.time) steps c.args.time c.requires in
    let less : c.loop-low.low < c.loop-low.high = search rules in
    let within = c.loop-low.invariant.within in
    let fails : leb c.at-s.result.now.time c.args.time ≡ false = search rules in
    record {
      order = omega arith;
      within = omega (arith, less, within);
      early = c.loop-low.invariant.early;
      late = fails_from (λ (s : ClockStep). leb s.time c.args.time) steps parts _ c.at-s.result.now c.at-s.ensures fails;
    }

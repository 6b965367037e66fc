use Rattle.std.proofs.Common.{◌≡◌, ◌++◌, ◌+◌, ℕ, length, take, ap, sym, subst, ◌∙◌, arith, rules}
use Rattle.std.proofs.lemmas.List.{length-append}
use Rattle.gw_shared.specs.Runs.{IsRun}
use Rattle.gw_report.specs.Moments.{AreValues}
use Rattle.gw_report.proofs.Gathered.{run_taken, run_within, values_behind}
use Rattle.gw_report.proofs.tables.numbers_of.Goals as goal

pub loop-numbers-preserved : goal.loop-numbers-preserved
loop-numbers-preserved c =
    let zs = c.args.values.now in
    let before = c.loop-numbers.numbers.items in
    let run = c.run-run.result.now in
    let at : c.len-in-loop-numbers.result ≡ length before = search rules in
    let is_run = subst (λ (i : ℕ). IsRun zs i run) at c.run-run.ensures.run in
    let put : c.put_run.new.numbers.items ≡ before ++ run = c.in_ok-put_run.ensures.items in
    let long : length c.put_run.new.numbers.items ≡ length before + length run = ap length put ∙ length-append before run in
    record {
      front = put ∙ ap (λ ys. ys ++ run) c.loop-numbers.invariant.front ∙ sym (run_taken zs (length before) run is_run) ∙
          ap (λ (n : ℕ). take n zs) (sym long);
      within = (let w = run_within zs (length before) run c.loop-numbers.invariant.within is_run in omega (arith, w, long));
      values = subst AreValues (sym put) (values_behind before run c.loop-numbers.invariant.values c.in_ok-put_run.ensures.values);
    }

use Rattle.std.proofs.Common.{subst}
use Rattle.gw_touch.specs.Touching.{Touching, touched_in}
use Rattle.gw_touch.specs.Touched.{touched_step, IsKeptOf}
use Rattle.gw_edit.proofs.RebaseLaws.{WentBack, is_rebased}
use Rattle.gw_edit.proofs.rebasing.rebase.Goals as goal

pub returns-clause-rebased : goal.returns-clause-rebased
returns-clause-rebased c = λ yes e u is.
    let t = c.args.old.now in
    let r = c.args.run.now in
    let s = c.go_back.new.run in
    let n = c.args.replication in
    let back : WentBack t e u n r s =
    record {
      records = c.go_back.ensures.records t;
      kept =
          λ a h. subst (λ (x : Touching). IsKeptOf t a r (touched_step (touched_in x n) t a r) s.moment) is
          (c.if-not-go_back.ensures.kept yes t a h);
      every = c.go_back.ensures.every;
      start = c.go_back.ensures.start;
    } in
    is_rebased t e u n r s c.lemma_ids_are_distinct.ensures c.lemma_carries.ensures back

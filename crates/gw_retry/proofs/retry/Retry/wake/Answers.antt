use Rattle.std.proofs.Common.{sym}
use Rattle.gw_meaning.specs.Changes.{is_woken}
use Rattle.gw_retry.proofs.Sifted.{all_stay}
use Rattle.gw_retry.proofs.retry.Retry.wake.Goals as goal

pub returns-then-is_untouched-clause-waiters : goal.returns-then-is_untouched-clause-waiters
returns-then-is_untouched-clause-waiters c =
    sym (all_stay (is_woken c.args.written.now) c.args.self.now.waiters (c.is_untouched.ensures c.if-is_untouched.true))

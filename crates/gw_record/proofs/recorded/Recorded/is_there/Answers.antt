use Rattle.std.proofs.Common.{sym, eqb-true}
use Rattle.gw_record.proofs.recorded.Recorded.is_there.Goals as goal

pub returns-in-Some : goal.returns-in-Some
returns-in-Some c = record {
  yes = λ same.
      let value = rw c.deref.ensures.value at c.in-Some.ensures.value in
      rw (← c.self.view_is) (_, c.in-Some.last.now, sym value, eqb-true _ _ same);
}

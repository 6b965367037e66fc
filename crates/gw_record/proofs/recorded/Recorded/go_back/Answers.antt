use Rattle.std.proofs.Common.{◌∙◌, refl}
use Rattle.gw_record.proofs.KeepLaws.{due_all}
use Rattle.gw_record.proofs.recorded.Recorded.go_back.Goals as goal

pub returns : goal.returns
returns c =
    let few = rw c.as_slice.ensures.value at c.count_before-count.ensures.bound in
    let parts = rw c.as_slice.ensures.value at c.count_before-count.ensures.parts in
    rw (← c.self.view_is) (record {
      every = refl;
      start = refl;
      moment = refl;
      tip = c.replace.ensures.after;
      kept = refl;
      count = c.count_before-count.result;
      few = few;
      ends = c.truncate.ensures.items;
      before = parts;
      firsts = c.go_back.ensures.each;
      clock = c.go_back.ensures.clock;
    })

pub invariant_of-self : goal.invariant_of-self
invariant_of-self c =
    let ahead = c.steps_ahead-self-inside.ensures in
    (ahead.within, ahead.multiple, due_all _ _ _ _ _, rw c.replace.ensures.after (c.go_back.ensures.drawn ∙ c.streams.ensures))

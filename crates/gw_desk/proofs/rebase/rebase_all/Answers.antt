use Rattle.std.proofs.Common.{get_or, refl, rules}
use Rattle.gw_desk.specs.declared.recording.Recording.{Recording}
use Rattle.gw_desk.specs.Rebasing.{IsRebasedRecording}
use Rattle.gw_desk.proofs.RebaseLaws.{one_more, rest_stays}
use Rattle.gw_desk.proofs.rebase.rebase_all.Goals as goal

pub loop-recording-preserved : goal.loop-recording-preserved
loop-recording-preserved c =
    let t = c.args.old.now in
    let known = c.loop-recording.invariant in
    let cur = c.loop-recording.recording-items in
    let i = c.loop-recording.recording-index in
    let y = c.recording-item.result in
    let x : Recording = record { number = (get_or cur i y).number; run = c.rebase.new.run } in
    record {
      count = search rules;
      done = λ e u touch.
          (let now : IsRebasedRecording t e u (get_or cur i y) x =
          record { number = refl; run = λ zero. c.rebase.ensures.rebased (c.rebase.ensures.zero zero) e u touch } in
          one_more t e u c.args.runs.now.items cur i x known.count (search rules) (known.done e u touch) known.rest y now);
      rest = rest_stays c.args.runs.now.items cur i x known.rest;
    }

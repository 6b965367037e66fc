use Rattle.std.proofs.Common.{◌≤◌, length, drop, rules}
use Rattle.gw_desk.proofs.FateLaws.{front_of}
use Rattle.gw_desk.proofs.post.is_front.Goals as goal

pub returns-clause-yes : goal.returns-clause-yes
returns-clause-yes c = λ yes.
    let front = c.args.front.now in
    let all = c.args.edits.now in
    let n = c.loop-place.place in
    let whole : length front ≤ n = search rules in
    (drop n all, front_of front all n whole c.loop-place.invariant)

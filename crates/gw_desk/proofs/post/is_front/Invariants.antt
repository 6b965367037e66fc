use Rattle.std.proofs.Common.{◌≡◌, take}
use Rattle.gw_desk.proofs.post.is_front.Given as goal

abbrev pub invariant-loop-place : goal.invariant-loop-place
invariant-loop-place l = take l.place l.fn.front ≡ take l.place l.fn.edits

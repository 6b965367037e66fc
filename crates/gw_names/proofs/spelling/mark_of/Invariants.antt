use Rattle.std.proofs.Common.{◌≡◌, drop}
use Rattle.gw_names.specs.Heads.{mark_from, mark_of}
use Rattle.gw_names.proofs.spelling.mark_of.Given as goal

-- the bytes that are left come after those that were read
abbrev pub invariant-loop-byte : goal.invariant-loop-byte
invariant-loop-byte l = mark_from l.mark (drop l.byte-index l.bytes) ≡ mark_of l.bytes

use Rattle.std.proofs.Common.{◌≡◌, ◌<◌, length, refl, arith, rules}
use Rattle.gw_edit.specs.Applied.{applied}
use Rattle.gw_edit.specs.Faults.{Refuses}
use Rattle.gw_edit.specs.Leading.{version_of}
use Rattle.gw_bench.proofs.Refusals.{refusal_says}
use Rattle.gw_bench.proofs.pass.Pass.put_next.Goals as goal

pub returns-in-Err : goal.returns-in-Err
returns-in-Err g c =
    let opening = g.N.RowName.opening in
    let front = c.args.self.now in
    let e = c.args.edit.now in
    let refuses : Refuses c.in-Err.fault (applied (version_of opening front) e) = rw (← c.version.ensures) c.in-Err.ensures in
    let number = c.len-number in
    let within : number.result < c.len.result = search rules in
    let room : length front < 4096 = omega (arith, within, number.ensures.length, c.len.ensures.count) in
    let says = refusal_says opening front e c.in-Err.fault number.result number.ensures.length room refuses in
    rw c.refusal_of.ensures (record { ok = tt; err = (refl, says) })

use Rattle.std.proofs.Common.{◌≡◌, ◌≤◌, length, ap, arith}
use Rattle.gw_meaning.proofs.Texts.{name_is_short}
use Rattle.gw_meaning.proofs.statement.Statement.label_len.Goals as goal

pub returns-in-Some-clause-bound : goal.returns-in-Some-clause-bound
returns-in-Some-clause-bound c =
    let same : length c.as_bytes.result.now ≡ length c.in-Some.label = ap length c.as_bytes.ensures.bytes in
    let short : length c.in-Some.label ≤ 200 = name_is_short c.in-Some.label c.in-Some.label c.as_bytes.ensures.is_name in
    omega arith

use Rattle.std.proofs.Common.{◌≡◌, length, rules}
use Rattle.gw_meaning.specs.Machine.{delay_at}
use Rattle.gw_report.specs.Layout.{row_of}
use Rattle.gw_report.specs.Storages.{storage_line}
use Rattle.gw_report.proofs.storages.put_storage.Goals as goal

pub returns : goal.returns
unfolding storage_line row_of
returns c = λ t units.
    let s = c.args.state.now in
    let delayed : c.len-delayed.result ≡ length (delay_at s.delays c.args.key.now) = search rules in
    search (rules, delayed, units)

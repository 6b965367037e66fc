use Rattle.std.proofs.Common.{◌≡◌, length, unwrap_or, rules}
use Rattle.gw_meaning.specs.Machine.{delay_at}
use Rattle.gw_report.specs.Layout.{row_of}
use Rattle.gw_report.specs.Facilities.{facility_line}
use Rattle.gw_report.proofs.facilities.put_facility.Goals as goal

pub returns : goal.returns
unfolding facility_line row_of
returns c =
    let s = c.args.state.now in
    let delayed : c.len-delayed.result ≡ length (delay_at s.delays c.args.key.now) = search rules in
    let owner : c.unwrap_or.result ≡ unwrap_or c.args.facility.owner 0 = search rules in
    search (rules, delayed, owner)

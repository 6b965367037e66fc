use Rattle.std.proofs.Common.{◌≡◌, ◌++◌, sym, arith, rules}
use Rattle.gw_names.specs.declared.key.Key.{Key}
use Rattle.gw_meaning.specs.Records.{Store}
use Rattle.gw_report.specs.Layout.{row_of}
use Rattle.gw_report.specs.Storages.{storage_columns, storage_line}
use Rattle.gw_report.proofs.Rows.{none_left}
use Rattle.gw_report.proofs.Sections.{row_more}
use Rattle.gw_report.proofs.storages.storage_lines.Goals as goal
use Rattle.gw_report.proofs.storages.storage_lines.Goals.{in-Some+in_ok-put_storage, in_default}

pub loop-index-preserved : goal.loop-index-preserved
loop-index-preserved c =
    let t = c.args.version.now in
    let s = c.args.state.now in
    let storages = c.storages-storages.result.now in
    elim c.match-at.branch [
      | in-Some+in_ok-put_storage w ↦
          let f : Key × Store = (w.in-Some.key.now, w.in-Some.storage) in
          let put : c.match-at.lines ≡ c.loop-index.lines ++ row_of storage_columns (storage_line t s f) = search rules in
          row_more storage_columns (storage_line t s) storages c.loop-index.index f c.loop-index.lines
          c.match-at.lines _ (sym w.in-Some.ensures) put c.loop-index.invariant
      | in_default w ↦ absurd (none_left storages c.loop-index.index (omega arith) (sym w.in_default.ensures))
    ]

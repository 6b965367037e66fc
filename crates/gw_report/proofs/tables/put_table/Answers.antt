use Rattle.std.proofs.Common.{◌≡◌, ◌++◌, ap, ap₂, ◌∙◌, append_assoc, rules}
use Rattle.std.proofs.lemmas.Result.{on_ok_weaker}
use Rattle.gw_meaning.specs.declared.watched.EntityKind.TheVariants as kinds
use Rattle.gw_meaning.specs.declared.watched.Watched.TheVariants as watched
use Rattle.gw_meaning.specs.Changes.{retries}
use Rattle.gw_report.specs.Layout.{row_of, rows_of}
use Rattle.gw_report.specs.Tables.{table_columns, table_row, scale_lines, table_lines}
use Rattle.gw_report.proofs.tables.put_table.Goals as goal

pub returns : goal.returns
unfolding table_lines
returns c =
    let t = c.args.version.now in
    let s = c.args.state.now in
    let key = c.args.key.now in
    let values = c.args.values.now in
    let numbers : c.as_slice.result.now ≡ values = c.as_slice.ensures.value ∙ c.in_ok-numbers.ensures.numbers in
    let same : c.as_slice-2.result.now ≡ values = c.as_slice-2.ensures.value ∙ c.in_ok-numbers.ensures.numbers in
    let waiting : c.count-retry.result ≡ retries s (watched.Entity kinds.Table key) = search rules in
    let first = row_of table_columns (table_row c.count-retry.result key c.as_slice.result.now) in
    let classes = rows_of table_columns (scale_lines c.classes_of.result c.as_slice-2.result.now) in
    let rows : first ++ classes ≡ rows_of table_columns (table_lines t s (key, values)) =
    ap₂ ◌++◌ (ap₂ (λ retry zs. row_of table_columns (table_row retry key zs)) waiting numbers)
    (ap₂ (λ scale zs. rows_of table_columns (scale_lines scale zs)) c.classes_of.ensures same) in
    on_ok_weaker c.put_classes.result (λ put. put ∙ ap (λ l. l ++ classes) c.in_ok-put_first.ensures ∙
    append_assoc c.args.out.now first classes ∙ ap (λ l. c.args.out.now ++ l) rows) c.put_classes.ensures

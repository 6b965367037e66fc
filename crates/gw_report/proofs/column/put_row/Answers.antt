use Rattle.std.proofs.Common.{◌≡◌, ◌++◌, ◌⊎◌, [], map, ap, sym, ◌∙◌, inl, inr}
use Rattle.std.specs.Slice.Iter.{iter_rest}
use Rattle.std.specs.Iterator.Adapters.{zip_first, zip_second}
use Rattle.std.proofs.lemmas.Result.{on_ok_weaker}
use Rattle.std.proofs.lemmas.Slice.Zip.{either_empty_from_Zip}
use Rattle.gw_report.specs.Layout.{blanks, row_of, row_behind}
use Rattle.gw_report.specs.Cells.{column_of, text_of_cell}
use Rattle.gw_report.proofs.Rows.{row_ended}
use Rattle.gw_report.proofs.column.put_row.Goals as goal

pub returns : goal.returns
unfolding row_of
returns c =
    let it = c.loop-column.column-iterator in
    let columns = map column_of (iter_rest (zip_first it)) in
    let texts = map text_of_cell (iter_rest (zip_second it)) in
    let none : (columns ≡ []) ⊎ (texts ≡ []) = elim (either_empty_from_Zip it c.next.new.self c.next.result c.in-None.is c.next.ensures.steps) [
      | inl e ↦ inl (ap (λ xs. map column_of xs) e)
      | inr e ↦ inr (ap (λ xs. map text_of_cell xs) e)
    ] in
    let ended = row_ended (blanks c.loop-column.gap) columns texts none in
    on_ok_weaker c.end_row.result (λ end. end ∙ ap (λ t. c.loop-column.sheet ++ t) (sym ended) ∙ c.loop-column.invariant.row ∙
    ap (λ t. t ++ row_behind [] (map column_of c.args.columns.now) (map text_of_cell c.args.cells.now)) c.make_room.ensures) c.end_row.ensures

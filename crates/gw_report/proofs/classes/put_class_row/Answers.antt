use Rattle.std.proofs.Common.{◌++◌, ◌∷◌, [], ap, ◌∙◌, decimal}
use Rattle.std.proofs.lemmas.Result.{on_ok_weaker}
use Rattle.gw_report.specs.declared.column.Side.TheVariants.{Left, Right}
use Rattle.gw_report.specs.Layout.{blanks, fitted, row_of}
use Rattle.gw_report.specs.Cells.{decimals}
use Rattle.gw_report.proofs.Rows.{cell_then}
use Rattle.gw_report.proofs.classes.put_class_row.Goals as goal

pub returns : goal.returns
unfolding row_of
returns c =
    let gap = blanks 1 in
    let name = fitted Left 10 [] in
    let moment = fitted Right 14 [] in
    let range = fitted Right 25 c.args.range.now in
    let retry = fitted Right 5 [] in
    let count = fitted Right 9 (decimal c.args.count) in
    let part = fitted Right 7 (decimals c.args.part) in
    let behind_count = gap ++ (part ++ 10 ∷ []) in
    let behind_retry = gap ++ (count ++ behind_count) in
    let behind_range = gap ++ (retry ++ behind_retry) in
    let behind_second = gap ++ (range ++ behind_range) in
    let behind_first = gap ++ (moment ++ behind_second) in
    let behind_name = gap ++ (moment ++ behind_first) in
    on_ok_weaker c.end_row.result (λ end. end
    ∙ cell_then c.put_number.new.self gap part (10 ∷ []) c.put_thousandths.new.sheet c.in_ok-put_thousandths.ensures
    ∙ cell_then c.put_text-5.new.self gap count behind_count c.put_number.new.self c.in_ok-put_number.ensures
    ∙ cell_then c.put_text-4.new.self gap retry behind_retry c.put_text-5.new.self c.in_ok-put_text-5.ensures
    ∙ cell_then c.put_text-3.new.self gap range behind_range c.put_text-4.new.self c.in_ok-put_text-4.ensures
    ∙ cell_then c.put_text-2.new.self gap moment behind_second c.put_text-3.new.self c.in_ok-put_text-3.ensures
    ∙ cell_then c.put_text.new.self gap moment behind_first c.put_text-2.new.self c.in_ok-put_text-2.ensures
    ∙ cell_then c.make_room.new.self [] name behind_name c.put_text.new.self c.in_ok-put_text.ensures
    ∙ ap (λ l. l ++ (name ++ behind_name)) c.make_room.ensures) c.end_row.ensures

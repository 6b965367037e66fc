use Rattle.std.proofs.Common.{◌++◌, ◌∷◌, [], ap, ◌∙◌, decimal, append_assoc}
use Rattle.std.proofs.lemmas.Result.{on_ok_weaker}
use Rattle.gw_report.specs.declared.column.Side.TheVariants.{Left, Right}
use Rattle.gw_report.specs.Layout.{blanks, fitted, row_of}
use Rattle.gw_report.specs.Cells.{decimals}
use Rattle.gw_report.specs.Entities.{key_text}
use Rattle.gw_report.proofs.Rows.{cell_then}
use Rattle.gw_report.proofs.tables.put_head_row.Goals as goal

pub returns : goal.returns
unfolding row_of
returns c =
    let gap = blanks 1 in
    let name = fitted Left 10 (key_text c.args.key.now) in
    let mean = fitted Right 14 c.args.mean.now in
    let deviation = fitted Right 14 (decimals c.args.deviation) in
    let range = fitted Right 25 [] in
    let retry = fitted Right 5 (decimal c.args.retry) in
    let behind_range = gap ++ (retry ++ 10 ∷ []) in
    let behind_deviation = gap ++ (range ++ behind_range) in
    let behind_mean = gap ++ (deviation ++ behind_deviation) in
    let behind_name = gap ++ (mean ++ behind_mean) in
    on_ok_weaker c.end_row.result (λ end. end
    ∙ cell_then c.put_text-2.new.self gap retry (10 ∷ []) c.put_number.new.self c.in_ok-put_number.ensures
    ∙ cell_then c.put_thousandths.new.sheet gap range behind_range c.put_text-2.new.self c.in_ok-put_text-2.ensures
    ∙ cell_then c.put_text.new.self gap deviation behind_deviation c.put_thousandths.new.sheet c.in_ok-put_thousandths.ensures
    ∙ cell_then c.put_key.new.out gap mean behind_mean c.put_text.new.self c.in_ok-put_text.ensures
    ∙ ap (λ l. l ++ behind_name) c.in_ok-put_key.ensures
    ∙ ap (λ l. (l ++ name) ++ behind_name) c.make_room.ensures
    ∙ append_assoc c.args.out.now name behind_name) c.end_row.ensures

use Rattle.std.proofs.Common.{◌≡◌, ◌++◌, ◌∷◌, [], ap, sym, ◌∙◌, refl, rules, decimal}
use Rattle.std.proofs.lemmas.Result.{on_ok_weaker}
use Rattle.gw_meaning.specs.declared.watched.Watched.TheVariants as watched
use Rattle.gw_meaning.specs.Changes.{retries}
use Rattle.gw_meaning.specs.Machine.{count_at}
use Rattle.gw_report.specs.declared.column.Side.TheVariants.{Left, Right}
use Rattle.gw_report.specs.Layout.{blanks, fitted, row_of}
use Rattle.gw_report.specs.Blocks.{block_columns, block_line}
use Rattle.gw_report.proofs.Rows.{cell_then}
use Rattle.gw_report.proofs.Sections.{block_shown}
use Rattle.gw_report.proofs.blocks.put_block.Goals as goal

pub returns : goal.returns
unfolding block_line row_of
returns c =
    let t = c.args.version.now in
    let s = c.args.state.now in
    let line = c.args.line.now in
    let count = c.count-count.result in
    let label = fitted Left 10 c.label_text.result.now in
    let position = fitted Right 5 (decimal c.position_of.result) in
    let word = fitted Left 10 c.word.result.now in
    let entries = fitted Right 11 (decimal count.entries) in
    let content = fitted Right 13 (decimal count.content) in
    let waiters = retries s (watched.Counts line.number) in
    let waiting : c.count-retry.result ≡ waiters = search rules in
    let retry = fitted Right 6 (decimal c.count-retry.result) in
    let gap = blanks 1 in
    let behind_content = gap ++ (retry ++ 10 ∷ []) in
    let behind_entries = gap ++ (content ++ behind_content) in
    let behind_word = gap ++ (entries ++ behind_entries) in
    let behind_position = gap ++ (word ++ behind_word) in
    let behind_label = gap ++ (position ++ behind_position) in
    let cells : row_of block_columns (c.label_text.result.now ∷ decimal c.position_of.result ∷ c.word.result.now ∷
    decimal count.entries ∷ decimal count.content ∷ decimal c.count-retry.result ∷ []) ≡
    row_of block_columns (block_line t line c.in-Block.block (count_at s.counts line.number) waiters) =
    rw (c.label_text.ensures, c.position_of.ensures, c.word.ensures, c.count-count.ensures, waiting) refl in
    on_ok_weaker c.end_row.result (λ end. end
    ∙ cell_then c.put_number-3.new.self gap retry (10 ∷ []) c.put_number-4.new.self c.in_ok-put_number-4.ensures
    ∙ cell_then c.put_number-2.new.self gap content behind_content c.put_number-3.new.self c.in_ok-put_number-3.ensures
    ∙ cell_then c.put_text-2.new.self gap entries behind_entries c.put_number-2.new.self c.in_ok-put_number-2.ensures
    ∙ cell_then c.put_number.new.self gap word behind_word c.put_text-2.new.self c.in_ok-put_text-2.ensures
    ∙ cell_then c.put_text.new.self gap position behind_position c.put_number.new.self c.in_ok-put_number.ensures
    ∙ cell_then c.make_room.new.self [] label behind_label c.put_text.new.self c.in_ok-put_text.ensures
    ∙ ap (λ l. l ++ (label ++ behind_label)) c.make_room.ensures
    ∙ ap (λ r. c.args.out.now ++ r) (cells ∙ sym (block_shown t s line c.in-Block.block c.in-Block.is))) c.end_row.ensures

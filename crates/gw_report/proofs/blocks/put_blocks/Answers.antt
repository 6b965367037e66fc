use Rattle.std.proofs.Common.{◌++◌, ap, ◌∙◌}
use Rattle.std.specs.List.{flat_map}
use Rattle.std.proofs.lemmas.List.{take_all}
use Rattle.std.proofs.lemmas.Result.{on_ok_weaker}
use Rattle.gw_report.specs.Layout.{rows_of}
use Rattle.gw_report.specs.Cells.{under_heading}
use Rattle.gw_report.specs.Blocks.{block_columns, block_lines, blocks_text}
use Rattle.gw_report.proofs.Sections.{rows_joined}
use Rattle.gw_report.proofs.blocks.put_blocks.Goals as goal

pub returns : goal.returns
unfolding blocks_text
returns c =
    let whole = take_all c.loop-line.line-index c.lines-line-items.result.now c.loop-line-test.false ∙ c.lines-line-items.ensures.value in
    let done = c.loop-line.invariant ∙ ap (λ xs. flat_map (λ x. rows_of block_columns (block_lines c.args.version.now c.args.state.now x)) xs) whole in
    let lines = c.as_slice.ensures ∙ done ∙ rows_joined block_columns (block_lines c.args.version.now c.args.state.now) c.args.version.now.lines in
    let rows = rows_of block_columns (flat_map (block_lines c.args.version.now c.args.state.now) c.args.version.now.lines) in
    on_ok_weaker c.put_table.result (λ put. put ∙ ap (λ l. c.args.out.now.items ++ under_heading c.block_heading.result.now l) lines ∙
    ap (λ h. c.args.out.now.items ++ under_heading h rows) c.block_heading.ensures) c.put_table.ensures

use Rattle.std.proofs.Common.{◌++◌, ap, ◌∙◌}
use Rattle.std.proofs.lemmas.Result.{on_ok_weaker}
use Rattle.gw_report.specs.Layout.{rows_of}
use Rattle.gw_report.specs.Cells.{if_any}
use Rattle.gw_report.specs.Names.{name_columns, name_lines, names_in, names_text}
use Rattle.gw_report.specs.NameKeys.{names_among}
use Rattle.gw_report.proofs.Naming.{among_keys}
use Rattle.gw_report.proofs.Sections.{section_shown}
use Rattle.gw_report.proofs.names.put_names.Goals as goal

pub returns : goal.returns
unfolding names_text
returns c =
    let t = c.args.version.now in
    let names = ap names_among (c.as_slice.ensures.keys ∙ c.in_ok-names.ensures) ∙ among_keys (names_in t) in
    let lines = c.as_slice-2.ensures ∙ c.in_ok-lines.ensures ∙ ap (λ ns. rows_of name_columns (name_lines t 10000 ns)) names in
    let rows = name_lines t 10000 (names_in t) in
    on_ok_weaker c.put_section.result (λ put. put ∙ ap (λ l. c.args.out.now.items ++ if_any c.name_heading.result.now l) lines ∙
    ap (λ h. c.args.out.now.items ++ if_any h (rows_of name_columns rows)) c.name_heading.ensures ∙
    ap (λ l. c.args.out.now.items ++ l) (section_shown name_columns rows)) c.put_section.ensures

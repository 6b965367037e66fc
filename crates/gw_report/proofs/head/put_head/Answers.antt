use Rattle.std.proofs.Common.{◌≡◌, ◌++◌, ◌∷◌, [], ap, sym, ◌∙◌, refl, append-nil, decimal, filter, length, rules}
use Rattle.std.proofs.lemmas.Result.{on_ok_weaker}
use Rattle.gw_meaning.specs.Listing.{is_block}
use Rattle.gw_report.specs.Layout.{row_of, rows_of}
use Rattle.gw_report.specs.Cells.{under_heading}
use Rattle.gw_report.specs.Report.{head_columns, head_text}
use Rattle.gw_report.proofs.head.put_head.Goals as goal

pub returns : goal.returns
unfolding head_text row_of
returns c =
    let t = c.args.version.now in
    let s = c.args.state.now in
    let facilities : c.len.result ≡ length s.entities.facilities = search rules in
    let storages : c.len-2.result ≡ length s.entities.storages = search rules in
    let told = decimal c.ticks.result ∷ decimal c.ticks-2.result ∷ decimal c.blocks-2.result ∷ decimal c.len.result ∷ decimal c.len-2.result ∷ [] in
    let row =
    decimal s.since ∷ decimal s.clock ∷ decimal (length (filter is_block t.lines)) ∷ decimal (length s.entities.facilities) ∷
    decimal (length s.entities.storages) ∷ [] in
    let cells : row_of head_columns told ≡ row_of head_columns row =
    rw (c.ticks.ensures.value, c.ticks-2.ensures.value, c.since.ensures, c.clock.ensures, c.blocks-2.ensures, facilities, storages) refl in
    let line : c.as_slice.result.now ≡ rows_of head_columns (row ∷ []) =
    c.as_slice.ensures ∙ c.in_ok-put_row.ensures ∙ ap (λ l. l ++ row_of head_columns told)
    c.new-line.ensures ∙ cells ∙ sym (append-nil (row_of head_columns row)) in
    on_ok_weaker c.put_table.result (λ put. put ∙ ap (λ l. c.args.out.now.items ++ under_heading c.head_heading.result.now l) line ∙
    ap (λ h. c.args.out.now.items ++ under_heading h (rows_of head_columns (row ∷ []))) c.head_heading.ensures) c.put_table.ensures

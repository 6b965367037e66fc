use Rattle.std.proofs.Common.{◌≡◌, ◌++◌, ℕ, List, [], ◌∷◌, map, refl, ap, ◌∙◌}
use Rattle.std.specs.List.{flat_map}
use Rattle.std.proofs.lemmas.List.{take_all}
use Rattle.gw_meaning.specs.declared.transaction.Event.{Event}
use Rattle.gw_report.specs.Layout.{row_of, rows_of}
use Rattle.gw_report.specs.Chains.{future_columns, future_line}
use Rattle.gw_report.proofs.future.future_lines.Goals as goal

-- lines of one row each
rows_each : (f : Event → List (List ℕ)) (es : List Event) → flat_map (λ e. row_of future_columns (f e)) es ≡ rows_of future_columns (map f es)
rows_each f [] = refl
rows_each f (e ∷ es) = ap (λ l. row_of future_columns (f e) ++ l) (rows_each f es)

pub returns : goal.returns
returns c =
    let t = c.args.version.now in
    let whole = take_all c.loop-event.event-index c.deref-event-items.result.now c.loop-event-test.false ∙ c.deref-event-items.ensures.value in
    c.loop-event.invariant
    ∙ ap (λ es. flat_map (λ (e : Event). row_of future_columns (future_line t e)) es) whole
    ∙ rows_each (future_line t) c.in_ok-events.events.items
    ∙ ap (λ es. rows_of future_columns (map (future_line t) es)) c.in_ok-events.ensures

use Rattle.std.proofs.Common.{◌≡◌, ◌+◌, ◌≤◌, ◌<◌, true, false, length, [], sym, ap, ◌∙◌, arith}
use Rattle.std.specs.Prelude.{unwrap_or}
use Rattle.std.specs.List.{All, list_any}
use Rattle.std.proofs.lemmas.List.Elements.{All-weaker}
use Rattle.std.proofs.lemmas.List.Sums.{length-filter, count_by-le-length}
use Rattle.std.proofs.lemmas.Option.{slice_get_within}
use Rattle.gw_meaning.specs.Watching.{is_watched}
use Rattle.gw_retry.specs.declared.retry.Waiting.{Waiting}
use Rattle.gw_retry.specs.Waiting.{is_written, IsListed}
use Rattle.gw_retry.proofs.Grouped.{count_start, count_same, count_next, count_all, goes_below}
use Rattle.gw_retry.proofs.waking.count_woken.Goals as goal
use Rattle.gw_retry.proofs.waking.count_woken.Goals.{then-is_written, else-is_written}

pub loop-place-init : goal.loop-place-init
loop-place-init c = record {
  count = count_start (is_written c.args.readings.now.lists c.args.written.now) c.args.waiting.now.items;
  end = c.len-place-end.ensures;
}

pub overflow_add-count : goal.overflow_add-count
overflow_add-count c =
    let lists = c.args.readings.now.lists in
    let written = c.args.written.now in
    let ws = c.args.waiting.now.items in
    let place = c.loop-place.place in
    let now : is_written lists written place ≡ true =
    ap (λ o. list_any (is_watched written) (unwrap_or o [])) c.list.ensures ∙ (sym c.is_written.ensures ∙ c.if-is_written.true) in
    let test = goes_below (is_written lists written) (place + 1) in
    omega (
      arith,
      c.loop-place.invariant.count,
      count_next (is_written lists written) place ws now,
      length-filter test ws,
      count_by-le-length test ws,
      c.count_group-count.ensures.count,
      c.count_group-count.ensures.bound,
    )

pub loop-place-preserved : goal.loop-place-preserved
loop-place-preserved c =
    let lists = c.args.readings.now.lists in
    let written = c.args.written.now in
    let ws = c.args.waiting.now.items in
    let place = c.loop-place.place in
    let was = c.loop-place.invariant in
    let read : is_written lists written place ≡ list_any (is_watched written) c.list.result.now =
    ap (λ o. list_any (is_watched written) (unwrap_or o [])) c.list.ensures in
    elim c.if-is_written.branch [
      | then-is_written w ↦
          let now : is_written lists written place ≡ true = read ∙ (sym c.is_written.ensures ∙ w.if-is_written.true) in
          rw w.count-is record {
            count = omega (arith, was.count, count_next (is_written lists written) place ws now, w.count_group-count.ensures.count);
            end = was.end;
          }
      | else-is_written w ↦
          let now : is_written lists written place ≡ false = read ∙ (sym c.is_written.ensures ∙ w.if-is_written.false) in
          rw w.count-is record { count = was.count ∙ count_same (is_written lists written) place ws now; end = was.end }
    ]

pub returns : goal.returns
returns c =
    let r = c.args.readings.now in
    let ws = c.args.waiting.now.items in
    let place = c.loop-place.place in
    let end : length r.lists ≤ place = omega (arith, c.loop-place.invariant.end, c.loop-place-test.false) in
    let below : All (λ (w : Waiting). w.place < place) ws =
    All-weaker (IsListed r) (λ (w : Waiting). w.place < place)
    (λ w h. omega (arith, end, slice_get_within r.lists w.place h.list h.there)) ws c.requires.listed in
    c.loop-place.invariant.count ∙ ap length (count_all (is_written r.lists c.args.written.now) place ws below)

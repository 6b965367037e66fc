use Rattle.std.proofs.Common.{◌≡◌, ◌≤◌, ◌<◌, ◌++◌, true, false, not, length, filter, [], sym, ap, ◌∙◌, append_assoc, append-nil, arith}
use Rattle.std.specs.Prelude.{unwrap_or}
use Rattle.std.specs.List.{All, list_any}
use Rattle.std.proofs.lemmas.List.{length-append}
use Rattle.std.proofs.lemmas.List.Elements.{All-weaker, All-filter}
use Rattle.std.proofs.lemmas.List.Kept.{IsNonDecreasingBy-filter}
use Rattle.std.proofs.lemmas.Option.{slice_get_within}
use Rattle.gw_meaning.specs.Watching.{is_watched}
use Rattle.gw_retry.specs.declared.retry.Waiting.{Waiting}
use Rattle.gw_retry.specs.Groups.{is_at}
use Rattle.gw_retry.specs.Waiting.{is_written, IsListed}
use Rattle.gw_retry.proofs.Grouped.{next_goes, others_stay, left_next, left_gone, none_left}
use Rattle.gw_retry.proofs.Sifted.{all_stay}
use Rattle.gw_retry.proofs.waking.take_woken.Goals as goal
use Rattle.gw_retry.proofs.waking.take_woken.Goals.{then-is_written, else-is_written}

pub take_group-requires-clause-room : goal.take_group-requires-clause-room
take_group-requires-clause-room c =
    let lists = c.args.readings.now.lists in
    let written = c.args.written.now in
    let items = c.loop-place.waiting.items in
    let place = c.loop-place.place in
    let was = c.loop-place.invariant in
    let now : is_written lists written place ≡ true =
    ap (λ o. list_any (is_watched written) (unwrap_or o [])) c.list.ensures ∙ (sym c.is_written.ensures ∙ c.if-is_written.true) in
    let next = next_goes (is_written lists written) place items was.grouped was.left now in
    omega (
      arith,
      was.room,
      ap length next,
      length-append (filter (is_at place) items)
          (filter (λ (w : Waiting). is_written lists written w.place) (filter (λ (w : Waiting). not (is_at place w)) items)),
    )

pub take_group-requires-clause-capacity : goal.take_group-requires-clause-capacity
take_group-requires-clause-capacity c =
    let lists = c.args.readings.now.lists in
    let written = c.args.written.now in
    let items = c.loop-place.waiting.items in
    let place = c.loop-place.place in
    let was = c.loop-place.invariant in
    let now : is_written lists written place ≡ true =
    ap (λ o. list_any (is_watched written) (unwrap_or o [])) c.list.ensures ∙ (sym c.is_written.ensures ∙ c.if-is_written.true) in
    let next = next_goes (is_written lists written) place items was.grouped was.left now in
    omega (
      arith,
      was.capacity,
      ap length next,
      length-append (filter (is_at place) items)
          (filter (λ (w : Waiting). is_written lists written w.place) (filter (λ (w : Waiting). not (is_at place w)) items)),
    )

pub loop-place-preserved : goal.loop-place-preserved
loop-place-preserved c =
    let r = c.args.readings.now in
    let written = c.args.written.now in
    let items = c.loop-place.waiting.items in
    let going = c.loop-place.going.items in
    let place = c.loop-place.place in
    let was = c.loop-place.invariant in
    let read : is_written r.lists written place ≡ list_any (is_watched written) c.list.result.now =
    ap (λ o. list_any (is_watched written) (unwrap_or o [])) c.list.ensures in
    let others = filter (λ (w : Waiting). not (is_at place w)) items in
    let rest = filter (λ (w : Waiting). is_written r.lists written w.place) others in
    elim c.if-is_written.branch [
      | then-is_written w ↦
          let now : is_written r.lists written place ≡ true = read ∙ (sym c.is_written.ensures ∙ w.if-is_written.true) in
          let next : filter (λ (v : Waiting). is_written r.lists written v.place) items ≡ filter (is_at place) items ++ rest =
          next_goes (is_written r.lists written) place items was.grouped was.left now in
          let left = w.take_group.ensures.waiting in
          let long = length-append (filter (is_at place) items) rest in
          let same : length (filter (λ (v : Waiting). is_written r.lists written v.place) w.take_group.new.waiting.items) ≡ length rest =
          ap (λ l. length (filter (λ (v : Waiting). is_written r.lists written v.place) l)) left in
          rw (w.waiting-is, w.going-is) record {
            listed = rw left (All-filter (λ (v : Waiting). not (is_at place v)) (IsListed r) items was.listed);
            grouped =
                rw left (IsNonDecreasingBy-filter (λ (v : Waiting). v.place) (λ (v : Waiting). not (is_at place v)) items was.grouped);
            left = rw left (left_gone (is_written r.lists written) place items was.left);
            going = rw (left, w.take_group.ensures.going)
                (append_assoc going (filter (is_at place) items) rest ∙ (ap (λ l. going ++ l) (sym next) ∙ was.going));
            waiting = rw left (others_stay (is_written r.lists written) place items now ∙ was.waiting);
            room = omega (arith, was.room, ap length next, long, same, w.take_group.ensures.room);
            capacity =
                omega (arith, was.capacity, ap length next, long, same, w.take_group.ensures.len, w.take_group.ensures.capacity);
            end = was.end;
          }
      | else-is_written w ↦
          let now : is_written r.lists written place ≡ false = read ∙ (sym c.is_written.ensures ∙ w.if-is_written.false) in
          rw (w.waiting-is, w.going-is) record {
            listed = was.listed;
            grouped = was.grouped;
            left = left_next (is_written r.lists written) place items was.left now;
            going = was.going;
            waiting = was.waiting;
            room = was.room;
            capacity = was.capacity;
            end = was.end;
          }
    ]

pub returns-clause-going : goal.returns-clause-going
returns-clause-going c =
    let r = c.args.readings.now in
    let written = c.args.written.now in
    let items = c.loop-place.waiting.items in
    let was = c.loop-place.invariant in
    let end : length r.lists ≤ c.loop-place.place = omega (arith, was.end, c.loop-place-test.false) in
    let below : All (λ (w : Waiting). w.place < c.loop-place.place) items =
    All-weaker (IsListed r) (λ (w : Waiting). w.place < c.loop-place.place)
    (λ w h. omega (arith, end, slice_get_within r.lists w.place h.list h.there)) items was.listed in
    sym (append-nil c.loop-place.going.items) ∙ (ap (λ l. c.loop-place.going.items ++ l)
    (sym (none_left (is_written r.lists written) c.loop-place.place items was.left below)) ∙ was.going)

pub returns-clause-waiting : goal.returns-clause-waiting
returns-clause-waiting c =
    let r = c.args.readings.now in
    let written = c.args.written.now in
    let items = c.loop-place.waiting.items in
    let was = c.loop-place.invariant in
    let end : length r.lists ≤ c.loop-place.place = omega (arith, was.end, c.loop-place-test.false) in
    let below : All (λ (w : Waiting). w.place < c.loop-place.place) items =
    All-weaker (IsListed r) (λ (w : Waiting). w.place < c.loop-place.place)
    (λ w h. omega (arith, end, slice_get_within r.lists w.place h.list h.there)) items was.listed in
    sym (all_stay (λ (w : Waiting). is_written r.lists written w.place) items
    (none_left (is_written r.lists written) c.loop-place.place items was.left below)) ∙ was.waiting

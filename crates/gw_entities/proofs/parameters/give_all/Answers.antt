use Rattle.std.proofs.Common.{◌≡◌, suc, ◌+◌, ◌-◌, length, sym, ap, ◌∙◌, arith}
use Rattle.gw_entities.specs.Owned.{said_by}
use Rattle.gw_meaning.specs.Parameters.{all_inherited, inherited}
use Rattle.gw_entities.specs.Keeping.{grouped}
use Rattle.gw_entities.proofs.Inherited.{room_for_one, room_for_rest}
use Rattle.gw_entities.proofs.parameters.give_all.Goals as goal

pub give-requires-clause-room : goal.give-requires-clause-room
give-requires-clause-room c =
    let left = c.args.count - (c.loop-copy._copy + 1) in
    let more : c.args.count - c.loop-copy._copy ≡ suc left = omega (arith, c.loop-copy-test.true) in
    room_for_one (length c.args.values.now) (c.args.count - c.loop-copy._copy) left c.loop-copy.own.room more c.loop-copy.invariant.room

pub loop-copy-preserved : goal.loop-copy-preserved
loop-copy-preserved c =
    let count = c.args.count - c.loop-copy._copy in
    let left = c.args.count - (c.loop-copy._copy + 1) in
    let more : count ≡ suc left = omega (arith, c.loop-copy-test.true) in
    let values = said_by c.args.own.now.keys c.args.values.now in
    let given : grouped c.give.new.own.entries ≡ inherited values c.loop-copy.number (grouped c.loop-copy.own.entries) =
    c.give.ensures.given ∙
    ap (λ ks. inherited (said_by ks c.args.values.now) c.loop-copy.number (grouped c.loop-copy.own.entries)) c.loop-copy.invariant.keys in
    record {
      keys = c.give.ensures.keys ∙ c.loop-copy.invariant.keys;
      room = room_for_rest (length c.args.values.now) count left c.loop-copy.own.room c.give.new.own.room more c.loop-copy.invariant.room c.give.ensures.room;
      rising = c.give.ensures.rising;
      given =
          ap (λ n. all_inherited left values n (grouped c.give.new.own.entries)) c.saturating_add-number.ensures ∙
          (ap (all_inherited left values _) given ∙
          (ap (λ n. all_inherited n values c.loop-copy.number (grouped c.loop-copy.own.entries)) (sym more) ∙ c.loop-copy.invariant.given));
    }

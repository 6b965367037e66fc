use Rattle.std.proofs.Common.{◌+◌, ◌<◌, length, refl, sym, ap, ◌∙◌, subst, arith, rules}
use Rattle.std.proofs.lemmas.Option.{slice_get_read}
use Rattle.gw_entities.specs.Owned.{AreRising}
use Rattle.gw_entities.specs.Keeping.{grouped}
use Rattle.gw_entities.proofs.Inherited.{known_at, given_more}
use Rattle.gw_entities.proofs.ItemLaws.{some_key, key_read}
use Rattle.gw_entities.proofs.OwnLaws.{rising_with}
use Rattle.gw_entities.proofs.parameters.give.Goals as goal

pub put-requires-clause-key : goal.put-requires-clause-key
put-requires-clause-key c =
    let values = c.args.values.now in
    let i = c.loop-item.item-index in
    let within : i < length values = search rules in
    let there = slice_get_read values (length values) i c.item-item.result refl within c.item-item.is in
    let known = known_at (length c.args.own.now.keys) values i c.item-item.result c.requires.known there in
    rw c.loop-item.invariant.keys known

pub loop-item-preserved : goal.loop-item-preserved
loop-item-preserved c =
    let ks = c.args.own.now.keys in
    let item = c.item-item.result in
    let i = c.loop-item.item-index in
    let values = c.args.values.now in
    let within : i < length values = search rules in
    let there = slice_get_read values (length values) i item refl within c.item-item.is in
    let known = known_at (length ks) values i item c.requires.known there in
    let (k, at) = some_key ks item.key known in
    let now = c.put.ensures.entries k (rw c.loop-item.invariant.keys at) in
    record {
      keys = c.put.ensures.keys ∙ c.loop-item.invariant.keys;
      room = omega (arith, c.put.ensures.room, c.loop-item.invariant.room);
      rising = subst AreRising (sym now) (rising_with c.args.number k item.value c.loop-item.own.entries c.loop-item.invariant.rising);
      given =
          ap grouped now ∙
          given_more ks values i (i + 1) item c.args.number c.loop-item.own.entries (grouped c.args.own.now.entries) k item.value (omega arith)
          there (ap (λ key. (key, item.value)) (key_read ks item.key k at)) c.loop-item.invariant.rising c.loop-item.invariant.given;
    }

use Rattle.std.proofs.Common.{◌≡◌, ◌≤◌, ◌+◌, ◌-◌, length, ◌<◌, rules, drop, refl, ap, ◌∙◌, arith}
use Rattle.std.proofs.lemmas.List.{length_push, length-drop}
use Rattle.std.proofs.lemmas.List.Edits.{length-insert}
use Rattle.gw_shared.proofs.Full as full
use Rattle.gw_shared.specs.Lists.{joined}
use Rattle.gw_shared.proofs.Laws.{insert_behind, push_behind}
use Rattle.gw_shared.proofs.long.LongList.insert.Goals as goal
use Rattle.gw_shared.proofs.long.LongList.insert.Goals.{then-index-self, else-index-self}

pub returns-clause-items : goal.returns-clause-items
returns-clause-items g c =
    let xs = joined c.self.inside.chunks.items in
    let gone = c.self.inside.gone in
    let (long, less, most, are) = c.self.invariant in
    let within : gone ≤ length xs = omega (arith, long, less) in
    elim c.if-index-self.branch [
      | then-index-self w ↦
          let last = w.if-index-self.true in
          let at : c.args.index ≡ length xs - gone = omega (arith, long, last) in
          rw (w.self-inside-is, ← c.self.view_is)
          (ap (λ l. drop gone l) w.push_in.ensures.items ∙ push_behind xs gone c.args.index c.args.x within at)
      | else-index-self w ↦ rw (w.self-inside-is, ← c.self.view_is)
          (ap (λ l. drop gone l) w.insert_in.ensures.items ∙ insert_behind xs gone c.args.index (gone + c.args.index) c.args.x refl within)
    ]

pub invariant_of-self : goal.invariant_of-self
invariant_of-self g c =
    let cs = c.self.inside.chunks.items in
    let xs = joined cs in
    let j = c.self.inside.gone + c.args.index in
    let (long, less, most, are) = c.self.invariant in
    let room : c.self.inside.total < 9223372036854775807 = search rules in
    elim c.if-index-self.branch [
      | then-index-self w ↦
          let e = ap (λ l. length l) w.push_in.ensures.items ∙ length_push xs c.args.x in
          rw w.self-inside-is (
            omega (arith, e, long),
            omega (arith, less),
            omega (arith, room),
            w.one_more_full-self-inside.ensures,
          )
      | else-index-self w ↦
          let there = rw (← c.self.view_is) at c.requires.within in
          let behind = length-drop c.self.inside.gone xs in
          let within : j ≤ length xs = omega (arith, there, behind, long, less) in
          let e = ap (λ l. length l) w.insert_in.ensures.items ∙ length-insert xs j c.args.x within in
          let is = w.min-self-inside.ensures in
          let m = w.min-self-inside.result in
          rw w.self-inside-is (
            omega (arith, e, long),
            omega (arith, less),
            omega (arith, room),
            w.insert_in.ensures.full m (omega (arith, is)) (full.fewer c.self.inside.full m cs are (omega (arith, is))),
          )
    ]

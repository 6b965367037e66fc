use Rattle.std.proofs.Common.{◌≡◌, ◌<◌, ◌++◌, ◌∷◌, [], List, length, option_to_list, ap, sym, subst, arith}
use Rattle.gw_meaning.specs.declared.edit.Edit.{Edit}
use Rattle.gw_edit.specs.Leading.{accepted}
use Rattle.gw_desk.specs.Book.{Book}
use Rattle.gw_bench.specs.Growing.{Kept, IsHeld, Settles}
use Rattle.gw_bench.proofs.GrowLaws.{accepted_fits, held_on}
use Rattle.gw_bench.proofs.held.Held.take_one.Goals as goal

pub settle-requires : goal.settle-requires
settle-requires g c =
    let front : c.self.inside.pass ≡ c.args.self.now.front = ap (λ (k : Kept). k.front) c.self.view_is in
    let room : length c.self.inside.pass < 4096 = subst (λ (es : List Edit). length es < 4096) (sym front) c.requires.room.1 in
    let fits = accepted_fits g.N.RowName.opening c.self.inside.pass in
    let edits : length c.self.inside.desk.edits ≡ length (accepted g.N.RowName.opening c.self.inside.pass) = ap length c.self.invariant.edits in
    omega (arith, room, fits, edits)

pub invariant_of-self-2 : goal.invariant_of-self-2
invariant_of-self-2 g c =
    let e : Edit = c.in-Some.edit.now in
    let front : c.push.new.self ≡ c.self.inside.pass ++ e ∷ [] = rw (← ap option_to_list c.in-Some.ensures.value.0) c.push.ensures in
    let settled : Settles c.self.inside.desk e c.settle.new.desk =
    subst (λ (d : Edit). Settles c.self.inside.desk d c.settle.new.desk) c.in_ok-mine.ensures c.in_ok-settle.ensures.ok in
    subst (λ (es : List Edit). IsHeld g.N.RowName.opening (record { front = es; book = c.settle.new.desk })) (sym front)
    (held_on g.N.RowName.opening c.self.inside.pass c.self.inside.desk c.settle.new.desk e c.self.invariant settled)

use Rattle.std.proofs.Common.{◌≡◌, ◌<◌, List, length, sym, subst, arith}
use Rattle.std.specs.Vec.{vec_capacity}
use Rattle.once_cell.specs.declared.race.note.Note.{Note}
use Rattle.gw_meaning.specs.declared.edit.Edit.{Edit}
use Rattle.gw_bench.specs.Fronts.{front_of, Follows}
use Rattle.gw_bench.proofs.Fronts.{grows, front-grows, stands-length}
use Rattle.gw_bench.proofs.pass.Pass.push.Goals as goal

pub push_reserved-requires : goal.push_reserved-requires
push_reserved-requires g c =
    let ns : List (Note Edit) = c.self.inside.notes.items in
    let long : length (front_of ns) ≡ length ns = stands-length g.N.RowName.boxes ns c.self.invariant.stands in
    let room : length (front_of ns) < 4096 = rw c.self.view_is c.requires.room in
    omega (arith, c.self.invariant.room)

pub invariant_of-self : goal.invariant_of-self
invariant_of-self g c =
    let ns : List (Note Edit) = c.self.inside.notes.items in
    let F : List Edit → Type 0 = λ front. Follows g.N.RowName.boxes g.N.RowName.opening front c.args.note c.args.version in
    grows g.N.RowName.boxes g.N.RowName.opening (vec_capacity c.self.inside.notes) (vec_capacity c.push_reserved.new.self) ns c.push_reserved.new.self.items c.args.note c.self.inside.version c.args.version
    c.self.invariant (subst F (sym c.self.view_is) c.requires) c.push_reserved.ensures.capacity c.push_reserved.ensures.items

pub returns : goal.returns
returns g c = front-grows c.self.inside.notes.items c.push_reserved.new.self.items c.args.note c.args.self.now c.self.view_is c.push_reserved.ensures.items

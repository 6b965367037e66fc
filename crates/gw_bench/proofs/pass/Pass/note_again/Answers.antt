use Rattle.std.proofs.Common.{◌≡◌, ◌<◌, List, length, sym, ◌∙◌, arith}
use Rattle.once_cell.specs.declared.race.note.Note.{Note}
use Rattle.gw_meaning.specs.declared.edit.Edit.{Edit}
use Rattle.gw_bench.specs.Fronts.{front_of}
use Rattle.gw_bench.proofs.Fronts.{stands-length}
use Rattle.gw_bench.proofs.Meets.{stands-at, stands-get}
use Rattle.gw_bench.proofs.pass.Pass.note_again.Goals as goal

pub index-requires : goal.index-requires
index-requires g c =
    let ns : List (Note Edit) = c.self.inside.notes.items in
    let long : length (front_of ns) ≡ length ns = stands-length g.N.RowName.boxes ns c.self.invariant.stands in
    let front : c.args.number < length (front_of ns) = rw c.self.view_is c.requires in
    omega arith

pub returns : goal.returns
returns g c =
    let ns : List (Note Edit) = c.self.inside.notes.items in
    let n : Note Edit = c.index.result.now in
    let long : length (front_of ns) ≡ length ns = stands-length g.N.RowName.boxes ns c.self.invariant.stands in
    let front : c.args.number < length (front_of ns) = rw c.self.view_is c.requires in
    let at = stands-at g.N.RowName.boxes ns c.args.number n c.self.invariant.stands (omega arith) c.index.ensures in
    rw (c.second.ensures, ← c.self.view_is) (at.0, at.1 ∙ sym (stands-get g.N.RowName.boxes ns c.args.number c.self.invariant.stands))

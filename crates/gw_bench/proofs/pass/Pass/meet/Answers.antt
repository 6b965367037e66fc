use Rattle.std.proofs.Common.{sym, ◌∙◌, arith, below_more}
use Rattle.once_cell.specs.declared.race.note.Note.{Note}
use Rattle.gw_meaning.specs.declared.edit.Edit.{Edit}
use Rattle.gw_bench.proofs.Meets.{stands-at, agree-known, meets}
use Rattle.gw_bench.proofs.pass.Pass.meet.Goals as goal

pub agree-requires : goal.agree-requires
agree-requires g c =
    let m : Note Edit = c.index.result.now in
    let n : Note Edit = c.index-in-notes.result.now in
    let a = stands-at g.N.RowName.boxes c.self.inside.notes.items c.notes.number m c.self.invariant.stands (omega arith) c.index.ensures in
    let b = stands-at g.N.RowName.boxes c.other.inside.notes.items c.notes.number n c.other.invariant.stands (omega arith) c.index-in-notes.ensures in
    b.0 ∙ sym a.0

pub notes-preserved : goal.notes-preserved
notes-preserved g c =
    let m : Note Edit = c.index.result.now in
    let n : Note Edit = c.index-in-notes.result.now in
    let a = stands-at g.N.RowName.boxes c.self.inside.notes.items c.notes.number m c.self.invariant.stands (omega arith) c.index.ensures in
    let b = stands-at g.N.RowName.boxes c.other.inside.notes.items c.notes.number n c.other.invariant.stands (omega arith) c.index-in-notes.ensures in
    below_more _ _ c.notes.invariant (sym a.1 ∙ (agree-known m.known n.known a.2.0 b.2.0 a.2.1 b.2.1 c.agree.ensures ∙ b.1))

pub returns : goal.returns
returns g c =
    rw (← c.self.view_is, ← c.other.view_is)
    (meets g.N.RowName.boxes c.self.inside.notes.items c.other.inside.notes.items c.self.invariant.stands c.other.invariant.stands (λ k lt lt'. c.notes.invariant k (omega arith)))

-- What a refusal says of the front that was seen.
use Rattle.std.proofs.Common.{◌≡◌, ◌<◌, ℕ, List, length, Result, Err, refl, arith}
use Rattle.gw_meaning.specs.Listing.{Listing}
use Rattle.gw_meaning.specs.declared.edit.Edit.{Edit}
use Rattle.gw_edit.specs.declared.fault.EditFault.{EditFault}
use Rattle.gw_edit.specs.declared.fault.EditFault.TheVariants.{NoSuchPlace, BadStatement, BadModel, NoSuchReplication, ReplicationTwice, NoSuchStorage, Memory, HistoryFull}
use Rattle.gw_edit.specs.Applied.{applied}
use Rattle.gw_edit.specs.Faults.{Refuses}
use Rattle.gw_edit.specs.Leading.{version_of}
use Rattle.gw_desk.specs.Book.{Book}
use Rattle.gw_desk.specs.Editing.{Refuses as Refuses_at}
use Rattle.gw_bench.specs.Faults.{Says, refusal_of}
use Rattle.gw_bench.specs.Growing.{IsOwn, Settles}

pub refusal_says : (opening : Listing) (front : List Edit) (e : Edit) (fault : EditFault) (n : ℕ) → n ≡ length front →
    length front < 4096 → Refuses fault (applied (version_of opening front) e) → Says (refusal_of fault n) opening front e
refusal_says opening front e NoSuchPlace n is room h = (is, room, h)
refusal_says opening front e (BadStatement line) n is room h = (is, room, h)
refusal_says opening front e (BadModel model) n is room h = (is, room, h)
refusal_says opening front e NoSuchReplication n is room h = (is, room, h)
refusal_says opening front e ReplicationTwice n is room h = (is, room, h)
refusal_says opening front e NoSuchStorage n is room h = (is, room, h)
refusal_says opening front e Memory n is room h = tt
refusal_says opening front e HistoryFull n is room h = (is, room, h)

-- a desk that has room refuses an edit for the version's own fault, and stays
pub refused_settles : (b : Book) (e : Edit) (fault : EditFault) → length b.edits < 4096 → Refuses_at b e fault → IsOwn fault → Settles b e b
refused_settles b e NoSuchPlace room h own = Settles.refuses NoSuchPlace h.1
refused_settles b e (BadStatement line) room h own = Settles.refuses (BadStatement line) h.1
refused_settles b e (BadModel model) room h own = Settles.refuses (BadModel model) h.1
refused_settles b e NoSuchReplication room h own = Settles.refuses NoSuchReplication h.1
refused_settles b e ReplicationTwice room h own = Settles.refuses ReplicationTwice h.1
refused_settles b e NoSuchStorage room h own = Settles.refuses NoSuchStorage h.1
refused_settles b e Memory room h own = absurd own
refused_settles b e HistoryFull room h own = absurd (omega (arith, room, h))

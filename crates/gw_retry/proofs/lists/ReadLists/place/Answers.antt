use Rattle.std.proofs.Common.{◌≡◌, Some}
use Rattle.std.specs.List.{find}
use Rattle.std.specs.Cmp.Lexicographic.{pointwise}
use Rattle.std.specs.Global.{Vec}
use Rattle.gw_entities.proofs.QueueArrivalLaws.{find_passes}
use Rattle.gw_meaning.specs.declared.watched.Watched.{Watched}
use Rattle.gw_meaning.specs.Watching.{same_watched}
use Rattle.gw_retry.proofs.Kept.{stored_is}
use Rattle.gw_retry.proofs.lists.ReadLists.place.Goals as goal

pub returns-in-Some : goal.returns-in-Some
returns-in-Some c =
    let vs = c.self.inside.lists.keys in
    let v = c.in-Some.field-0-1.now in
    let read = c.args.read.now in
    let found : Some v ≡ find (λ (u : Vec Watched). pointwise same_watched read u.items) vs = c.in-Some.ensures.key in
    let same = find_passes (λ (u : Vec Watched). pointwise same_watched read u.items) vs v found in
    rw (← c.self.view_is) (stored_is vs c.in-Some.index v read c.in-Some.ensures.stored same)

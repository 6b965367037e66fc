use Rattle.std.proofs.Common.{◌≡◌, Some, rules}
use Rattle.gw_meaning.specs.declared.item.Item.TheVariants as items
use Rattle.gw_meaning.specs.Listing.{block_at}
use Rattle.gw_asking.specs.Noted.{Asks, Tries}
use Rattle.gw_scan.proofs.Courses.{goes_tried}
use Rattle.gw_scan.proofs.attempt.attempt.Goals as goal

pub returns-in-Some-3 : goal.returns-in-Some-3
returns-in-Some-3 g c =
    let t = c.args.run.version.now in
    let s = g.R.Course.machine c.args.course.now in
    let x = c.in-Some.x.now in
    let id = c.in-Some-2.id in
    let b = c.in-Some-3.block.now in
    let active : s.active ≡ Some x = search rules in
    let there : block_at t id ≡ Some b = search rules in
    let tried : Tries t x x.destination (Some id) c.args.notes.now c.ask_next.new.notes = search rules in
    let asked : Asks c.ask_next.new.notes (items.Block id) c.ask_block.new.notes = search rules in
    goes_tried t c.args.run.seed g.R.Course.makes s x id b _ _ _ _ _ _ _ active tried there asked c.meet.ensures

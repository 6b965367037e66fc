use Rattle.std.proofs.Common.{rules, ◌≡◌, Some, ap, ◌∙◌}
use Rattle.gw_meaning.specs.declared.moves.Change.TheVariants as changes
use Rattle.gw_meaning.specs.declared.moves.Fate.TheVariants as fates
use Rattle.gw_meaning.specs.Changes.{placed, crossed, changed, entering, woken}
use Rattle.gw_meaning.specs.Machine.{Machine}
use Rattle.gw_state.specs.declared.parts.Parts.{Parts}
use Rattle.gw_state.specs.States.{machine_of}
use Rattle.gw_state.proofs.Quiet.{not_entered}
use Rattle.gw_state.proofs.Kept.{entered_is}
use Rattle.gw_state.proofs.parts.Parts.enter_unlinking.Goals as goal

pub returns-in_default-clause-ok : goal.returns-in_default-clause-ok
returns-in_default-clause-ok c = not_entered (machine_of c.args.self.now) c.args.id (changes.Unlink c.args.key.now c.args.count c.args.to) fates.Active (search rules)

pub returns-clause-ok : goal.returns-clause-ok
returns-clause-ok c =
    let s = machine_of c.args.self.now in
    let x = c.in-Some.x.now in
    let active : s.active ≡ Some x = search rules in
    let list = c.in_ok-written.written.things in
    let m : Machine = record s {
      counts = crossed fates.Active s.counts x.current c.args.id;
      active = Some (placed x c.args.id);
    } in
    let p : Parts = record c.cross.new.self { active = Some c.placed.result } in
    let same : record m { linked = c.prepare_with.new.self.linked; current = c.reserve_for.new.current.items } ≡ m = search rules in
    let made : machine_of p ≡ record m { linked = c.unlink.new.self; current = c.unlink.new.current.items } = search rules in
    let before : machine_of p ≡ entering s x c.args.id (changes.Unlink c.args.key.now c.args.count c.args.to) fates.Active =
    made ∙ (c.in_ok-unlink.ensures.ok m ∙ ap (changed (changes.Unlink c.args.key.now c.args.count c.args.to)) same) in
    entered_is s _ x c.args.id (changes.Unlink c.args.key.now c.args.count c.args.to) fates.Active list active c.in_ok-written.ensures.wakes (c.wake.ensures ∙ ap (woken list) before)

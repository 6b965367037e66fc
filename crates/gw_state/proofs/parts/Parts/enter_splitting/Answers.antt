use Rattle.std.proofs.Common.{rules, ◌≡◌, [], Some, ap, ◌∙◌}
use Rattle.gw_meaning.specs.declared.moves.Change.TheVariants as changes
use Rattle.gw_meaning.specs.declared.moves.Fate.TheVariants as fates
use Rattle.gw_meaning.specs.Changes.{placed, crossed, all_copied, entering, woken}
use Rattle.gw_meaning.specs.Machine.{Machine}
use Rattle.gw_meaning.specs.Parameters.{values_at, all_inherited}
use Rattle.gw_state.specs.declared.parts.Parts.{Parts}
use Rattle.gw_state.specs.States.{machine_of}
use Rattle.gw_state.proofs.Quiet.{not_entered}
use Rattle.gw_state.proofs.Kept.{entered_is, split_is}
use Rattle.gw_state.proofs.parts.Parts.enter_splitting.Goals as goal

pub returns-in_default-clause-ok : goal.returns-in_default-clause-ok
returns-in_default-clause-ok c = not_entered (machine_of c.args.self.now) c.args.id (changes.Split c.args.count c.args.to) fates.Active (search rules)

pub returns-clause-ok : goal.returns-clause-ok
returns-clause-ok c =
    let s = machine_of c.args.self.now in
    let x = c.in-Some.x.now in
    let active : s.active ≡ Some x = search rules in
    let list = c.in_ok-written.written.things in
    let values = values_at s.parameters x.number in
    let m : Machine = record s {
      counts = crossed fates.Active s.counts x.current c.args.id;
      active = Some (placed x c.args.id);
    } in
    let q : Parts = record c.cross.new.self { active = Some c.placed.result } in
    let is : machine_of q ≡ record m { parameters = all_inherited c.args.count values m.next m.parameters } = search rules in
    let p : Parts = c.copy_all.new.self in
    let kept = ap (λ (r : Parts). r.parameters) c.copy_all.ensures.rest in
    let copied : machine_of p ≡ all_copied c.args.count c.args.to (placed x c.args.id) [] (machine_of q) = search rules in
    let before : machine_of p ≡ entering s x c.args.id (changes.Split c.args.count c.args.to) fates.Active =
    split_is c.args.count c.args.to (placed x c.args.id) values p q m copied kept is in
    entered_is s _ x c.args.id (changes.Split c.args.count c.args.to) fates.Active list active c.in_ok-written.ensures.wakes (c.wake.ensures ∙ ap (woken list) before)

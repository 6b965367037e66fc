use Rattle.std.proofs.Common.{rules, ◌≡◌, List, [], ◌∷◌, ◌++◌, Some, sym, ap, ◌∙◌, append-nil}
use Rattle.gw_meaning.specs.declared.moves.Change.TheVariants as changes
use Rattle.gw_meaning.specs.declared.moves.Fate.TheVariants as fates
use Rattle.gw_meaning.specs.declared.watched.Watched.{Watched}
use Rattle.gw_meaning.specs.declared.watched.Watched.TheVariants as watched
use Rattle.gw_meaning.specs.Changes.{placed, crossed, crossings, update_grants, admitted, entering, woken}
use Rattle.gw_meaning.specs.Entities.{done}
use Rattle.gw_meaning.specs.Machine.{Machine, delay_at}
use Rattle.gw_meaning.specs.Watching.{kind_of}
use Rattle.gw_state.specs.Waking.{WakesAs, crossed_by}
use Rattle.gw_state.specs.declared.parts.Parts.{Parts}
use Rattle.gw_state.specs.States.{machine_of}
use Rattle.gw_state.proofs.Quiet.{not_entered}
use Rattle.gw_state.proofs.Kept.{entered_is}
use Rattle.gw_state.proofs.parts.Parts.enter_doing.Goals as goal

pub returns-in_default-clause-ok : goal.returns-in_default-clause-ok
returns-in_default-clause-ok c = not_entered (machine_of c.args.self.now) c.args.id (changes.Entity (c.args.key.now, c.args.update.now)) fates.Active (search rules)

pub returns-clause-ok : goal.returns-clause-ok
returns-clause-ok c =
    let s = machine_of c.args.self.now in
    let x = c.in-Some.x.now in
    let active : s.active ≡ Some x = search rules in
    let list = c.in_ok-written.written.things in
    let m : Machine = record s {
      counts = crossed fates.Active s.counts x.current c.args.id;
      entities = done c.args.key.now c.args.update.now s.clock x.number s.entities;
      active = Some (placed x c.args.id);
    } in
    let q : Parts = record c.cross.new.self { active = Some c.placed.result } in
    let is : machine_of q ≡ m = search rules in
    let p : Parts = c.admit.new.self in
    let before : machine_of p ≡ entering s x c.args.id (changes.Entity (c.args.key.now, c.args.update.now)) fates.Active =
    c.admit.ensures.admitted ∙ ap (admitted c.args.key.now c.args.update.now) is in
    let ws : List Watched =
    watched.Entity (kind_of c.args.update.now) c.args.key.now
    ∷ crossings (update_grants c.args.update.now) (delay_at s.delays c.args.key.now) in
    let listed : WakesAs s.retry list (crossed_by x.current c.args.id ++ ws) = search rules in
    let wakes : WakesAs s.retry list (crossed_by x.current c.args.id ++ (ws ++ [])) =
    λ n same. listed n same ∙ ap (λ vs. woken (crossed_by x.current c.args.id ++ vs) n) (sym (append-nil ws)) in
    entered_is s _ x c.args.id (changes.Entity (c.args.key.now, c.args.update.now)) fates.Active list active wakes (c.wake.ensures ∙ ap (woken list) before)
